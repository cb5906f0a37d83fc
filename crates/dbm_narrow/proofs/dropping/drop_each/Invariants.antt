use Rattle.std.proofs.Common.{◌≡◌, ◌<◌, ◌≤◌, ℕ}
use Rattle.dbm_narrow.specs.Entries.{at, dropped}
use Rattle.dbm_narrow.proofs.dropping.drop_each.Given as goal

abbrev pub invariant-loop-j : goal.invariant-loop-j
invariant-loop-j gen l = record {
  done : (a : ℕ) → a < l.j → at gen.W.Width.unit l.row a ≡ dropped gen.W.Width.unit l.slot l.i a (at gen.W.Width.unit l.fn.row a);
  rest : (a : ℕ) → l.j ≤ a → at gen.W.Width.unit l.row a ≡ at gen.W.Width.unit l.fn.row a;
}

use Rattle.std.proofs.Common.{◌≡◌, ◌<◌, ◌≤◌, ℕ}
use Rattle.dbm_narrow.specs.Entries.{at}
use Rattle.dbm_narrow.proofs.standing.copy_row.Given as goal

abbrev pub invariant-loop-j : goal.invariant-loop-j
invariant-loop-j gen l = record {
  done : (a : ℕ) → a < l.j → at gen.W.Width.unit l.row a ≡ at gen.W.Width.unit l.from a;
  rest : (a : ℕ) → l.j ≤ a → at gen.W.Width.unit l.row a ≡ at gen.W.Width.unit l.fn.row a;
}

use Rattle.std.proofs.Common.{◌≡◌, ◌<◌, ◌≤◌, ℕ}
use Rattle.dbm_narrow.specs.Entries.{at, strengthened_by}
use Rattle.dbm_narrow.proofs.rows.strengthen.Given as goal

abbrev pub invariant-loop-j : goal.invariant-loop-j
invariant-loop-j gen l = record {
  done : (k : ℕ) → k < l.j → at gen.W.Width.unit l.row k ≡ strengthened_by gen.W.Width.unit l.to (at gen.W.Width.unit l.from k) (at gen.W.Width.unit l.fn.row k);
  rest : (k : ℕ) → l.j ≤ k → at gen.W.Width.unit l.row k ≡ at gen.W.Width.unit l.fn.row k;
}

use Rattle.std.proofs.Common.{◌≡◌, ◌<◌, ◌≤◌, ℕ}
use Rattle.std.specs.Int.{int_max}
use Rattle.dbm_narrow.specs.Entries.{at}
use Rattle.dbm_narrow.proofs.joins.raise.Given as goal

abbrev pub invariant-loop-k : goal.invariant-loop-k
invariant-loop-k gen l = record {
  done : (p : ℕ) → p < l.k → at gen.W.Width.unit l.entries p ≡ int_max (at gen.W.Width.unit l.fn.entries p) (at gen.W.Width.unit l.others p);
  rest : (p : ℕ) → l.k ≤ p → at gen.W.Width.unit l.entries p ≡ at gen.W.Width.unit l.fn.entries p;
}

use Rattle.std.proofs.Common.{◌<◌, ℕ}
use Rattle.std.specs.Prelude.{◌^◌, ◌≤ℤ◌, neg_ℤ, pos}
use Rattle.dbm_narrow.specs.Entries.{at}
use Rattle.dbm_narrow.proofs.steps.has_low_entry.Given as goal

abbrev pub invariant-loop-k : goal.invariant-loop-k
invariant-loop-k gen l = (j : ℕ) → j < l.k → neg_ℤ (pos (2 ^ 64)) ≤ℤ at gen.W.Width.unit l.entries j

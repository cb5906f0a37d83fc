use Rattle.std.specs.Prelude.{◌<◌, ◌^◌, ℕ, pos, neg_ℤ, Some, None}
use Rattle.std.proofs.Common.{get_or}
use Rattle.dbm_core.specs.Weights.{AtMost}
use Rattle.dbm_close.proofs.steps.has_low_entry.Given as goal

abbrev pub invariant-loop-bound : goal.invariant-loop-bound
invariant-loop-bound l = (p : ℕ) → p < l.bound-index → AtMost (Some (neg_ℤ (pos (2 ^ 64)))) (get_or l.kept p None)

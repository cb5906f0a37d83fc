use Rattle.std.proofs.Common.{◌<◌, ℕ, None, get_or}
use Rattle.dbm_incremental.specs.Far.{IsBelowHalf}
use Rattle.dbm_incremental.proofs.whole.is_whole.Given as goal

abbrev pub invariant-loop-bound : goal.invariant-loop-bound
invariant-loop-bound l = (p : ℕ) → p < l.bound-index → IsBelowHalf (get_or l.kept p None)

use Rattle.std.specs.Prelude.{◌<◌, ℕ}
use Rattle.dbm_incremental.specs.Far.{IsBelowHalf}
use Rattle.dbm_narrow.specs.Entries.{at, wide}
use Rattle.dbm_narrow.proofs.convert.is_near.Given as goal

abbrev pub invariant-loop-k : goal.invariant-loop-k
invariant-loop-k gen l = (p : ℕ) → p < l.k → IsBelowHalf (wide gen.W.Width.unit (at gen.W.Width.unit l.entries p))

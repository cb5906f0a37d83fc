use Rattle.std.specs.Prelude.{◌≡◌, ℕ, Option, ℤ}
use Rattle.std.proofs.Common.{drop}
use Rattle.dbm_core.specs.Half.{entry, nodes}
use Rattle.dbm_core.specs.Limits.{AreWithin}
use Rattle.dbm_incremental.proofs.AllLemmas.{IsLoweredSoFar, step_bound}
use Rattle.dbm_incremental.specs.Steps.{AreBounds}
use Rattle.dbm_incremental.proofs.bounds.close_after_bounds.Given as goal

abbrev pub invariant-loop-bound : goal.invariant-loop-bound
invariant-loop-bound l = record {
  same_kinds : l.weights.kinds ≡ l.closed.kinds;
  within : AreWithin (nodes l.weights) (step_bound l.bound-index) (entry l.weights);
  rest : AreBounds (nodes l.closed) (drop l.bound-index l.bounds);
  so_far : (w : ℕ → ℕ → Option ℤ) × IsLoweredSoFar (entry l.closed) (nodes l.closed) l.bounds (drop l.bound-index l.bounds) (entry l.weights) w;
}

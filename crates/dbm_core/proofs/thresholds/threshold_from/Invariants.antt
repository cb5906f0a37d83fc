use Rattle.std.proofs.Common.{◌≡◌, drop, ◌^◌}
use Rattle.dbm_core.specs.Limits.{IsWithin}
use Rattle.dbm_core.specs.Operations.{next_threshold}
use Rattle.dbm_core.specs.Weights.{least}
use Rattle.dbm_core.proofs.thresholds.threshold_from.Given as goal

abbrev pub invariant-loop-threshold : goal.invariant-loop-threshold
invariant-loop-threshold l = record {
  so_far : least l.next (next_threshold (drop l.threshold-index l.thresholds) l.doubled l.bound) ≡ next_threshold l.thresholds l.doubled l.bound;
  within : IsWithin (2 ^ 64) l.next;
}

use Rattle.std.proofs.Common.{◌<◌, ℕ}
use Rattle.std.specs.Prelude.{◌≤ℤ◌}
use Rattle.dbm_close.specs.Close.{slot_high, slot_low}
use Rattle.dbm_core.specs.Half.{entry}
use Rattle.dbm_close.proofs.ranges.has_empty_range.Given as goal

abbrev pub invariant-loop-k : goal.invariant-loop-k
invariant-loop-k l = (k : ℕ) → k < l.k → slot_low l.kinds (entry l.r) k ≤ℤ slot_high l.kinds (entry l.r) k

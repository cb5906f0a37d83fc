use Rattle.std.specs.Prelude.{◌≤ℤ◌}
use Rattle.std.proofs.Common.{◌<◌, ℕ}
use Rattle.dbm_close.specs.Close.{slot_high, slot_low}
use Rattle.dbm_core.specs.Half.{entry}
use Rattle.dbm_narrow.specs.Entries.{held}
use Rattle.dbm_narrow.proofs.steps.has_empty_range.Given as goal

abbrev pub invariant-loop-slot : goal.invariant-loop-slot
invariant-loop-slot gen l = (k : ℕ) → k < l.slot → slot_low l.kinds (entry (held gen.W.Width.unit l.kinds l.entries)) k ≤ℤ slot_high l.kinds (entry (held gen.W.Width.unit l.kinds l.entries)) k

-- The ranges of slots and of expressions.
use Rattle.std.specs.Prelude.{ℕ, Option}
use Rattle.dbm_core.specs.Half.{HalfMatrix, entry}
use Rattle.dbm_close.specs.Close.{slot_high, slot_low}
use Rattle.imp_slots.specs.Plain.{Term}
use Rattle.num_bounds.specs.Bounds.{Bounds}
use Rattle.dom_numeric.specs.Ranges.{range_by}

-- the range of a slot of a closed matrix: its two bounds, none being the slot's extreme
unfoldable pub range_at : HalfMatrix → ℕ → Bounds
range_at m k = record { lo = slot_low m.kinds (entry m) k; hi = slot_high m.kinds (entry m) k }

-- the range of an expression, or none
abbrev pub range_of : HalfMatrix → Term → Option Bounds
range_of m t = range_by (range_at m) t

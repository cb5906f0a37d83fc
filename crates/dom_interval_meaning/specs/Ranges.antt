-- The ranges of slots and of expressions.
use Rattle.std.specs.Prelude.{ℕ, Bool, true, false, pos, List, slice_index_or, slice_set, Option}
use Rattle.imp_slots.specs.Plain.{Term}
use Rattle.num_bounds.specs.Bounds.{Bounds, least, greatest}
use Rattle.dom_numeric.specs.Measures.{longest}
use Rattle.dom_numeric.specs.Ranges.{range_by}
use Rattle.dom_interval_meaning.specs.declared.slot_range.SlotRange.{SlotRange}

-- a slot's extremes: those of 64 bits, or of the length of an array
abbrev pub extremes : (is_array : Bool) → Bounds
extremes false = record { lo = least; hi = greatest }
extremes true = record { lo = pos 0; hi = longest }

-- the full range
abbrev pub full : Bounds
full = extremes false

-- the slot, an int of the full range where there is none
abbrev pub slot_at : List SlotRange → ℕ → SlotRange
slot_at rs x = slice_index_or rs x (record { is_array = false; range = full })

abbrev pub range_at : List SlotRange → ℕ → Bounds
range_at rs x = (slot_at rs x).range

-- the slot gets another range
abbrev pub with_range : List SlotRange → ℕ → Bounds → List SlotRange
with_range rs x r = slice_set rs x (record { is_array = (slot_at rs x).is_array; range = r })

-- the range of an expression, or none
abbrev pub range_of : List SlotRange → Term → Option Bounds
range_of rs t = range_by (range_at rs) t

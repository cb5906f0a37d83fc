-- What code builds of lists of ranges, place by place.
use Rattle.std.specs.Prelude.{ℕ, pos, List, ◌++◌, slice_index_or, Option, Some, None}
use Rattle.imp_slots.specs.Plain.{Numeric}
use Rattle.num_bounds.specs.Bounds.{Bounds}
use Rattle.num_bounds.specs.Operations.{single}
use Rattle.dom_interval_meaning.specs.declared.slot_range.SlotRange.{SlotRange}

-- the slot of a layout at place i, with the range at that place
abbrev pub filled_slot : Numeric → List Bounds → ℕ → SlotRange
filled_slot k rs i = record { is_array = k.is_array; range = slice_index_or rs i (single (pos 0)) }

-- the one list after the other, if it is there
abbrev pub behind_these : List Bounds → Option (List Bounds) → Option (List Bounds)
behind_these xs None = None
behind_these xs (Some ys) = Some (xs ++ ys)

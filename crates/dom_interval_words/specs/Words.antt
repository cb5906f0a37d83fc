-- Intervals as words, and their order.
use Rattle.std.specs.Prelude.{◌&&◌, ℤ, pos, int_le, List, [], ◌∷◌, drop, Option, Some, None, Bool, true, false, option_map, if◌then◌else◌}
use Rattle.imp_slots.specs.Plain.{Numeric, Layout}
use Rattle.cert_meaning.specs.Portable.{Portable}
use Rattle.cert_words.specs.States.{by_words}
use Rattle.cert_words.specs.Words.{is_number}
use Rattle.dom_interval_meaning.specs.State.{Intervals, Empty, Within}
use Rattle.dom_interval_meaning.specs.Covers.{fits_slot}
use Rattle.dom_interval_meaning.specs.declared.slot_range.SlotRange.{SlotRange}

-- both ends of each slot
abbrev pub slots_told : List SlotRange → List (Option ℤ)
slots_told [] = []
slots_told (r ∷ rs) = Some r.range.lo ∷ (Some r.range.hi ∷ slots_told rs)

-- 0 for Empty, else 1 and the slots
abbrev pub state_words : Intervals → List (Option ℤ)
state_words Empty = Some (pos 0) ∷ []
state_words (Within rs) = Some (pos 1) ∷ slots_told rs

-- the slot of this kind with these ends
abbrev pub slot_with : Numeric → ℤ → ℤ → SlotRange
slot_with k lo hi = record { is_array = k.is_array; range = record { lo = lo; hi = hi } }

-- a slot, where it fits
abbrev pub slot_if : Numeric → SlotRange → Option SlotRange
slot_if k s = if fits_slot k s then Some s else None

-- the slot of this kind that the first two words tell, where there is such
abbrev pub first_slot : Numeric → List (Option ℤ) → Option SlotRange
first_slot k [] = None
first_slot k (None ∷ ws) = None
first_slot k (Some lo ∷ []) = None
first_slot k (Some lo ∷ (None ∷ ws)) = None
first_slot k (Some lo ∷ (Some hi ∷ ws)) = slot_if k (slot_with k lo hi)

-- a slot before others, where both are there
abbrev pub before : Option SlotRange → Option (List SlotRange) → Option (List SlotRange)
before None rest = None
before (Some s) rest = option_map (λ ss. s ∷ ss) rest

-- the slots of these kinds with these ends, where there are such
abbrev pub slots_of : List Numeric → List (Option ℤ) → Option (List SlotRange)
slots_of [] [] = Some []
slots_of [] (w ∷ ws) = None
slots_of (k ∷ ks) ws = before (first_slot k ws) (slots_of ks (drop 2 ws))

abbrev pub empty_of : List (Option ℤ) → Option Intervals
empty_of [] = Some Empty
empty_of (w ∷ ws) = None

abbrev pub within_of : List Layout → List (Option ℤ) → Option Intervals
within_of [] ws = None
within_of (l ∷ ls) ws = option_map Within (slots_of l.numbers ws)

-- the state of frames with these layouts, the last one's first, that has these words
abbrev pub state_of : List Layout → List (Option ℤ) → Option Intervals
state_of ls [] = None
state_of ls (w ∷ ws) = if is_number 0 w then empty_of ws else (if is_number 1 w then within_of ls ws else None)

-- whether each range is inside the other's
abbrev pub slots_leq : List SlotRange → List SlotRange → Bool
slots_leq [] qs = true
slots_leq (r ∷ rs) [] = true
slots_leq (r ∷ rs) (q ∷ qs) = (int_le q.range.lo r.range.lo && int_le r.range.hi q.range.hi) && slots_leq rs qs

-- the left one is Empty, or each of its ranges is inside that of the right one
abbrev pub leq : Intervals → Intervals → Bool
leq Empty t = true
leq (Within rs) Empty = false
leq (Within rs) (Within qs) = slots_leq rs qs

abbrev pub interval_port : Portable Intervals
interval_port = by_words state_words state_of leq

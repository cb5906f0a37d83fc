-- Which configurations a state describes, and which states fit the layouts of frames.
use Rattle.std.specs.Prelude.{Bool, true, false, ◌&&◌, int_le, List, [], ◌∷◌}
use Rattle.std.specs.List.{AllZip}
use Rattle.imp_slots.specs.Plain.{Numeric, Layout}
use Rattle.concrete_sem.specs.Values.{Number, Variables, Heap}
use Rattle.num_bounds.specs.Bounds.{Within as Lies}
use Rattle.dom_numeric.specs.Measures.{measure}
use Rattle.dom_interval_meaning.specs.State.{Intervals, Empty, Within, bool_same}
use Rattle.dom_interval_meaning.specs.Ranges.{extremes}
use Rattle.dom_interval_meaning.specs.declared.slot_range.SlotRange.{SlotRange}

-- what the slot measures lies in its range
abbrev pub Holds : SlotRange → Number → Type 0
Holds s n = Lies (measure n) s.range

-- The state is not Empty, and each numeric slot of the last frame lies in its range.
abbrev pub covers : Intervals → Heap → List Variables → Type 0
covers Empty h vs = ⊥
covers (Within rs) h [] = ⊥
covers (Within rs) h (v ∷ vs) = AllZip Holds rs v.numbers

-- a slot of this kind, with a range that is not empty and within the extremes
abbrev pub fits_slot : Numeric → SlotRange → Bool
fits_slot k s = bool_same k.is_array s.is_array && (int_le (extremes s.is_array).lo s.range.lo && (int_le s.range.lo s.range.hi && int_le s.range.hi (extremes s.is_array).hi))

abbrev pub fits_slots : List Numeric → List SlotRange → Bool
fits_slots [] [] = true
fits_slots [] (s ∷ ss) = false
fits_slots (k ∷ ks) [] = false
fits_slots (k ∷ ks) (s ∷ ss) = fits_slot k s && fits_slots ks ss

-- a state of frames with these layouts, the last one's first
unfoldable pub fits : Intervals → List Layout → Bool
fits Empty ls = true
fits (Within rs) [] = false
fits (Within rs) (l ∷ ls) = fits_slots l.numbers rs

-- States given by their slots, none for Empty.
use Rattle.std.specs.Prelude.{ℕ, ℤ, int_le, ◌&&◌, Bool, ◌∷◌, ◌++◌, List, Option, Some, None}
use Rattle.num_bounds.specs.Bounds.{Bounds}
use Rattle.cert_words.specs.Words.{word_text}
use Rattle.dom_interval_meaning.specs.State.{Intervals, Empty, Within}
use Rattle.dom_interval_meaning.specs.declared.slot_range.SlotRange.{SlotRange}

abbrev pub slots_in : Option (List SlotRange) → Intervals
slots_in None = Empty
slots_in (Some rs) = Within rs

-- both ends, each with a space before
abbrev pub slot_text : SlotRange → List ℕ
slot_text r = (32 ∷ word_text (Some r.range.lo)) ++ (32 ∷ word_text (Some r.range.hi))

-- whether the numbers from lo to hi are some, all within these ends
abbrev pub within_extremes : Bounds → ℤ → ℤ → Bool
within_extremes e lo hi = int_le e.lo lo && (int_le lo hi && int_le hi e.hi)

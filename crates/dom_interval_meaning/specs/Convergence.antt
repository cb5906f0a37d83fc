-- How often a state can change under widening.
use Rattle.std.specs.Prelude.{◌≡◌, ◌⊎◌, ℕ, ◌+◌, ◌*◌, ◌<◌, ◌≤◌, ℤ, int_lt, true, ◌&&◌, List, [], ◌∷◌, length, if◌then◌else◌}
use Rattle.imp_slots.specs.Plain.{Layout}
use Rattle.num_bounds.specs.Bounds.{Bounds}
use Rattle.dom_interval_meaning.specs.State.{Intervals, Empty, Within}
use Rattle.dom_interval_meaning.specs.Ranges.{extremes}
use Rattle.dom_interval_meaning.specs.Widening.{widen}
use Rattle.dom_interval_meaning.specs.Covers.{fits}
use Rattle.dom_interval_meaning.specs.declared.slot_range.SlotRange.{SlotRange}

-- how often a low end can still fall: to the thresholds between it and the low extreme, and to that extreme
abbrev pub low_falls : List ℤ → Bounds → ℤ → ℕ
low_falls [] e z = if int_lt e.lo z then 1 else 0
low_falls (m ∷ ms) e z = (if int_lt e.lo m && int_lt m z then 1 else 0) + low_falls ms e z

-- how often a high end can still rise
abbrev pub high_rises : List ℤ → Bounds → ℤ → ℕ
high_rises [] e z = if int_lt z e.hi then 1 else 0
high_rises (m ∷ ms) e z = (if int_lt m e.hi && int_lt z m then 1 else 0) + high_rises ms e z

abbrev pub slot_changes : List ℤ → SlotRange → ℕ
slot_changes ms s = low_falls ms (extremes s.is_array) s.range.lo + high_rises ms (extremes s.is_array) s.range.hi

abbrev pub slots_changes : List ℤ → List SlotRange → ℕ
slots_changes ms [] = 0
slots_changes ms (r ∷ rs) = slot_changes ms r + slots_changes ms rs

-- the most changes of a state of so many slots, with so many thresholds
abbrev pub most_changes : (slots thresholds : ℕ) → ℕ
most_changes v m = 2 * v * (m + 1)

-- how often a state of a frame of this layout can still change; Empty changes once more
unfoldable pub changes_left : List ℤ → Layout → Intervals → ℕ
changes_left ms l Empty = most_changes (length l.numbers) (length ms) + 1
changes_left ms l (Within rs) = slots_changes ms rs

-- The number of times a state can change under widening: each widening keeps the state, or leaves fewer changes; and no
-- state has more than two for each slot and each threshold, and two more for each slot. Joins that come first add as many as
-- they are.
pub record WideningEnds : Type 0 where
  pub falls : (ms : List ℤ) (l : Layout) (ls : List Layout) (s t : Intervals) → fits s (l ∷ ls) ≡ true → fits t (l ∷ ls) ≡ true → (widen ms s t ≡ s) ⊎ (changes_left ms l (widen ms s t) < changes_left ms l s)
  pub few : (ms : List ℤ) (l : Layout) (ls : List Layout) (rs : List SlotRange) → fits (Within rs) (l ∷ ls) ≡ true → changes_left ms l (Within rs) ≤ most_changes (length l.numbers) (length ms)
  pub few_from_empty : (ms : List ℤ) (l : Layout) → changes_left ms l Empty ≡ most_changes (length l.numbers) (length ms) + 1

-- Which state is the smallest sound one.
use Rattle.std.specs.Prelude.{List}
use Rattle.std.specs.List.{AllZip}
use Rattle.concrete_sem.specs.Values.{Variables, Heap}
use Rattle.num_bounds.specs.Bounds.{IsPart}
use Rattle.dom_interval_meaning.specs.State.{Intervals, Empty, Within}
use Rattle.dom_interval_meaning.specs.Covers as states
use Rattle.dom_interval_meaning.specs.declared.slot_range.SlotRange.{SlotRange}

abbrev pub IsSlotPart : SlotRange → SlotRange → Type 0
IsSlotPart r q = IsPart r.range q.range

-- Empty is part of every state. Another state is part of one whose range of each slot holds its own.
abbrev pub IsPartOf : Intervals → Intervals → Type 0
IsPartOf Empty t = Unit {0}
IsPartOf (Within rs) Empty = ⊥
IsPartOf (Within rs) (Within qs) = AllZip IsSlotPart rs qs

-- a set of configurations: heaps with the variables of frames, the last frame's first
abbrev pub Covers : (Heap → List Variables → Type 0) → Intervals → Type 0
Covers among t = (h : Heap) (vs : List Variables) → among h vs → states.covers t h vs

-- The best state for a set of configurations: it covers them all, and is part of every state that does.
pub record IsBest (among : Heap → List Variables → Type 0) (best : Intervals) : Type 0 where
  pub sound : Covers among best
  pub smallest : (t : Intervals) → Covers among t → IsPartOf best t

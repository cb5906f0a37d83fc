-- How often a state can still change.
use Rattle.std.specs.Prelude.{◌≡◌, ℕ, ◌-◌, ◌<◌, true, ◌⊎◌, ℤ, List, length}
use Rattle.imp_slots.specs.Plain.{Layout}
use Rattle.dom_listseg_meaning.specs.State.{Segments, Top, Graphs}
use Rattle.dom_listseg_meaning.specs.Covers.{fits}
use Rattle.dom_listseg_meaning.specs.Operations.{join, widen}

-- how often at most: 65 times where there is no graph yet, and Top no more
abbrev pub changes_left : Segments → ℕ
changes_left Top = 0
changes_left (Graphs gs) = 65 - length gs

-- a join keeps a state that fits, or leaves fewer changes
abbrev pub JoiningEnds : Type 0
JoiningEnds = (ls : List Layout) (s t : Segments) → fits s ls ≡ true → (join s t ≡ s) ⊎ (changes_left (join s t) < changes_left s)

-- and so does a widening, by whatever thresholds
abbrev pub WideningEnds : Type 0
WideningEnds = (thresholds : List ℤ) (ls : List Layout) (s t : Segments) → fits s ls ≡ true → (widen thresholds s t ≡ s) ⊎ (changes_left (widen thresholds s t) < changes_left s)

-- How large a budget is enough.
use Rattle.std.specs.Prelude.{◌≡◌, ◌≤◌, ◌<◌, ◌⊎◌, ℕ, ◌+◌, max, ℤ, List, [], ◌∷◌, length, true}
use Rattle.imp_syntax.specs.declared.edit.Location.{Location}
use Rattle.imp_slots.specs.Plain.{Layout, Routine}
use Rattle.imp_slots.specs.Fits.{IsChecked}
use Rattle.imp_chains.specs.declared.widening.Widening.{Widening}
use Rattle.imp_chains.specs.Thresholds.{thresholds}
use Rattle.domain_laws.specs.Operations.{Operations}
use Rattle.batch_meaning.specs.Values.{Over}
use Rattle.batch_meaning.specs.Batch.{LoopOptions}
use Rattle.batch_meaning.specs.Answers.{Answers, answer}
use Rattle.dom_interval_meaning.specs.Domain.{intervals}
use Rattle.dom_interval_meaning.specs.Convergence.{most_changes}
use Rattle.dom_octagon_meaning.specs.Domain.{octagons}
use Rattle.dom_octagon_meaning.specs.Convergence.{most_changes as most_rises}
use Rattle.dom_listseg_meaning.specs.Sets as sets
use Rattle.dom_listseg_meaning.specs.Domain.{segments}
use Rattle.dom_shapes_meaning.specs.Domain.{shapes}
use Rattle.dom_shapes_meaning.specs.Convergence.{most_weight}

-- How often a state of a frame can still change in the rounds of a loop, from the round `wait delay` on: each widening with
-- these thresholds keeps the state or leaves fewer changes, and so does each join, where there are joins from that round on.
-- There are at most so many changes, by the numeric slots and the thresholds, and one more.
pub record Ending {S : Type 0} (dom : Operations S) (wait : (delay : ℕ) → ℕ) (most : (slots thresholds : ℕ) → ℕ) : Type 0 where
  pub left : List ℤ → Layout → S → ℕ
  pub falls : (ms : List ℤ) (l : Layout) (ls : List Layout) (s t : S) → dom.fits s (l ∷ ls) ≡ true → dom.fits t (l ∷ ls) ≡ true → (dom.widen ms s t ≡ s) ⊎ (left ms l (dom.widen ms s t) < left ms l s)
  pub joins_fall : (delay : ℕ) (ms : List ℤ) (l : Layout) (ls : List Layout) (s t : S) → wait delay < delay → dom.fits s (l ∷ ls) ≡ true → dom.fits t (l ∷ ls) ≡ true → (dom.join s t ≡ s) ⊎ (left ms l (dom.join s t) < left ms l s)
  pub few : (ms : List ℤ) (l : Layout) (ls : List Layout) (s : S) → dom.fits s (l ∷ ls) ≡ true → left ms l s ≤ most (length l.numbers) (length ms) + 1

-- only widenings are counted
abbrev pub until_widening : (delay : ℕ) → ℕ
until_widening delay = delay

-- joins are counted as well
abbrev pub from_the_first : (delay : ℕ) → ℕ
from_the_first delay = 0

-- more slots or thresholds allow no fewer changes
abbrev pub Grows : (ℕ → ℕ → ℕ) → Type 0
Grows most = (v w m n : ℕ) → v ≤ w → m ≤ n → most v m ≤ most w n

-- the greatest number of numeric slots of a procedure, and of thresholds
abbrev pub most_slots : List Routine → ℕ
most_slots [] = 0
most_slots (r ∷ rs) = max (length r.layout.numbers) (most_slots rs)

abbrev pub most_thresholds : Widening → List Routine → ℕ
most_thresholds w [] = 0
most_thresholds w (r ∷ rs) = max (length (thresholds w r)) (most_thresholds w rs)

-- the changes, the rounds before they are counted, the first iterate and the one that shows that it is over
abbrev pub IsEnough : (ℕ → ℕ) → (ℕ → ℕ → ℕ) → LoopOptions → List Routine → Type 0
IsEnough wait most engine program = most (most_slots program) (most_thresholds engine.widening program) + wait engine.widening.delay + 2 ≤ engine.budget

abbrev pub Converge : {S : Type 0} → Operations S → (ℕ → ℕ) → (ℕ → ℕ → ℕ) → Type 0
Converge {S} dom wait most =
    (engine : LoopOptions) (program : List Routine) (l : Location) (string : List ℕ) (n : ℕ) (z : List ℕ) → IsChecked program → IsEnough wait most engine program →
    answer dom engine program l string ≡ Answers (Over n z) → ⊥

abbrev pub IntervalsConverge : Type 0
IntervalsConverge = Converge intervals until_widening most_changes

abbrev pub OctagonsConverge : Type 0
OctagonsConverge = Converge octagons until_widening most_rises

-- a set of graphs can grow so often, and become Top once more
abbrev pub most_graphs : (slots thresholds : ℕ) → ℕ
most_graphs slots thresholds = sets.most

abbrev pub SegmentsConverge : Type 0
SegmentsConverge = Converge segments from_the_first most_graphs

-- a set of graphs can grow so often, in shapes and in nodes that are `seg`, and become Top once more
abbrev pub most_shapes : (slots thresholds : ℕ) → ℕ
most_shapes slots thresholds = most_weight

abbrev pub ShapesConverge : Type 0
ShapesConverge = Converge shapes from_the_first most_shapes

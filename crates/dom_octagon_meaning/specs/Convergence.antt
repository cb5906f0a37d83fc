-- How often a state can change under widening.
use Rattle.std.specs.Prelude.{◌≡◌, ◌≤◌, ◌<◌, ◌⊎◌, ℕ, ◌+◌, ◌*◌, ℤ, List, ◌∷◌, length, true}
use Rattle.dbm_core.specs.Rises.{rises}
use Rattle.dbm_close.specs.declared.closed.Closed.{Closed}
use Rattle.dbm_close.specs.declared.closed.Closed.TheVariants.{Empty, Matrix}
use Rattle.imp_slots.specs.Plain.{Layout}
use Rattle.dom_octagon_meaning.specs.Covers.{fits}
use Rattle.dom_octagon_meaning.specs.Operations.{widen}

-- the most changes of a state of so many slots, with so many thresholds: each bound rises to each threshold and then to none
abbrev pub most_changes : (slots thresholds : ℕ) → ℕ
most_changes v m = 4 * v * v * (m + 1)

-- how often a state of a frame of this layout can still change; Empty changes once more
unfoldable pub changes_left : List ℤ → Layout → Closed → ℕ
changes_left ms l Empty = most_changes (length l.numbers) (length ms) + 1
changes_left ms l (Matrix m) = rises ms m

-- each widening keeps the state or leaves fewer changes, and there are at most so many
pub record WideningEnds : Type 0 where
  pub falls : (ms : List ℤ) (l : Layout) (ls : List Layout) (s t : Closed) → fits s (l ∷ ls) ≡ true → fits t (l ∷ ls) ≡ true → (widen ms s t ≡ s) ⊎ (changes_left ms l (widen ms s t) < changes_left ms l s)
  pub few : (ms : List ℤ) (l : Layout) (ls : List Layout) (s : Closed) → fits s (l ∷ ls) ≡ true → changes_left ms l s ≤ most_changes (length l.numbers) (length ms) + 1

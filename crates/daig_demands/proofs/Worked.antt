-- A walk to a statement in a loop of a procedure that is called in a loop, and then to one of main, name by name.
use Rattle.std.specs.Prelude.{◌≡◌, List, [], ◌∷◌, Some, refl}
use Rattle.batch_meaning.specs.Values.{State, Over}
use Rattle.cell_names.specs.declared.frame.NameFrame.TheVariants.{InCall, InLoop}
use Rattle.cell_names.specs.declared.frame.Point.TheVariants.{Post, Fix}
use Rattle.cell_rows.specs.Names.{name}
use Rattle.cell_rows.specs.Cells.{cell}
use Rattle.cell_rows.specs.Targets.{Take, Go, Target, to_point}
use Rattle.daig_demands.specs.Walks.{Walk, walk, start, asks, goes, found}

abbrev last : Target
last = to_point [] (Post 1)

abbrev targets : List Target
targets = to_point (Take 2 ∷ Go 4 ∷ Take 7 ∷ []) (Post 8) ∷ last ∷ []

abbrev in_round : Walk
in_round = walk (InLoop 2 3 ∷ []) (to_point (Go 4 ∷ Take 7 ∷ []) (Post 8) ∷ last ∷ [])

asks_for_the_loop : asks (start targets) ≡ Some (name [] (Fix 2))
asks_for_the_loop = refl

module _ {S : Type 0} (s : S) where
  goes_into_its_round : goes (cell (State s) 3) (start targets) ≡ in_round
  goes_into_its_round = refl

  asks_through_the_call : asks in_round ≡ Some (name (InCall 4 ∷ InLoop 2 3 ∷ []) (Fix 7))
  asks_through_the_call = refl

  -- An Over of the inner loop is the target's value, and the walk goes on to the next.
  over_is_found : found (cell {S = S} (Over 7 (4 ∷ [])) 0) in_round ≡ Over 7 (4 ∷ []) ∷ []
  over_is_found = refl

  over_ends_the_target : goes (cell {S = S} (Over 7 (4 ∷ [])) 0) in_round ≡ start (last ∷ [])
  over_ends_the_target = refl

  last_is_found : found (cell (State s) 0) (start (last ∷ [])) ≡ State s ∷ []
  last_is_found = refl

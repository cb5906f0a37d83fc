-- Cells with other numbers.
use Rattle.std.specs.Prelude.{◌≡◌, ℕ, suc, map, List, [], length, Option, Some, None, IsSome, is_some, count_by}
use Rattle.std.specs.Ordering.{nat_cmp}
use Rattle.std.specs.FinMap.{FinMap, get}
use Rattle.daig_graph.specs.declared.value.Value.{Value}
use Rattle.daig_graph.specs.Agrees.{filled_at, value_at}
use Rattle.daig_graph.specs.Cells.{Filled}
use Rattle.daig_graph.specs.Numbers.{renumbered, Moving}
use Rattle.daig_graph.specs.Owners.{owner_at}
use Rattle.daig_graph.specs.Threads.{inputs_at}

module _ (new_of : List ℕ) {V : Type 0} where
  -- what a cell was filled with, by the new numbers of its inputs
  abbrev pub renumbered_cell : Filled V → Filled V
  renumbered_cell f = record f { inputs = map (renumbered new_of) f.inputs }

  -- Each cell is called by its new number, and so are its inputs; all else is as it was, and no other cell is there.
  pub record Renumbers (old new : FinMap nat_cmp (Filled V)) : Type 0 where
    pub there : (n : ℕ) (f : Filled V) → get old n ≡ Some f → get new (renumbered new_of n) ≡ Some (renumbered_cell f)
    pub back : (q : ℕ) (g : Filled V) → get new q ≡ Some g → (n : ℕ) × (f : Filled V) × (get old n ≡ Some f) × (renumbered new_of n ≡ q)

  -- The cells below a number stand at their new numbers, below the room, the last of them right below it. The parts have as
  -- many places as before, and agree, except that inputs may be cells that are still to move.
  pub record AreMoving (values mid_values : List (Option (Value V))) (owners mid_owners : List (Option ℕ)) (inputs mid_inputs : List (List ℕ)) (number room : ℕ) : Type 0 where
    pub value_places : length mid_values ≡ length values
    pub owner_places : length mid_owners ≡ length owners
    pub input_places : length mid_inputs ≡ length inputs
    pub owned : (n : ℕ) → is_some (owner_at mid_owners n) ≡ is_some (value_at mid_values n)
    pub blank : (n : ℕ) → value_at mid_values n ≡ None → inputs_at mid_inputs n ≡ []
    pub counted : count_by is_some mid_values ≡ count_by is_some values
    pub moving : Moving renumbered_cell (filled_at values owners inputs) (filled_at mid_values mid_owners mid_inputs) new_of number room
    pub last : (n : ℕ) → room ≡ suc n → IsSome (value_at mid_values n)

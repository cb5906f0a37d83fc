-- Where the iterates of a loop stop.
use Rattle.std.specs.Prelude.{◌≡◌, ℕ, suc, ◌<◌, ◌⊎◌, List, Option, Some, None, option_map, slice_get}
use Rattle.std.specs.Option.{option_and_then}
use Rattle.std.specs.Ordering.{nat_cmp}
use Rattle.std.specs.FinMap.{FinMap, get}
use Rattle.daig_graph.specs.declared.value.Value.{Value}
use Rattle.daig_graph.specs.declared.value.Value.TheVariants.{State, Over}
use Rattle.daig_graph.specs.Cells.{Filled}

module _ {V : Type 0} where
  abbrev pub value_at : FinMap nat_cmp (Filled V) → ℕ → Option (Value V)
  value_at graph x = option_map (λ f. f.value) (get graph x)

  -- the value of the iterate that has this index, by the cells of the iterates from iterate 0 on
  abbrev pub iterate_of : FinMap nat_cmp (Filled V) → List ℕ → ℕ → Option (Value V)
  iterate_of graph cells i = option_and_then (value_at graph) (slice_get cells i)

  -- the state of a value that is one
  abbrev pub state_in : Option (Value V) → Option V
  state_in None = None
  state_in (Some (State s)) = Some s
  state_in (Some (Over n chain)) = None

  abbrev pub IsOverValue : Value V → Type 0
  IsOverValue (State s) = ⊥
  IsOverValue (Over n chain) = Unit {0}

  module _ (iterate : ℕ → Option (Value V)) where
    abbrev pub IsOver : ℕ → Type 0
    IsOver j = (v : Value V) × (iterate j ≡ Some v) × IsOverValue v

    -- iterate j is the state of the iterate before it
    abbrev pub IsEqual : ℕ → Type 0
    IsEqual j = (i : ℕ) × (s : V) × (j ≡ suc i) × (iterate i ≡ Some (State s)) × (iterate j ≡ Some (State s))

  -- it is neither, and the budget is used up
  abbrev pub IsSpent : ℕ → (ℕ → Option (Value V)) → ℕ → Type 0
  IsSpent budget iterate j = (j ≡ budget) × (s : V) × (iterate j ≡ Some (State s)) × (¬ (IsEqual iterate j))

  -- the iterates stop at j, if at none before it
  abbrev pub Stops : ℕ → (ℕ → Option (Value V)) → ℕ → Type 0
  Stops budget iterate j = IsOver iterate j ⊎ (IsEqual iterate j ⊎ IsSpent budget iterate j)

  -- of so many iterates none but the last may be where they stop
  abbrev pub GoesOnTo : ℕ → (ℕ → Option (Value V)) → ℕ → Type 0
  GoesOnTo budget iterate count = (i : ℕ) → suc i < count → ¬ (Stops budget iterate i)

  -- so many iterates hold the one at which they stop; it repeats the one before it; it does not
  abbrev pub StopsWithin : ℕ → (ℕ → Option (Value V)) → ℕ → Type 0
  StopsWithin budget iterate count = (j : ℕ) × (j < count) × Stops budget iterate j

  abbrev pub ConvergesWithin : (ℕ → Option (Value V)) → ℕ → Type 0
  ConvergesWithin iterate count = (j : ℕ) × (j < count) × IsEqual iterate j

  abbrev pub OverrunsWithin : ℕ → (ℕ → Option (Value V)) → ℕ → Type 0
  OverrunsWithin budget iterate count = (j : ℕ) × (j < count) × (IsOver iterate j ⊎ IsSpent budget iterate j)

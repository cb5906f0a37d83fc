-- The parts of a graph agree.
use Rattle.std.specs.Prelude.{◌≡◌, ◌≤◌, ℕ, suc, List, [], ◌∷◌, length, Option, Some, None, IsSome, is_some, count_by, slice_get, slice_index_or}
use Rattle.daig_graph.specs.declared.value.Value.{Value}
use Rattle.daig_graph.specs.Cells.{Filled}
use Rattle.daig_graph.specs.Threads.{inputs_at}
use Rattle.daig_graph.specs.Owners.{owner_at}

-- the items that are there, with their numbers, from a number on
abbrev pub numbered : {A : Type 0} → ℕ → List (Option A) → List (ℕ × A)
numbered n [] = []
numbered n (None ∷ rest) = numbered (suc n) rest
numbered n (Some a ∷ rest) = (n, a) ∷ numbered (suc n) rest

module _ {V : Type 0} where
  -- the value at a number
  abbrev pub value_at : List (Option (Value V)) → ℕ → Option (Value V)
  value_at values n = slice_index_or values n None

  -- a cell of its parts: there is one where there are a value and an owner
  abbrev pub cell_of : Option (Value V) → Option ℕ → List ℕ → Option (Filled V)
  cell_of None owner inputs = None
  cell_of (Some v) None inputs = None
  cell_of (Some v) (Some o) inputs = Some (record { owner = o; value = v; inputs = inputs })

  -- the cells that stand at these numbers
  abbrev pub filled_cells : List (Option (Value V)) → List (Option ℕ) → List (List ℕ) → List (Option (Filled V))
  filled_cells [] owners inputs = []
  filled_cells (v ∷ values) [] inputs = []
  filled_cells (v ∷ values) (o ∷ owners) [] = []
  filled_cells (v ∷ values) (o ∷ owners) (xs ∷ inputs) = cell_of v o xs ∷ filled_cells values owners inputs

  -- the cell at a number
  abbrev pub filled_at : List (Option (Value V)) → List (Option ℕ) → List (List ℕ) → ℕ → Option (Filled V)
  filled_at values owners inputs n = cell_of (value_at values n) (owner_at owners n) (inputs_at inputs n)

-- The values, owners and inputs by numbers: a number has a value where it has an owner; without a value it has no inputs;
-- inputs have values; and so many have one.
pub record Agrees {V : Type 0} (values : List (Option (Value V))) (owners : List (Option ℕ)) (inputs : List (List ℕ)) (count : ℕ) : Type 0 where
  pub owners_many : length values ≤ length owners
  pub inputs_many : length values ≤ length inputs
  pub owned : (n : ℕ) → is_some (owner_at owners n) ≡ is_some (value_at values n)
  pub blank : (n : ℕ) → value_at values n ≡ None → inputs_at inputs n ≡ []
  pub closed : (n i x : ℕ) → slice_get (inputs_at inputs n) i ≡ Some x → IsSome (value_at values x)
  pub counted : count_by is_some values ≡ count

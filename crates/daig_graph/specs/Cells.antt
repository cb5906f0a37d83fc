-- What a graph holds.
use Rattle.std.specs.Prelude.{◌≡◌, ◌≢◌, ℕ, Bool, false, nat_eq, List, Option, Some, None, IsSome, slice_get}
use Rattle.std.specs.Ordering.{nat_cmp}
use Rattle.std.specs.FinMap.{FinMap, get, insert}
use Rattle.daig_graph.specs.declared.value.Value.{Value}
use Rattle.daig_graph.specs.declared.value.Value.TheVariants.{State}
use Rattle.daig_graph.specs.declared.graph.Use.{Use}

-- what a cell was filled with: the statement that it belongs to, its value, and its inputs from left to right
pub record Filled (V : Type 0) : Type 0 where
  pub owner : ℕ
  pub value : Value V
  pub inputs : List ℕ

-- the cells by their numbers, and how many numbers have a place, from 0 on
pub record Cells (V : Type 0) : Type 0 where
  pub cells : FinMap nat_cmp (Filled V)
  pub places : ℕ

-- whether there is a cell, and it belongs to a statement
abbrev pub owned_by : {V : Type 0} → ℕ → Option (Filled V) → Bool
owned_by n None = false
owned_by n (Some f) = nat_eq f.owner n

module _ {V : Type 0} (cells : FinMap nat_cmp (Filled V)) where
  -- x is the input of a cell at a place
  abbrev pub IsUse : ℕ → Use → Type 0
  IsUse x u = (f : Filled V) × (get cells u.cell ≡ Some f) × (slice_get f.inputs u.place ≡ Some x)

  -- a cell belongs to a statement
  abbrev pub IsOwned : ℕ → ℕ → Type 0
  IsOwned n x = (f : Filled V) × (get cells x ≡ Some f) × (f.owner ≡ n)

  -- whether a cell belongs to a statement
  abbrev pub is_owned : ℕ → ℕ → Bool
  is_owned n x = owned_by n (get cells x)

  -- all of these are cells
  abbrev pub AreCells : List ℕ → Type 0
  AreCells xs = (i x : ℕ) → slice_get xs i ≡ Some x → IsSome (get cells x)

  -- no cell has this one as an input
  abbrev pub IsUnused : ℕ → Type 0
  IsUnused x = (y i : ℕ) (f : Filled V) → get cells y ≡ Some f → slice_get f.inputs i ≢ Some x

  -- a cell holds a state
  abbrev pub HoldsState : ℕ → Type 0
  HoldsState x = (f : Filled V) × (v : V) × (get cells x ≡ Some f) × (f.value ≡ State v)

  -- The cell holds this state in place of what it held; all else is as it was.
  abbrev pub ReplacesHeld : ℕ → V → FinMap nat_cmp (Filled V) → Type 0
  ReplacesHeld x v later = (f : Filled V) → get cells x ≡ Some f → later ≡ insert cells x (record f { value = State v })

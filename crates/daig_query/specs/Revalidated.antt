-- What a look at the inputs of a stale cell finds.
use Rattle.std.specs.Prelude.{◌≡◌, ◌++◌, ◌∷◌, [], ℕ, List, length, Option, Some, None, slice_get}
use Rattle.domain_laws.specs.Operations.{Operations}
use Rattle.cell_names.specs.Paths.{CellName}
use Rattle.imp_flow.specs.Plans.{Plan}
use Rattle.daig_graph.specs.declared.value.Value.TheVariants.{State}
use Rattle.loop_unroll.specs.Iterates.{state_in, value_at}
use Rattle.daig_query.specs.declared.held.Held.{Held}
use Rattle.daig_query.specs.declared.opening.Open.{Open}
use Rattle.daig_query.specs.declared.revalidation.Revalidation.{Revalidation}
use Rattle.daig_query.specs.declared.revalidation.Revalidation.TheVariants.{Changed, Waits, Valid}
use Rattle.daig_query.specs.declared.stale.Read.{Read}
use Rattle.daig_query.specs.declared.store.Store.{Store}
use Rattle.daig_query.specs.Kept.{IsValue}
use Rattle.daig_query.specs.Looked.{HasOpenTop}
use Rattle.daig_query.specs.Opened.{name_of, next_of, unfound, IsNext}
use Rattle.daig_query.specs.Right.{found}

-- an input holds what was read of it
abbrev pub HoldsRead : {S : Type 0} → Store S → Read → Type 0
HoldsRead store r = state_in (value_at store.graph.cells r.cell) ≡ Some r.held

module _ {S : Type 0} (dom : Operations S) (plan : Plan) where
  -- A cell that was read is that of the input that is to be found next, where so many are found.
  abbrev pub IsNextRead : Store S → Open → (place : ℕ) → Read → Type 0
  IsNextRead store o place r = length o.inputs ≡ place → (y : CellName) × (slice_get store.names.names r.cell ≡ Some y) × (next_of dom plan store o ≡ Some y)

  -- All inputs of a name are found, and its value is this state.
  pub record IsValid (store : Store S) (o : Open) (h : Held) : Type 0 where
    pub complete : next_of dom plan store o ≡ None
    pub value : IsValue store.states (State h) (found dom plan (name_of store o))

  -- The first input without a cell is found, or all inputs are, and the value with them.
  abbrev pub Finds : Store S → Open → Revalidation → Type 0
  Finds store o Changed = Unit {0}
  Finds store o (Waits a) = IsNext dom plan store o (Some (unfound a))
  Finds store o (Valid h) = IsValid store o h

  -- An input holds what was read of it, and is found where so many were; or the look ends.
  abbrev pub Looks : Store S → Open → Read → Option Revalidation → Type 0
  Looks store o r None = HoldsRead store r
  Looks store o r (Some end) = Finds store o end

  -- the name on top of a stack is valid
  abbrev pub IsTopValid : Store S → Held → List Open → Type 0
  IsTopValid store h stack = (rest : List Open) (top : Open) → stack ≡ rest ++ top ∷ [] → IsValid store top h

  -- the name on top is being filled once more, and this is found of it
  pub record FindsOnTop (store : Store S) (old new : List Open) (end : Revalidation) : Type 0 where
    pub stack : HasOpenTop dom plan store old new
    pub finds : Finds store stack.entry end

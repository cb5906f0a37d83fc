-- Results that are remembered.
use Rattle.std.specs.Prelude.{◌≡◌, ℕ, Option, Some, slice_get}
use Rattle.std.specs.Map.{lookup}
use Rattle.loop_unroll.specs.Iterates.{iterate_of, state_in}
use Rattle.imp_flow_rows.specs.declared.row.Row.{Row}
use Rattle.memo_table.specs.declared.operation.Operation.{Operation}
use Rattle.memo_table.specs.contracts.memo.KeyPartialEq.TheImpl as key_impl
use Rattle.daig_query.specs.declared.opening.Open.{Open}
use Rattle.daig_query.specs.declared.store.Store.{Store}
use Rattle.daig_query.specs.Made.{IsOperationOf, number}

module _ {S : Type 0} (store : Store S) where
  -- what a row makes of the states that have these numbers is remembered
  pub record IsRemembered (row : Row) (left right : Option ℕ) : Type 0 where
    pub operation : Operation
    pub of_row : IsOperationOf row operation
    pub place : ℕ
    pub there : slice_get store.operations place ≡ Some operation
    pub state : ℕ
    pub kept : lookup (key_impl.ghosts.eq (record { operation = place; left = left; right = right })) store.memo.entries ≡ Some state

  -- the number of the state of an input of a name, where it is a state
  abbrev pub input_number : Open → (place : ℕ) → Option ℕ
  input_number o i = number (state_in (iterate_of store.graph.cells o.inputs i))

  -- the same of the states of the inputs of a name
  abbrev pub IsRecalled : Row → Open → Type 0
  IsRecalled row o = IsRemembered row (input_number o 0) (input_number o 1)

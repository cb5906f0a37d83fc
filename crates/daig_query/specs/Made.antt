-- What rows make of states.
use Rattle.std.specs.Prelude.{◌≡◌, ℕ, List, Option, Some, None, option_map, Bool, true, false, slice_get}
use Rattle.imp_slots.specs.ActionViews.{act_of}
use Rattle.imp_slots.specs.CallViews.{taken_of}
use Rattle.imp_slots.specs.declared.calls.Returning.{Returning}
use Rattle.domain_laws.specs.Operations.{Operations}
use Rattle.imp_flow_rows.specs.declared.row.Unary.{Unary}
use Rattle.imp_flow_rows.specs.declared.row.Unary.TheVariants as one
use Rattle.imp_flow_rows.specs.declared.row.Binary.{Binary}
use Rattle.imp_flow_rows.specs.declared.row.Binary.TheVariants as two
use Rattle.imp_flow_rows.specs.declared.row.Row.{Row}
use Rattle.imp_flow_rows.specs.declared.row.Row.TheVariants.{Init, One, Two, Fixed, Joins}
use Rattle.memo_table.specs.declared.operation.Operation.{Operation}
use Rattle.memo_table.specs.declared.operation.Operation.TheVariants as owned
use Rattle.memo_table.specs.Results.{both}
use Rattle.daig_query.specs.declared.held.Held.{Held}

-- the owned operation of one on one value, on two, of a row
abbrev pub IsUnaryOf : Unary → Operation → Type 0
IsUnaryOf (one.Post s) o = o ≡ owned.Post s.now
IsUnaryOf (one.Assume c h) o = o ≡ owned.Assume c.now h
IsUnaryOf (one.Enter call) o = o ≡ owned.Enter call.now.entering
IsUnaryOf (one.Exit c) o = o ≡ owned.Assume c.now false

abbrev pub IsBinaryOf : Binary → Operation → Type 0
IsBinaryOf two.Join o = o ≡ owned.Join
IsBinaryOf (two.Leave call) o = (taken : Option Returning) × (o ≡ owned.Leave taken) × (taken_of taken ≡ call.now.returning)
IsBinaryOf (two.Widen thresholds) o = o ≡ owned.Widen thresholds.now

abbrev pub IsOperationOf : Row → Operation → Type 0
IsOperationOf (Init layout) o = o ≡ owned.Init layout.now
IsOperationOf (One op a) o = IsUnaryOf op o
IsOperationOf (Two op a b) o = IsBinaryOf op o
IsOperationOf (Fixed n p) o = o ≡ owned.Join
IsOperationOf (Joins stays left n right) o = o ≡ owned.Join

-- the operation of a number is the row's
abbrev pub HasOperation : List Operation → Row → ℕ → Type 0
HasOperation operations row n = (o : Operation) × IsOperationOf row o × (slice_get operations n ≡ Some o)

-- the row of a fixed point
abbrev pub IsFixed : Row → Type 0
IsFixed (Init layout) = ⊥
IsFixed (One op a) = ⊥
IsFixed (Two op a b) = ⊥
IsFixed (Fixed n p) = Unit {0}
IsFixed (Joins stays left n right) = ⊥

-- the state that has a number, if one is given
abbrev pub state_at : {S : Type 0} → List S → Option ℕ → Option S
state_at states None = None
state_at states (Some n) = slice_get states n

module _ {S : Type 0} (dom : Operations S) where
  abbrev pub unary_state : Unary → S → S
  unary_state (one.Post stmt) s = dom.post (act_of stmt.now) s
  unary_state (one.Assume c h) s = dom.assume c.now h s
  unary_state (one.Enter call) s = dom.enter call.now.entering s
  unary_state (one.Exit c) s = dom.assume c.now false s

  abbrev pub binary_state : Binary → S → S → S
  binary_state two.Join s t = dom.join s t
  binary_state (two.Leave call) s t = dom.leave call.now.returning s t
  binary_state (two.Widen thresholds) s t = dom.widen thresholds.now s t

  -- what a row makes of the states that it is applied to, where they are there
  abbrev pub row_result : Row → Option S → Option S → Option S
  row_result (Init layout) l r = Some (dom.init layout.now)
  row_result (One op a) l r = option_map (unary_state op) l
  row_result (Two op a b) l r = both (binary_state op) l r
  row_result (Fixed n p) l r = both dom.join l r
  row_result (Joins stays left n right) l r = both dom.join l r

-- the index that a row passes on from its left input
abbrev pub index_held : Option Held → ℕ
index_held None = 0
index_held (Some h) = h.index

abbrev pub index_if_exit : Unary → Option Held → ℕ
index_if_exit (one.Post s) h = 0
index_if_exit (one.Assume c b) h = 0
index_if_exit (one.Enter call) h = 0
index_if_exit (one.Exit c) h = index_held h

abbrev pub index_if_stays : Bool → Option Held → ℕ
index_if_stays true h = index_held h
index_if_stays false h = 0

abbrev pub index_in : Row → Option Held → ℕ
index_in (Init layout) h = 0
index_in (One op a) h = index_if_exit op h
index_in (Two op a b) h = 0
index_in (Fixed n p) h = 0
index_in (Joins stays left n right) h = index_if_stays stays h

-- the left input of a join after a loop with breaks, where it is alone
abbrev pub alone_in : Row → Option Held → Option Held → Option Held
alone_in (Init layout) l r = None
alone_in (One op a) l r = None
alone_in (Two op a b) l r = None
alone_in (Fixed n p) l r = None
alone_in (Joins stays left n right) None r = None
alone_in (Joins stays left n right) (Some h) None = Some h
alone_in (Joins stays left n right) (Some h) (Some g) = None

-- the number of the state that is held
abbrev pub number : Option Held → Option ℕ
number None = None
number (Some h) = Some h.state

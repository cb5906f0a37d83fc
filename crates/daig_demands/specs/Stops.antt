-- Where the iterates of a loop stop, for code that looks at the last two of them alone.
use Rattle.std.specs.Prelude.{ℕ, pred, List, [], ◌∷◌, Option, Some, None, Bool, false, if◌then◌else◌, nat_lt}
use Rattle.domain_laws.specs.Operations.{Operations}
use Rattle.batch_meaning.specs.Values.{Value, State, Over}
use Rattle.cell_rows.specs.Cells.{Cell, cell, plain}

abbrev pub state_of : {S : Type 0} → Value S → Option S
state_of (State s) = Some s
state_of (Over n z) = None

-- the state of the last of these cells, after one with the state that is given
abbrev pub last_state : {S : Type 0} → Option S → List (Cell S) → Option S
last_state before [] = before
last_state before (c ∷ cs) = last_state (state_of c.value) cs

module _ {S : Type 0} (dom : Operations S) where
  -- Whether another iterate is wanted after iterate j, which has this value: it is a state, not the one before it once
  -- more, and the budget is not used up.
  abbrev pub goes_on : (budget j : ℕ) → (before : Option S) → Value S → Bool
  goes_on budget j before (Over n z) = false
  goes_on budget j None (State t) = nat_lt j budget
  goes_on budget j (Some s) (State t) = if dom.same t s then false else nat_lt j budget

  -- What the loop's fixed point holds where the iterates stop at j: an iterate's Over; the state that came twice, with
  -- the index of the first; or the loop's own Over.
  abbrev pub stops_with : (over : Value S) (j : ℕ) → (before : Option S) → Value S → Cell S
  stops_with over j before (Over n z) = plain (Over n z)
  stops_with over j None (State t) = plain over
  stops_with over j (Some s) (State t) = if dom.same t s then cell (State s) (pred j) else plain over

-- Values: states, or loops that used up their budget.
use Rattle.std.specs.Prelude.{ℕ, List}

-- A state, or a loop that used up its budget, with the call sites of its chain, the last first.
pub data Value (S : Type 0) : Type 0 where
  State : S → Value S
  Over : (n : ℕ) → List ℕ → Value S

-- An operation on values: with an Over among its inputs it gives that Over, with two the left one.
abbrev pub lift : {S : Type 0} → (S → S) → Value S → Value S
lift f (State s) = State (f s)
lift f (Over n z) = Over n z

abbrev pub lift2 : {S : Type 0} → (S → S → S) → Value S → Value S → Value S
lift2 f (State s) (State t) = State (f s t)
lift2 f (State s) (Over n z) = Over n z
lift2 f (Over n z) v = Over n z

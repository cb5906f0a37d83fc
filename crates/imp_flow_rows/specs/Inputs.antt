-- The inputs of a row, left to right.
use Rattle.std.specs.Prelude.{◌≡◌, ℕ, List, [], ◌∷◌, length, Option, Some, None, nat_lt, true}
use Rattle.domain_laws.specs.Operations.{Operations}
use Rattle.batch_meaning.specs.Values.{State}
use Rattle.batch_meaning.specs.Batch.{LoopOptions}
use Rattle.cell_names.specs.declared.frame.NameFrame.TheVariants.{InLoop}
use Rattle.cell_names.specs.Paths.{CellName}
use Rattle.cell_rows.specs.Names.{name}
use Rattle.cell_rows.specs.Rows.{Row, Init, One, Two, Fixed, Joins}
use Rattle.cell_rows.specs.Cells.{Cell, asks_row, wants_first}
use Rattle.imp_flow_rows.specs.NodeRows.{iterate_at}

-- The first: of a fixed point the iterate 0, of a join after a loop with breaks the left one.
abbrev pub first_of : Row → Option CellName
first_of (Init layout) = None
first_of (One op a) = Some a
first_of (Two op a b) = Some a
first_of (Fixed n z w p) = Some (name w p)
first_of (Joins stays l n w p) = Some l

-- If there is a row, its first input is this.
abbrev pub BeginsWith : Option Row → CellName → Type 0
BeginsWith o x = (r : Row) → o ≡ Some r → first_of r ≡ Some x

-- the second of an operation on two values
abbrev pub second_of : Row → Option CellName
second_of (Init layout) = None
second_of (One op a) = None
second_of (Two op a b) = Some b
second_of (Fixed n z w p) = None
second_of (Joins stays l n w p) = None

-- the iterate k of a fixed point
abbrev pub iterate_of : (k : ℕ) → Row → Option CellName
iterate_of k (Init layout) = None
iterate_of k (One op a) = None
iterate_of k (Two op a b) = None
iterate_of k (Fixed n z w p) = Some (name w (iterate_at n p k))
iterate_of k (Joins stays l n w p) = None

-- of a join after a loop with breaks, whose index is k, the right one
abbrev pub break_of : (k : ℕ) → Row → Option CellName
break_of k (Init layout) = None
break_of k (One op a) = None
break_of k (Two op a b) = None
break_of k (Fixed n z w p) = None
break_of k (Joins stays l n w p) = Some (name (InLoop n k ∷ w) p)

-- What a row asks for is among these: the first input, by no values; the second, by one; of a fixed point the next
-- iterate, while another is wanted; of a join after a loop with breaks the right input, by the left one's index.
pub record AreAsked {S : Type 0} (dom : Operations S) : Type 0 where
  pub first : (engine : LoopOptions) (r : Row) → asks_row dom engine r [] ≡ first_of r
  pub second : (engine : LoopOptions) (r : Row) (a b : CellName) (v : Cell S) → first_of r ≡ Some a → second_of r ≡ Some b → asks_row dom engine r (v ∷ []) ≡ Some b
  pub iterate : (engine : LoopOptions) (r : Row) (x : CellName) (vs : List (Cell S)) → iterate_of (length vs) r ≡ Some x → wants_first dom engine vs ≡ true → asks_row dom engine r vs ≡ Some x
  pub break : (engine : LoopOptions) (r : Row) (x : CellName) (s : S) (k : ℕ) → break_of k r ≡ Some x → nat_lt k engine.budget ≡ true → asks_row dom engine r (record { value = State s; index = k } ∷ []) ≡ Some x

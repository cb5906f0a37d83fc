-- What cells tell of the statements that their names hang on.
use Rattle.std.specs.Prelude.{◌≡◌, ◌↔◌, ◌⊎◌, ℕ, List, Option, Some, None, Bool, true, false, Contains, slice_get}
use Rattle.std.specs.Ordering.{nat_cmp}
use Rattle.std.specs.FinMap.{FinMap, get}
use Rattle.imp_slots.specs.Plain.{Act, DoBreak, Does}
use Rattle.domain_laws.specs.Operations.{Operations}
use Rattle.cell_names.specs.Paths.{CellName}
use Rattle.cell_rows.specs.Rows.{Unary, Posts, Assumes, Enters, Exits, Row, Init, One, Two, Fixed, Joins}
use Rattle.cell_rows.specs.Cells.{Cell}
use Rattle.daig_graph.specs.Cells.{Filled}
use Rattle.daig_query.specs.declared.store.Store.{Store}
use Rattle.imp_flow.specs.Plans.{Plan}
use Rattle.cell_graph.specs.Named.{AreNumbers}
use Rattle.cell_graph.specs.Same.{same_name}
use Rattle.why_slice.specs.Upstream.{all_hung, matters}
use Rattle.why_cells.specs.Reached.{AreReached}

-- the row after a simple statement, which is no break
abbrev pub is_effect_act : Act → Bool
is_effect_act DoBreak = false
is_effect_act (Does e) = true

abbrev pub is_effect_on : Unary → Bool
is_effect_on (Posts act) = is_effect_act act
is_effect_on (Assumes guard h) = false
is_effect_on (Enters entering) = false
is_effect_on (Exits guard) = false

abbrev pub is_effect : Row → Bool
is_effect (Init layout) = false
is_effect (One op a) = is_effect_on op
is_effect (Two op a b) = false
is_effect (Fixed n z w p) = false
is_effect (Joins stays l n w p) = false

-- a name with this row hangs on the statement that it names
abbrev pub hangs : {S : Type 0} → Operations S → (CellName → Cell S) → Option Row → Bool
hangs dom found None = false
hangs dom found (Some r) = matters dom found r

-- two lists have the same items
abbrev pub SameItems : List ℕ → List ℕ → Type 0
SameItems xs ys = (n : ℕ) → Contains xs n ↔ Contains ys n

-- Old items, and more.
abbrev pub Takes : (old more new : List ℕ) → Type 0
Takes old more new = (n : ℕ) → Contains new n ↔ (Contains old n ⊎ Contains more n)

-- A cell is there, and has these inputs.
abbrev pub HasInputs : {V : Type 0} → FinMap nat_cmp (Filled V) → ℕ → List ℕ → Type 0
HasInputs {V} cells n inputs = (f : Filled V) × (get cells n ≡ Some f) × (f.inputs ≡ inputs)

-- a cell of this number, name and inputs is there
pub record IsCellAt {S : Type 0} (store : Store S) (n : ℕ) (x : CellName) (inputs : List ℕ) : Type 0 where
  pub named : slice_get store.names.names n ≡ Some x
  pub cell : HasInputs store.graph.cells n inputs

-- These are the statements on which the names of the cells hang that seeds lead to by inputs.
pub record TellsReached {S : Type 0} (dom : Operations S) (plan : Plan) (store : Store S) (seeds told : List ℕ) : Type 0 where
  pub cells : List ℕ
  pub reached : AreReached store.graph.cells seeds cells
  pub tells : (xs : List CellName) → AreNumbers store.names.names cells xs → SameItems told (all_hung dom plan.engine plan.program same_name xs)

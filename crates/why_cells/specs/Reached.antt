-- The cells that some cells lead to by inputs.
use Rattle.std.specs.Prelude.{◌≡◌, ◌⊎◌, ◌↔◌, ℕ, List, [], ◌∷◌, Some, slice_get, Contains}
use Rattle.std.specs.Ordering.{nat_cmp}
use Rattle.std.specs.FinMap.{FinMap, get}
use Rattle.cell_names.specs.declared.frame.NameFrame.{NameFrame}
use Rattle.cell_names.specs.declared.frame.NameFrame.TheVariants.{InCall, InLoop}
use Rattle.cell_names.specs.declared.frame.Point.TheVariants.{Fix}
use Rattle.cell_names.specs.Paths.{CellName}
use Rattle.cell_rows.specs.Names.{name}
use Rattle.daig_graph.specs.Cells.{Filled}
use Rattle.daig_graph.specs.Held.{IsIn, IsOnce}

-- one of these cells, or an input of a cell that is reached
pub data Reached {V : Type 0} (cells : FinMap nat_cmp (Filled V)) (seeds : List ℕ) : ℕ → Type 0 where
  seed : (n : ℕ) → IsIn seeds n → Reached cells seeds n
  input : (m n : ℕ) (f : Filled V) → Reached cells seeds m → get cells m ≡ Some f → IsIn f.inputs n → Reached cells seeds n

-- exactly the cells that are reached
abbrev pub AreReached : {V : Type 0} → FinMap nat_cmp (Filled V) → (seeds found : List ℕ) → Type 0
AreReached cells seeds found = (n : ℕ) → IsIn found n ↔ Reached cells seeds n

-- a list with these items more, each at most once; the others keep their places
pub record Joins (old more new : List ℕ) : Type 0 where
  pub keeps : (i n : ℕ) → slice_get old i ≡ Some n → slice_get new i ≡ Some n
  pub only : (n : ℕ) → IsIn new n → IsIn old n ⊎ IsIn more n
  pub each : (n : ℕ) → IsIn more n → IsIn new n

-- a list has each of its cells once, and a set has the same
pub record IsSetOf (cells set : List ℕ) : Type 0 where
  pub once : IsOnce cells
  pub same : (n : ℕ) → Contains set n ↔ IsIn cells n

-- each of these names has a number
abbrev pub AllNamed : List CellName → List CellName → Type 0
AllNamed names xs = (x : CellName) → IsIn xs x → (n : ℕ) × (slice_get names n ≡ Some x)

-- the fixed point of the loop that a frame after a path goes into
abbrev pub fix_of : NameFrame → List NameFrame → List CellName
fix_of (InCall n) w = []
fix_of (InLoop n k) w = name w (Fix n) ∷ []

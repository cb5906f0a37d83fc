-- The turns of a walk along users, depth first.
use Rattle.std.specs.Prelude.{◌≡◌, ℕ, ◌↔◌, List, [], ◌∷◌, ◌++◌, IsSome}
use Rattle.std.specs.FinMap.{get}
use Rattle.daig_graph.specs.Cells.{IsUse}
use Rattle.daig_graph.specs.Held.{IsIn}
use Rattle.daig_graph.specs.declared.graph.Use.{Use}
use Rattle.cell_removal.specs.declared.planning.Open.{Open}
use Rattle.cell_removal.specs.Removal.{Cells, IsFirst}
use Rattle.cell_removal.specs.Marks.{HasMark, Puts}

-- a cell with all its uses
pub record IsOpened {V : Type 0} (cells : Cells V) (cell : ℕ) (o : Open) : Type 0 where
  pub same : o.cell ≡ cell
  pub uses : (u : Use) → IsIn o.users u ↔ IsUse cells cell u

-- A turn over a stack, its top last: the cell is planned, since all its users are marked; or the first user that is not is
-- marked and comes above it.
pub data Turns {V : Type 0} (cells : Cells V) (o : Open) (marks planned : List ℕ) : (more now : List ℕ) → (stack after : List Open) → Type 0 where
  takes : (stack : List Open) → ((u : Use) → IsIn o.users u → HasMark marks u.cell) → Turns cells o marks planned marks (planned ++ o.cell ∷ []) stack stack
  goes : (more : List ℕ) (stack : List Open) (r p : Open) → r.cell ≡ o.cell → IsFirst (HasMark marks) o.users r.users p.cell → IsOpened cells p.cell p → Puts marks more p.cell
      → Turns cells o marks planned more planned stack ((stack ++ r ∷ []) ++ p ∷ [])

-- such a turn of the cell on top of a stack
abbrev pub TurnsTop : {V : Type 0} → Cells V → (marks planned more now : List ℕ) → (stack after : List Open) → Type 0
TurnsTop cells marks planned more now stack after = (below : List Open) (o : Open) → stack ≡ below ++ o ∷ [] → Turns cells o marks planned more now below after

-- What is left of the users of the cells on a stack are cells.
abbrev pub AreOpenUsers : {V : Type 0} → Cells V → List Open → Type 0
AreOpenUsers cells stack = (o : Open) (u : Use) → IsIn stack o → IsIn o.users u → IsSome (get cells u.cell)

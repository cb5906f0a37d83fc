-- The cells whose own row is changed.
use Rattle.std.specs.Prelude.{◌≡◌, ◌⊎◌, ◌↔◌, ℕ, ◌<◌, ◌==◌, List, [], length, Option, Some, None, IsSome, slice_get, reverse}
use Rattle.std.specs.FinMap.{get}
use Rattle.cell_names.specs.declared.frame.Point.TheVariants.{Entry}
use Rattle.cell_names.specs.Paths.{CellName}
use Rattle.cell_rows.specs.Names.{name}
use Rattle.cell_rows.specs.Rows.{Row}
use Rattle.cell_rows.specs.Flat.{flat_row}
use Rattle.daig_graph.specs.Cells.{Filled, IsOwned}
use Rattle.daig_graph.specs.Held.{IsIn}
use Rattle.imp_flow.specs.Plans.{Plan}
use Rattle.cell_removal.specs.Removal.{Cells}
use Rattle.edit_invalidate.specs.Rows.{AskSame}

-- Both programs have a row for the name, and these ask for the same of a cell with so many inputs.
pub record KeepsCell (old new : Plan) (x : CellName) (inputs : ℕ) : Type 0 where
  pub row : Row
  pub other : Row
  pub had : flat_row old.engine (reverse old.program) x.path x.point ≡ Some row
  pub has : flat_row new.engine (reverse new.program) x.path x.point ≡ Some other
  pub asked : AskSame (inputs == 1) row other

abbrev pub or_start : Option CellName → CellName
or_start (Some x) = x
or_start None = name [] Entry

-- the name under a number
abbrev pub name_at : List CellName → ℕ → CellName
name_at names n = or_start (slice_get names n)

abbrev pub input_count : {V : Type 0} → Option (Filled V) → ℕ
input_count (Some f) = length f.inputs
input_count None = 0

-- how many inputs a cell has
abbrev pub inputs_at : {V : Type 0} → Cells V → ℕ → ℕ
inputs_at cells n = input_count (get cells n)

-- each cell has a name
abbrev pub AreNamed : {V : Type 0} → Cells V → List CellName → Type 0
AreNamed cells names = (n : ℕ) → IsSome (get cells n) → n < length names

module _ {V : Type 0} (old new : Plan) (names : List CellName) (cells : Cells V) where
  -- a cell of a statement whose own row is changed
  pub record IsTouchedOf (stmt n : ℕ) : Type 0 where
    pub owned : IsOwned cells stmt n
    pub lost : KeepsCell old new (name_at names n) (inputs_at cells n) → ⊥

  -- a cell of one of these statements whose own row is changed
  pub record IsTouched (stmts : List ℕ) (n : ℕ) : Type 0 where
    pub stmt : ℕ
    pub changed : IsIn stmts stmt
    pub touched : IsTouchedOf stmt n

  abbrev pub AddsTouched : (stmt : ℕ) → (before after : List ℕ) → Type 0
  AddsTouched stmt before after = (n : ℕ) → IsIn after n ↔ (IsIn before n ⊎ IsTouchedOf stmt n)

  abbrev pub AreTouched : (stmts xs : List ℕ) → Type 0
  AreTouched stmts xs = (n : ℕ) → IsIn xs n ↔ IsTouched stmts n

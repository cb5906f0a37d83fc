-- Names and numbers lead to the same cells.
use Rattle.std.specs.Prelude.{◌≡◌, ℕ, List, Some, slice_get}
use Rattle.std.specs.Ordering.{nat_cmp}
use Rattle.std.specs.FinMap.{FinMap, get}
use Rattle.daig_graph.specs.Cells.{Filled}
use Rattle.cell_names.specs.Known.{IsOnce}
use Rattle.cell_names.specs.Paths.{CellName}
use Rattle.cell_graph.specs.Named.{filled_at}

-- Where each name has one number, the cell of a name is that of its number.
abbrev pub NamesFindCells : Type 0 → Type 0
NamesFindCells V =
    (cells : FinMap nat_cmp (Filled V)) (names : List CellName) (x : CellName) (n : ℕ) → IsOnce names → slice_get names n ≡ Some x → filled_at cells names x ≡ get cells n

-- The cell of a name has a number, and it is the name's.
abbrev pub CellsFindNames : Type 0 → Type 0
CellsFindNames V =
    (cells : FinMap nat_cmp (Filled V)) (names : List CellName) (x : CellName) (f : Filled V) → filled_at cells names x ≡ Some f → (n : ℕ) × (slice_get names n ≡ Some x) × (get cells n ≡ Some f)

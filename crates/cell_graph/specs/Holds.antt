-- That the cells of a graph are those of a program.
use Rattle.std.specs.Prelude.{◌≡◌, ℕ, List, Some, slice_get}
use Rattle.std.specs.Ordering.{nat_cmp}
use Rattle.std.specs.FinMap.{FinMap, get}
use Rattle.imp_slots.specs.Fits.{IsChecked}
use Rattle.domain_laws.specs.Operations.{Operations}
use Rattle.cell_names.specs.Known.{IsOnce}
use Rattle.cell_names.specs.Owners.{owner}
use Rattle.cell_names.specs.Paths.{CellName}
use Rattle.cell_kept_set.specs.Touched.{AreCells}
use Rattle.daig_graph.specs.Cells.{Filled}
use Rattle.imp_flow.specs.Plans.{Plan}
use Rattle.cell_graph.specs.Same.{same_name}
use Rattle.cell_graph.specs.Named.{kept, AreNumbers}
use Rattle.cell_graph.specs.Asked.{inputs}

module _ {S V : Type 0} (dom : Operations S) (plan : Plan) (names : List CellName) where
  -- a cell is that of a name: it has the name's inputs, and the statement that it belongs to
  pub record IsCellOf (x : CellName) (f : Filled V) : Type 0 where
    pub inputs : AreNumbers names f.inputs (inputs dom plan x)
    pub owned : f.owner ≡ owner x.path x.point

  -- The program is checked; names have one number; the names that have cells are names of the program, and closed under
  -- inputs; and each cell is that of its number's name.
  pub record HoldsCells (cells : FinMap nat_cmp (Filled V)) : Type 0 where
    pub checked : IsChecked plan.program
    pub once : IsOnce names
    pub kept : AreCells dom plan.engine plan.program same_name (kept cells names)
    pub each : (n : ℕ) (f : Filled V) → get cells n ≡ Some f → (x : CellName) × (slice_get names n ≡ Some x) × IsCellOf x f

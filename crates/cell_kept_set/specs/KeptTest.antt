-- What an edit keeps, as a test.
use Rattle.std.specs.Prelude.{Bool, false, ◌&&◌, Option, Some, None, is_some, reverse}
use Rattle.std.specs.Cmp.Lexicographic.{pointwise}
use Rattle.domain_laws.specs.Operations.{Operations}
use Rattle.cell_names.specs.Paths.{CellName}
use Rattle.daig_order.specs.Asking.{inputs_of}
use Rattle.cell_rows.specs.Names.{bare, mark_of}
use Rattle.cell_rows.specs.Rows.{Row, op_of}
use Rattle.cell_rows.specs.Flat.{flat_row}
use Rattle.cell_kept_set.specs.Touched.{Edit, old_rows, old_system, new_inputs}
use Rattle.cell_kept_set.specs.SameOperation.{same_operation}
use Rattle.cell_kept_set.specs.StaysWithin as staying

-- two rows that are there, with the same operation
abbrev pub same_rows : Option Row → Option Row → Bool
same_rows None q = false
same_rows (Some r) None = false
same_rows (Some r) (Some q) = same_operation (op_of r) (op_of q)

module _ {S : Type 0} (dom : Operations S) (e : Edit) (same : CellName → CellName → Bool) where
  -- the new program has the name
  abbrev pub has_name : CellName → Bool
  has_name x = is_some (mark_of e.engine bare (reverse e.new) x)

  -- both programs have a row for it, with the same operation and the same inputs
  abbrev pub keeps_row : CellName → Bool
  keeps_row x =
      same_rows (flat_row e.engine (reverse e.old) x.path x.point) (flat_row e.engine (reverse e.new) x.path x.point) && pointwise same (inputs_of (old_rows dom e same) x) (new_inputs dom e same x)

  abbrev pub untouched : CellName → Bool
  untouched x = has_name x && keeps_row x

  -- of these cells, those that are kept
  unfoldable pub stays_kept : (CellName → Bool) → CellName → Bool
  stays_kept cells = staying.stays (old_system dom e same) untouched cells

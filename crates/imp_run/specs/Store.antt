-- List cells as plain data.
use Rattle.std.specs.Prelude.{Option, Some, None}
use Rattle.concrete_sem.specs.Values.{Cell}
use Rattle.imp_run.specs.declared.store.ListCell.{ListCell}

abbrev pub cell_of : ListCell → Cell
cell_of c = record { item = c.item; next = c.next }

abbrev pub cell_at : Option ListCell → Option Cell
cell_at None = None
cell_at (Some c) = Some (cell_of c)

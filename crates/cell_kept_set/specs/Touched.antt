-- What an edit touches: names that the new program lacks, or has with another operation or other inputs.
use Rattle.std.specs.Prelude.{◌≡◌, List, [], Some, Bool, true, reverse}
use Rattle.imp_slots.specs.Plain.{Routine}
use Rattle.domain_laws.specs.Operations.{Operations}
use Rattle.batch_meaning.specs.Batch.{LoopOptions}
use Rattle.cell_names.specs.Paths.{CellName}
use Rattle.daig_order.specs.Order.{System}
use Rattle.daig_order.specs.OrderLaws.{IsClosed}
use Rattle.daig_order.specs.Asking.{Rows, gather, value_of, inputs_of, system_of}
use Rattle.cell_rows.specs.Rows.{Row, op_of}
use Rattle.cell_rows.specs.Cells.{Cell}
use Rattle.cell_rows.specs.Flat.{flat_row}
use Rattle.cell_rows.specs.Claims.{HasName, rows_of, IsUntouched}
use Rattle.daig_order.specs.Leading.{Stays}

-- Cells of names of the program, closed under its inputs.
pub record AreCells {S : Type 0} (dom : Operations S) (engine : LoopOptions) (program : List Routine) (same : CellName → CellName → Bool) (cells : CellName → Bool) : Type 0 where
  pub named : (x : CellName) → cells x ≡ true → HasName engine program x
  pub closed : IsClosed (system_of (rows_of dom engine program same)) cells

-- two programs under the same settings
pub record Edit : Type 0 where
  pub engine : LoopOptions
  pub old : List Routine
  pub new : List Routine

module _ {S : Type 0} (dom : Operations S) (e : Edit) (same : CellName → CellName → Bool) where
  abbrev pub old_rows : Rows CellName (Cell S)
  old_rows = rows_of dom e.engine e.old same

  abbrev pub new_rows : Rows CellName (Cell S)
  new_rows = rows_of dom e.engine e.new same

  -- the old inputs
  abbrev pub old_system : System CellName
  old_system = system_of old_rows

  abbrev pub new_system : System CellName
  new_system = system_of new_rows

  -- what the new program's row asks for by the old values
  abbrev pub new_inputs : CellName → List CellName
  new_inputs x = gather (value_of old_rows) (new_rows.asks x) (new_rows.most x) []

  -- Both programs have a row by number for the name, with the same operation and the same inputs by the old values. Of
  -- a join after a loop with breaks whose fixed point is an Over only the left input is asked for.
  pub record KeepsRow (x : CellName) : Type 0 where
    pub row : Row
    pub other : Row
    pub had : flat_row e.engine (reverse e.old) x.path x.point ≡ Some row
    pub has : flat_row e.engine (reverse e.new) x.path x.point ≡ Some other
    pub operation : op_of row ≡ op_of other
    pub inputs : inputs_of old_rows x ≡ new_inputs x

  -- the own row is another, or gone
  abbrev pub IsChanged : CellName → Type 0
  IsChanged x = KeepsRow x → ⊥

  -- the new program lacks the name, or has another operation or other inputs there
  abbrev pub IsTouched : CellName → Type 0
  IsTouched x = HasName e.engine e.new x × KeepsRow x → ⊥

  -- the same with the inputs that the new program's own values ask for
  abbrev pub IsTouchedByNew : CellName → Type 0
  IsTouchedByNew x = IsUntouched dom e.engine e.old e.new same x → ⊥

  -- the kept set: the cells that are not touched and from which no path of old inputs leads to a touched name
  abbrev pub IsKept : (CellName → Bool) → CellName → Type 0
  IsKept = Stays old_system IsTouched

  -- the same by the own rows alone, which are looked up by number
  abbrev pub IsKeptByRows : (CellName → Bool) → CellName → Type 0
  IsKeptByRows = Stays old_system IsChanged

  -- the same where touched is by the new program's own values
  abbrev pub IsKeptByNew : (CellName → Bool) → CellName → Type 0
  IsKeptByNew = Stays old_system IsTouchedByNew

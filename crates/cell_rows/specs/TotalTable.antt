-- The rows that are looked up by statement number alone.
use Rattle.std.specs.Prelude.{List, Option, None, Bool}
use Rattle.imp_slots.specs.Plain.{Routine}
use Rattle.domain_laws.specs.Operations.{Operations}
use Rattle.batch_meaning.specs.Batch.{LoopOptions}
use Rattle.daig_order.specs.Asking.{Rows}
use Rattle.cell_names.specs.Paths.{CellName}
use Rattle.cell_rows.specs.Rows.{Row}
use Rattle.cell_rows.specs.Cells.{Cell, asks_row, operation_row, most_row, by_row, nothing}
use Rattle.cell_rows.specs.Flat.{flat_row}
use Rattle.cell_rows.specs.Total.{total_rank}

module _ {S : Type 0} (dom : Operations S) (engine : LoopOptions) (program : List Routine) where
  abbrev pub total_row : CellName → Option Row
  total_row x = flat_row engine program x.path x.point

  abbrev pub total_table : (CellName → CellName → Bool) → Rows CellName (Cell S)
  total_table same = record {
    same = same;
    asks = λ x vs. by_row dom engine (total_row x) None (λ r. asks_row dom engine r vs);
    operation = λ x vs. by_row dom engine (total_row x) (nothing dom engine) (λ r. operation_row dom engine r vs);
    most = λ x. by_row dom engine (total_row x) 0 (most_row dom engine);
    rank = total_rank engine program;
  }

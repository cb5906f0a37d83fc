-- The rows of a checked program, as the machine of demands runs on them.
use Rattle.std.proofs.Common.{◌≡◌, Bool, List, map, take, reverse, Some, None, refl, sym, ap, ◌∙◌}
use Rattle.imp_slots.specs.Plain.{Routine}
use Rattle.imp_slots.specs.Fits.{IsChecked}
use Rattle.domain_laws.specs.Operations.{Operations}
use Rattle.batch_meaning.specs.Batch.{LoopOptions}
use Rattle.cell_names.specs.Paths.{CellName}
use Rattle.daig_order.specs.Asking.{Rows, AreRows, inputs_of, value_of, system_of}
use Rattle.daig_order.specs.Machine.{Demand}
use Rattle.daig_order.proofs.AskingProofs.{asks-next, value-is, system-acyclic}
use Rattle.daig_order.proofs.TheoremProofs.{ceiling, below}
use Rattle.cell_rows.specs.Names.{IsSame}
use Rattle.cell_rows.specs.Rows.{Row}
use Rattle.cell_rows.specs.Cells.{Cell, by_row, nothing, asks_row, operation_row}
use Rattle.cell_rows.specs.Flat.{flat_row}
use Rattle.cell_rows.specs.Targets.{Target, demanded}
use Rattle.cell_rows.specs.Claims.{rows_of}
use Rattle.cell_rows.proofs.FlatOnce.{flat_once, all_fine}
use Rattle.cell_rows.proofs.TotalRows.{is_total}
use Rattle.daig_demands.specs.Claims.{Answered, found_by}

module _ {S : Type 0} (dom : Operations S) (engine : LoopOptions) (program : List Routine) (same : CellName → CellName → Bool) (is : IsSame same) (checked : IsChecked program) where
  abbrev pub rows : Rows CellName (Cell S)
  rows = rows_of dom engine program same

  pub law : AreRows rows
  law = is_total dom engine (reverse program) (all_fine program checked) (flat_once program checked) same is

  -- the value of a name with this row
  pub value_by : (x : CellName) (r : Row) → flat_row engine (reverse program) x.path x.point ≡ Some r → value_of rows x ≡ operation_row dom engine r (map (value_of rows) (inputs_of rows x))
  value_by x r e = value-is rows law x ∙ ap (λ o. by_row dom engine o (nothing dom engine) (λ r. operation_row dom engine r (map (value_of rows) (inputs_of rows x)))) e

  pub answered : (x : CellName) (r : Row) → flat_row engine (reverse program) x.path x.point ≡ Some r → Answered dom engine program same x r
  answered x r e = record {
    next = λ k h. ap (λ o. by_row dom engine o None (λ r. asks_row dom engine r (map (value_of rows) (take k (inputs_of rows x))))) (sym e) ∙ asks-next rows law x k h;
    value = value_by x r e;
  }

  pub runs : (ts : List Target) → (d : Demand CellName (Cell S)) × (d.system ≡ system_of rows) × (d.value ≡ found_by dom engine program same) × (d.names ≡ demanded (found_by dom engine program same) ts)
  runs ts =
      let names = demanded (found_by dom engine program same) ts in
      let s = system_of rows in (
        record { system = s; value = value_of rows; names = names; bound = ceiling s names; acyclic = system-acyclic rows law; below = below s (system-acyclic rows law) names },
        refl,
        refl,
        refl,
      )

-- Over an edit: cells that are kept hold the new program's values.
use Rattle.std.proofs.Common.{reverse, ◌≡◌, Bool, true, List, Some, sym, ap, ◌∙◌}
use Rattle.imp_slots.specs.Plain.{Routine}
use Rattle.imp_slots.specs.Fits.{IsChecked}
use Rattle.domain_laws.specs.Operations.{Operations}
use Rattle.batch_meaning.specs.Batch.{LoopOptions}
use Rattle.cell_names.specs.Paths.{CellName}
use Rattle.daig_order.specs.Order.{member}
use Rattle.daig_order.specs.Asking.{Rows, inputs_of}
use Rattle.cell_rows.specs.Names.{IsSame}
use Rattle.cell_rows.specs.Rows.{Row, op_of}
use Rattle.cell_rows.specs.Cells.{Cell, value_of_name, by_row, nothing, operation_row}
use Rattle.cell_rows.specs.TotalTable.{total_table, total_row}
use Rattle.cell_rows.proofs.FlatOnce.{flat_once, all_fine}
use Rattle.cell_rows.proofs.TableProofs.{HasName}
use Rattle.cell_rows.proofs.Edits.{SameIn, kept}
use Rattle.cell_rows.proofs.FlatShapes.{same_operation}
use Rattle.cell_rows.proofs.TotalRows.{is_total, total_values}

module _ {S : Type 0} (dom : Operations S) (engine : LoopOptions) (old new : List Routine) (co : IsChecked old) (cn : IsChecked new) (same : CellName → CellName → Bool) (is : IsSame same) where
  abbrev TO : Rows CellName (Cell S)
  TO = total_table dom engine (reverse old) same

  abbrev TN : Rows CellName (Cell S)
  TN = total_table dom engine (reverse new) same

  abbrev InOld : CellName → Type 0
  InOld = HasName dom engine (reverse old) (all_fine old co)

  abbrev InNew : CellName → Type 0
  InNew = HasName dom engine (reverse new) (all_fine new cn)

  -- A name of both programs with the same operation and inputs in both is not touched.
  pub record Untouched (x : CellName) : Type 0 where
    pub old_row : Row
    pub new_row : Row
    pub in_old : InOld x
    pub in_new : InNew x
    pub old_is : total_row dom engine (reverse old) x ≡ Some old_row
    pub new_is : total_row dom engine (reverse new) x ≡ Some new_row
    pub operation : op_of old_row ≡ op_of new_row
    pub inputs : inputs_of TO x ≡ inputs_of TN x

  same_there : (x : CellName) → Untouched x → SameIn TO TN x
  same_there x u = record {
    inputs = u.inputs;
    operation = λ vs k.
        ap (λ o. by_row dom engine o (nothing dom engine) (λ r. operation_row dom engine r vs)) u.old_is
        ∙ same_operation dom engine (reverse old) (reverse new) x.path x.point u.old_row u.new_row u.old_is u.new_is u.operation vs
        ∙ sym (ap (λ o. by_row dom engine o (nothing dom engine) (λ r. operation_row dom engine r vs)) u.new_is);
  }

  -- Where all that a name depends on is untouched, it has the same value in both programs.
  pub kept_value : (P : CellName → Type 0) → ((x : CellName) → P x → Untouched x) → ((x y : CellName) → P x → member same (inputs_of TO x) y ≡ true → P y) → (x : CellName) → P x → value_of_name dom engine (reverse old) x ≡ value_of_name dom engine (reverse new) x
  kept_value P rows down x p =
      let u = rows x p in
      sym (total_values dom engine (reverse old) (all_fine old co) (flat_once old co) same is x u.in_old)
      ∙ kept TO TN (is_total dom engine (reverse old) (all_fine old co) (flat_once old co) same is) (is_total dom engine (reverse new) (all_fine new cn) (flat_once new cn) same is) P (λ x p. same_there x (rows x p)) down x p
      ∙ total_values dom engine (reverse new) (all_fine new cn) (flat_once new cn) same is x u.in_new

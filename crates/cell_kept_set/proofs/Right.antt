-- What is kept is right: the new program has it, with the same operation, inputs and value, and its inputs are kept.
use Rattle.std.proofs.Common.{reverse, ◌≡◌, Bool, true, List, map, Some, sym, ap, ◌∙◌, subst}
use Rattle.imp_slots.specs.Fits.{IsChecked}
use Rattle.domain_laws.specs.Operations.{Operations}
use Rattle.cell_names.specs.Paths.{CellName}
use Rattle.daig_order.specs.Order.{member}
use Rattle.daig_order.specs.Asking.{Rows, AreRows, value_of, inputs_of}
use Rattle.daig_order.proofs.AskingProofs.{value-is}
use Rattle.cell_rows.specs.Names.{IsSame}
use Rattle.cell_rows.specs.Rows.{Row, op_of}
use Rattle.cell_rows.specs.Cells.{Cell, by_row, nothing, operation_row, value_of_name}
use Rattle.cell_rows.specs.Flat.{flat_row}
use Rattle.cell_rows.specs.Claims.{HasName}
use Rattle.cell_rows.proofs.Unique.{All, Solves, unique, all_of}
use Rattle.cell_rows.proofs.Answered.{valued}
use Rattle.cell_rows.proofs.FlatOnce.{flat_once, all_fine}
use Rattle.cell_rows.proofs.TotalRows.{is_total, total_values}
use Rattle.cell_kept_set.specs.Touched.{Edit, old_rows, new_rows, new_inputs, KeepsRow}
use Rattle.cell_rows.proofs.FlatShapes.{same_operation}

module _ {S : Type 0} (dom : Operations S) (e : Edit) (co : IsChecked e.old) (cn : IsChecked e.new) (same : CellName → CellName → Bool) (is : IsSame same) where
  abbrev TO : Rows CellName (Cell S)
  TO = old_rows dom e same

  abbrev TN : Rows CellName (Cell S)
  TN = new_rows dom e same

  pub old_law : AreRows TO
  old_law = is_total dom e.engine (reverse e.old) (all_fine e.old co) (flat_once e.old co) same is

  pub new_law : AreRows TN
  new_law = is_total dom e.engine (reverse e.new) (all_fine e.new cn) (flat_once e.new cn) same is

  abbrev f : CellName → Cell S
  f = value_of TO

  pub row_result : (x : CellName) (r q : Row) → flat_row e.engine (reverse e.old) x.path x.point ≡ Some r → flat_row e.engine (reverse e.new) x.path x.point ≡ Some q → op_of r ≡ op_of q → (vs : List (Cell S)) → TO.operation x vs ≡ TN.operation x vs
  row_result x r q h k o vs =
      ap (λ o. by_row dom e.engine o (nothing dom e.engine) (λ r. operation_row dom e.engine r vs)) h
      ∙ same_operation dom e.engine (reverse e.old) (reverse e.new) x.path x.point r q h k o vs
      ∙ sym (ap (λ o. by_row dom e.engine o (nothing dom e.engine) (λ r. operation_row dom e.engine r vs)) k)

  same_result : (x : CellName) → KeepsRow dom e same x → (vs : List (Cell S)) → TO.operation x vs ≡ TN.operation x vs
  same_result x k vs = row_result x k.row k.other k.had k.has k.operation vs

  -- Names that keep their rows and are closed under the old inputs keep their inputs and their values.
  module _ (P : CellName → Type 0) (rows : (x : CellName) → P x → KeepsRow dom e same x) (down : (x y : CellName) → P x → member same (inputs_of TO x) y ≡ true → P y) where
    solves : Solves TN f P
    solves = record {
      value = λ x p. value-is TO old_law x ∙ ap (λ xs. TO.operation x (map f xs)) (rows x p).inputs ∙ same_result x (rows x p) (map f (new_inputs dom e same x));
      down = λ x p. subst (All P) (rows x p).inputs (all_of same is.same_refl P (inputs_of TO x) (λ y m. down x y p m));
    }

    pub same_inputs : (x : CellName) → P x → inputs_of TN x ≡ inputs_of TO x
    same_inputs x p = (unique TN f P new_law solves x p).0 ∙ sym (rows x p).inputs

    pub same_value : (x : CellName) → P x → value_of TN x ≡ value_of TO x
    same_value x p = (unique TN f P new_law solves x p).1

  -- By the batch interpreter, where both programs have the name.
  pub batch_same : (x : CellName) → HasName e.engine e.old x → HasName e.engine e.new x → value_of TN x ≡ value_of TO x → value_of_name dom e.engine (reverse e.new) x ≡ value_of_name dom e.engine (reverse e.old) x
  batch_same x o n v =
      sym (total_values dom e.engine (reverse e.new) (all_fine e.new cn) (flat_once e.new cn) same is x (valued dom e.engine e.new cn x n))
      ∙ v
      ∙ total_values dom e.engine (reverse e.old) (all_fine e.old co) (flat_once e.old co) same is x (valued dom e.engine e.old co x o)

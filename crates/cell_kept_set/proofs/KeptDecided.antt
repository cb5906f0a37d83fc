-- The test decides what is kept.
use Rattle.std.proofs.Common.{reverse, ◌≡◌, Bool, true, Option, Some, None, refl, sym, ap, ◌∙◌, subst}
use Rattle.std.specs.Prelude.{is_some}
use Rattle.std.proofs.lemmas.Bool.{and_parts, and_from}
use Rattle.std.specs.Bool.{Decides}
use Rattle.std.specs.Cmp.Lexicographic.{pointwise, pointwise_decides}
use Rattle.base_values.proofs.Cases.{by_bool}
use Rattle.imp_slots.specs.Fits.{IsChecked}
use Rattle.domain_laws.specs.Operations.{Operations}
use Rattle.cell_names.specs.Paths.{CellName}
use Rattle.daig_order.specs.Asking.{inputs_of}
use Rattle.daig_order.proofs.AskingProofs.{system-acyclic}
use Rattle.cell_rows.specs.Names.{bare, mark_of, IsSame}
use Rattle.cell_rows.specs.Rows.{Row, op_of}
use Rattle.cell_rows.specs.Flat.{flat_row}
use Rattle.cell_rows.specs.Claims.{HasName}
use Rattle.cell_kept_set.specs.Touched.{Edit, old_rows, old_system, new_inputs, KeepsRow, IsTouched, AreCells, IsKept}
use Rattle.cell_kept_set.proofs.Right.{old_law}
use Rattle.cell_kept_set.specs.KeptTest.{same_rows, keeps_row, untouched, stays_kept}
use Rattle.cell_kept_set.proofs.OperationDecided.{operation_is}
use Rattle.cell_kept_set.proofs.StaysDecided.{stays_decides}

some_is : {A : Type 0} (o : Option A) → Decides (is_some o) ((a : A) × (o ≡ Some a))
some_is None = (λ e. absurd cc, λ p. (let e = p.1 in absurd cc))
some_is (Some a) = (λ e. (a, refl), λ p. refl)

-- two rows that are there, with the same operation
record AreSame (o q : Option Row) : Type 0 where
  pub row : Row
  pub other : Row
  pub had : o ≡ Some row
  pub has : q ≡ Some other
  pub operation : op_of row ≡ op_of other

rows_are : (o q : Option Row) → Decides (same_rows o q) (AreSame o q)
rows_are None q = (λ e. absurd cc, λ s. (let e = s.had in absurd cc))
rows_are (Some r) None = (λ e. absurd cc, λ s. (let e = s.has in absurd cc))
rows_are (Some r) (Some t) = (
  λ e. record { row = r; other = t; had = refl; has = refl; operation = (operation_is (op_of r) (op_of t)).0 e },
  λ s.
      (let i : r ≡ s.row = cc in
      let j : t ≡ s.other = cc in
      (operation_is (op_of r) (op_of t)).1 (ap op_of i ∙ s.operation ∙ sym (ap op_of j))),
)

module _ {S : Type 0} (dom : Operations S) (e : Edit) (same : CellName → CellName → Bool) (is : IsSame same) where
  names_are : (x y : CellName) → Decides (same x y) (x ≡ y)
  names_are x y = (is.same_true x y, λ h. subst (λ z. same x z ≡ true) h (is.same_refl x))

  row_is : (x : CellName) → Decides (keeps_row dom e same x) (KeepsRow dom e same x)
  row_is x =
      let had = flat_row e.engine (reverse e.old) x.path x.point in
      let has = flat_row e.engine (reverse e.new) x.path x.point in
      let xs = inputs_of (old_rows dom e same) x in
      let ys = new_inputs dom e same x in (
        λ h.
            (let p = and_parts (same_rows had has) (pointwise same xs ys) h in
            let s = (rows_are had has).0 p.0 in
            record { row = s.row; other = s.other; had = s.had; has = s.has; operation = s.operation; inputs = (pointwise_decides names_are xs ys).0 p.1 }),
        λ k.
            and_from (same_rows had has) (pointwise same xs ys) ((rows_are had has).1 (record { row = k.row; other = k.other; had = k.had; has = k.has; operation = k.operation }))
            ((pointwise_decides names_are xs ys).1 k.inputs),
      )

  untouched_is : (x : CellName) → Decides (untouched dom e same x) (HasName e.engine e.new x × KeepsRow dom e same x)
  untouched_is x =
      let m = mark_of e.engine bare (reverse e.new) x in (
        λ h. (let p = and_parts (is_some m) (keeps_row dom e same x) h in ((some_is m).0 p.0, (row_is x).0 p.1)),
        λ p. and_from (is_some m) (keeps_row dom e same x) ((some_is m).1 p.0) ((row_is x).1 p.1),
      )

  tells : (x : CellName) → untouched dom e same x ≡ true → IsTouched dom e same x → ⊥
  tells x h t = t ((untouched_is x).0 h)

  told : (x : CellName) → (IsTouched dom e same x → ⊥) → untouched dom e same x ≡ true
  told x n = by_bool (untouched dom e same x) (λ h. h) (λ h. absurd (n (λ u. (let k = (untouched_is x).1 u in absurd cc))))

  pub kept_decides : IsChecked e.old → IsChecked e.new → (cells : CellName → Bool) → AreCells dom e.engine e.old same cells → (x : CellName) → Decides (stays_kept dom e same cells x) (IsKept dom e same cells x)
  unfolding stays_kept
  kept_decides co cn cells are x =
      stays_decides (old_system dom e same) (system-acyclic (old_rows dom e same) (old_law dom e co cn same is)) (IsTouched dom e same) (untouched dom e same) cells are.closed tells told x

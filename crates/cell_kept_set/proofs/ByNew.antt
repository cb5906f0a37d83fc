-- The inputs by the new program's own values tell the same kept set.
use Rattle.std.proofs.Common.{reverse, ◌≡◌, ◌↔◌, Bool, true, [], sym, ◌∙◌, subst, inl, inr}
use Rattle.imp_slots.specs.Fits.{IsChecked}
use Rattle.domain_laws.specs.Operations.{Operations}
use Rattle.cell_names.specs.Paths.{CellName}
use Rattle.daig_order.specs.Order.{member}
use Rattle.daig_order.specs.Asking.{Rows, value_of, inputs_of}
use Rattle.cell_rows.specs.Names.{IsSame}
use Rattle.cell_rows.specs.Cells.{Cell}
use Rattle.cell_rows.specs.Flat.{flat_row}
use Rattle.cell_rows.specs.Claims.{HasName, IsUntouched}
use Rattle.cell_rows.proofs.Unique.{gather-agree, all_of}
use Rattle.cell_rows.proofs.Edits.{kept}
use Rattle.daig_order.specs.Leading.{itself}
use Rattle.daig_order.proofs.WithinLemmas.{stays-closed}
use Rattle.cell_kept_set.specs.Touched.{Edit, old_rows, new_rows, old_system, new_inputs, KeepsRow, IsTouched, IsTouchedByNew, AreCells, IsKept, IsKeptByNew}
use Rattle.cell_kept_set.specs.Claims.{IsRight}
use Rattle.cell_kept_set.proofs.Decided.{Decided, both, has_name, AreSame, are_same, untouched}
use Rattle.cell_kept_set.proofs.Right.{old_law, new_law, row_result, same_inputs, same_value, batch_same}
use Rattle.cell_kept_set.proofs.Local.{transfer, sure}

module _ {S : Type 0} (dom : Operations S) (e : Edit) (co : IsChecked e.old) (cn : IsChecked e.new) (same : CellName → CellName → Bool) (is : IsSame same) (cells : CellName → Bool) (are : AreCells dom e.engine e.old same cells) where
  abbrev TO : Rows CellName (Cell S)
  TO = old_rows dom e same

  abbrev TN : Rows CellName (Cell S)
  TN = new_rows dom e same

  abbrev Kept : CellName → Type 0
  Kept = IsKept dom e same cells

  kept_is : (x : CellName) → Kept x → HasName e.engine e.new x × KeepsRow dom e same x
  kept_is x k = sure (untouched same is dom e x) (λ n. k.free (itself x n))

  kept_down : (x y : CellName) → Kept x → member same (inputs_of TO x) y ≡ true → Kept y
  kept_down x y k m = stays-closed (old_system dom e same) (IsTouched dom e same) cells are.closed x y k m

  -- What is kept is right.
  pub is_right : (x : CellName) → Kept x → IsRight dom e same Kept x
  is_right x k =
      let u = kept_is x k in
      let i = same_inputs dom e co cn same is Kept (λ y k. (kept_is y k).1) kept_down x k in
      let v = same_value dom e co cn same is Kept (λ y k. (kept_is y k).1) kept_down x k in
      record {
        named = u.0;
        row = u.1;
        inputs = i;
        found = v;
        value = batch_same dom e co cn same is x (are.named x k.had) u.0 v;
        closed = λ y m. kept_down x y k (subst (λ xs. member same xs y ≡ true) i m);
      }

  abbrev New : CellName → Type 0
  New = IsKeptByNew dom e same cells

  abbrev There : CellName → Type 0
  There = IsUntouched dom e.engine e.old e.new same

  there : (x : CellName) → Decided (There x)
  there x = go (both (has_name e.engine e.old x) (both (has_name e.engine e.new x) (are_same same is (flat_row e.engine (reverse e.old) x.path x.point) (flat_row e.engine (reverse e.new) x.path x.point) (inputs_of TO x) (inputs_of TN x))))
    where
      go : Decided (HasName e.engine e.old x × (HasName e.engine e.new x × AreSame same is (flat_row e.engine (reverse e.old) x.path x.point) (flat_row e.engine (reverse e.new) x.path x.point) (inputs_of TO x) (inputs_of TN x))) → Decided (There x)
      go (inl s) = inl (record { old_row = s.1.1.row; new_row = s.1.1.other; in_old = s.0; in_new = s.1.0; old_is = s.1.1.had; new_is = s.1.1.has; operation = s.1.1.operation; inputs = s.1.1.inputs })
      go (inr n) = inr (λ u. n (u.in_old, (u.in_new, record { row = u.old_row; other = u.new_row; had = u.old_is; has = u.new_is; operation = u.operation; inputs = u.inputs })))

  new_is : (x : CellName) → New x → There x
  new_is x k = sure (there x) (λ n. k.free (itself x n))

  new_down : (x y : CellName) → New x → member same (inputs_of TO x) y ≡ true → New y
  new_down x y k m = stays-closed (old_system dom e same) (IsTouchedByNew dom e same) cells are.closed x y k m

  new_value : (x : CellName) → New x → value_of TO x ≡ value_of TN x
  new_value x k =
      kept TO TN (old_law dom e co cn same is) (new_law dom e co cn same is) New
      (λ x k. let u = new_is x k in record { inputs = u.inputs; operation = λ vs l. row_result dom e co cn same is x u.old_row u.new_row u.old_is u.new_is u.operation vs })
      new_down x k

  new_asked : (x : CellName) → New x → new_inputs dom e same x ≡ inputs_of TN x
  unfolding inputs_of
  new_asked x k =
      (gather-agree (value_of TN) (value_of TO) (TN.asks x) (TN.most x) []
      (all_of same is.same_refl (λ y. value_of TO y ≡ value_of TN y) (inputs_of TN x) (λ y m. new_value y (new_down x y k (subst (λ xs. member same xs y ≡ true) (sym (new_is x k).inputs) m))))).0

  new_keeps : (x : CellName) → New x → KeepsRow dom e same x
  new_keeps x k =
      let u = new_is x k in
      record { row = u.old_row; other = u.new_row; had = u.old_is; has = u.new_is; operation = u.operation; inputs = u.inputs ∙ sym (new_asked x k) }

  pub by_new : (x : CellName) → Kept x ↔ New x
  by_new x = (
    λ k. transfer (old_system dom e same) (IsTouched dom e same) (IsTouchedByNew dom e same) cells are.closed
        (λ z f t.
        let r = is_right z f in
        t (record { old_row = r.row.row; new_row = r.row.other; in_old = are.named z f.had; in_new = r.named; old_is = r.row.had; new_is = r.row.has; operation = r.row.operation; inputs = sym r.inputs })) x k,
    λ k. transfer (old_system dom e same) (IsTouchedByNew dom e same) (IsTouched dom e same) cells are.closed (λ z f t. t ((new_is z f).in_new, new_keeps z f)) x k,
  )

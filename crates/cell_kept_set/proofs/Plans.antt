-- Plans of removal, and what rows by number tell.
use Rattle.std.proofs.Common.{reverse, ◌≡◌, ℕ, ◌↔◌, Bool, true, List, [], Option, Some, None, refl, sym, ap, ◌∙◌}
use Rattle.imp_slots.specs.Fits.{IsChecked}
use Rattle.domain_laws.specs.Operations.{Operations}
use Rattle.cell_names.specs.Paths.{CellName}
use Rattle.daig_order.specs.Turned.{IsPlan, without}
use Rattle.daig_order.specs.Asking.{gather, value_of, inputs_of}
use Rattle.cell_rows.specs.Names.{IsSame}
use Rattle.cell_rows.specs.Rows.{Row}
use Rattle.cell_rows.specs.Cells.{by_row, asks_row, most_row}
use Rattle.cell_rows.specs.Flat.{Flat, flat_row}
use Rattle.cell_rows.specs.Claims.{HasName, HasRow}
use Rattle.cell_rows.proofs.Rowed.{has_row}
use Rattle.cell_kept_set.specs.Touched.{Edit, old_rows, old_system, KeepsRow, IsChanged, AreCells, IsKept}
use Rattle.cell_kept_set.specs.Places.{SamePlace, KeepPlaces, FramesHaveRows}
use Rattle.daig_order.specs.Within.{within, AreCellsOf}
use Rattle.cell_kept_set.proofs.Named.{name_there}
use Rattle.cell_kept_set.proofs.Local.{same_kept}
use Rattle.cell_kept_set.proofs.ByNew.{is_right}
use Rattle.daig_order.proofs.WithinLemmas.{leaves-rest}

pub rows_tell_names : {S : Type 0} (dom : Operations S) (e : Edit) (x : CellName) → IsChecked e.old → IsChecked e.new → KeepPlaces e.old e.new → HasName e.engine e.old x → FramesHaveRows e.engine e.new x.path → HasName e.engine e.new x ↔ HasRow e.engine e.new x
rows_tell_names dom e x co cn keep h frames = (λ n. has_row e.engine e.new cn x n, λ r. name_there e.engine e.old e.new co cn keep x r.0 h frames r.1)

-- The same row asks for the same.
pub same_rows_stay : {S : Type 0} (dom : Operations S) (e : Edit) (same : CellName → CellName → Bool) (x : CellName) (r : Row) →
    flat_row e.engine (reverse e.old) x.path x.point ≡ Some r → flat_row e.engine (reverse e.new) x.path x.point ≡ Some r → KeepsRow dom e same x
unfolding inputs_of
same_rows_stay {S} dom e same x r h k = record { row = r; other = r; had = h; has = k; operation = refl; inputs = ap f h ∙ sym (ap f k) }
  where
    f : Option Row → List CellName
    f o = gather (value_of (old_rows dom e same)) (λ vs. by_row dom e.engine o None (λ r. asks_row dom e.engine r vs)) (by_row dom e.engine o 0 (most_row dom e.engine)) []

pub turn : {u v : Flat} → SamePlace u v → SamePlace v u
turn p = record { procedure = sym p.procedure; loops = sym p.loops; callee = λ f g a b. sym (p.callee g f b a) }

pub places_turn : (e : Edit) → KeepPlaces e.old e.new → KeepPlaces e.new e.old
places_turn e k = record { main = sym k.main; statements = λ n u v a b. turn (k.statements n v u b a) }

module _ {S : Type 0} (dom : Operations S) (e : Edit) (same : CellName → CellName → Bool) (cells : CellName → Bool) (is : IsSame same) (co : IsChecked e.old) (cn : IsChecked e.new) (are : AreCells dom e.engine e.old same cells) where
  -- What a plan for the changed cells leaves.
  pub exact : (users : CellName → List CellName) (peak : ℕ) (changed plan : List CellName) → KeepPlaces e.old e.new → AreCellsOf (old_system dom e same) cells (IsChanged dom e same) changed →
      IsPlan (within (old_system dom e same) cells) users peak changed plan → (x : CellName) → (without (old_system dom e same) cells plan x ≡ true) ↔ IsKept dom e same cells x
  exact users peak changed plan keep those p x =
      let l = leaves-rest (old_system dom e same) cells (IsChanged dom e same) changed those are.closed users peak plan p x in
      let k = same_kept dom e co cn same is cells are keep x in
      (λ h. k.1 (l.0 h), λ h. l.1 (k.0 h))

  -- They are cells of the new program.
  pub still_cells : (plan : List CellName) → ((x : CellName) → (without (old_system dom e same) cells plan x ≡ true) ↔ IsKept dom e same cells x) → AreCells dom e.engine e.new same (without (old_system dom e same) cells plan)
  still_cells plan f = record {
    named = λ x h. (is_right dom e co cn same is cells are x ((f x).0 h)).named;
    closed = λ x y h m. (f y).1 ((is_right dom e co cn same is cells are x ((f x).0 h)).closed y m);
  }

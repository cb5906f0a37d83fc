-- Which cells carry an index.
use Rattle.std.proofs.Common.{◌≡◌, ℕ, zero, suc, Bool, true, false, if◌then◌else◌, List, [], ◌∷◌, map, length, reverse, Option, Some, None, refl, sym, ap, ◌∙◌, subst}
use Rattle.imp_slots.specs.Plain.{Code, Stop, Simple, If, While, Call, Break, Routine}
use Rattle.imp_slots.specs.Fits.{IsChecked}
use Rattle.domain_laws.specs.Operations.{Operations}
use Rattle.batch_meaning.specs.Batch.{LoopOptions}
use Rattle.batch_meaning.specs.Places.{find, if_some}
use Rattle.cell_names.specs.declared.frame.NameFrame.{NameFrame}
use Rattle.cell_names.specs.declared.frame.Point.{Point}
use Rattle.cell_names.specs.declared.frame.Point.TheVariants.{Entry, Then, Else, Body, Post, Iterate, Fix, Exit, Leap}
use Rattle.cell_names.specs.Paths.{CellName}
use Rattle.base_values.proofs.Members.{Each, each_more, each_both, none_there}
use Rattle.batch_meaning.proofs.Places.{found_member}
use Rattle.daig_order.specs.Order.{member}
use Rattle.daig_order.specs.Asking.{value_of, inputs_of}
use Rattle.daig_order.proofs.AskingProofs.{value-is, gather-asked}
use Rattle.cell_rows.specs.Names.{IsSame, name, mark, bare, iterate_point}
use Rattle.cell_rows.specs.Rows as R
use Rattle.cell_rows.specs.Rows.{Row, Init, One, Two, Fixed, Joins, fix_row}
use Rattle.cell_rows.specs.Cells.{Cell, cell, by_row, nothing, asks_row, operation_row, wants_first}
use Rattle.cell_rows.specs.Targets.{Text, deeper, texts}
use Rattle.cell_rows.specs.Flat.{Flat, flat_of, flat, stand_in, flat_row}
use Rattle.cell_rows.proofs.FlatShapes.{Shape, Shaped, flat_shaped, is_exit, is_leap}
use Rattle.cell_rows.proofs.Listed.{each_map, one}
use Rattle.daig_demands.specs.Indices.{carries_index}
use Rattle.daig_demands.proofs.Machine.{rows, law}

-- The point before a statement carries no index.
abbrev Fronted : ℕ × Text → Type 0
Fronted q = carries_index q.1.front ≡ false

texts_fronted : (c : Code) (p : Point) → carries_index p ≡ false → Each Fronted (texts c p)
texts_fronted Stop p e = none_there Fronted
texts_fronted (Simple n effect r) p e = each_more Fronted (one p (Simple n effect r)) _ e (texts_fronted r (Post n) refl)
texts_fronted (If n guard t f r) p e = each_more Fronted (one p (If n guard t f r)) _ e (each_both Fronted _ _ (texts_fronted t (Then n) refl) (each_both Fronted _ _ (texts_fronted f (Else n) refl) (texts_fronted r (Post n) refl)))
texts_fronted (While n guard b r) p e = each_more Fronted (one p (While n guard b r)) _ e (each_both Fronted _ _ (each_map (deeper n) Fronted Fronted (λ x k. k) (texts b Body) (texts_fronted b Body refl)) (texts_fronted r (Post n) refl))
texts_fronted (Call n call q r) p e = each_more Fronted (one p (Call n call q r)) _ e (texts_fronted r (Post n) refl)
texts_fronted (Break n r) p e = each_more Fronted (one p (Break n r)) _ e (texts_fronted r (Post n) refl)

abbrev FrontedFlat : ℕ × Flat → Type 0
FrontedFlat x = carries_index x.1.text.front ≡ false

fronted : (ps : List Routine) → Each FrontedFlat (flat ps)
fronted [] = none_there FrontedFlat
fronted (r ∷ e) = each_both FrontedFlat _ _ (each_map (flat_of r e) Fronted FrontedFlat (λ x k. k) (texts r.code Entry) (texts_fronted r.code Entry refl)) (fronted e)

iterate_plain : (engine : LoopOptions) (n : ℕ) (p : Point) (k : ℕ) → carries_index p ≡ false → carries_index (iterate_point engine bare n p k) ≡ false
iterate_plain engine n p zero e = e
iterate_plain engine n p (suc k) e = refl

no_exit : (p : Point) → carries_index p ≡ false → is_exit p ≡ false
no_exit (Fix n) e = refl
no_exit (Exit n) e = absurd cc
no_exit (Leap n b) e = refl
no_exit Entry e = refl
no_exit (Then n) e = refl
no_exit (Else n) e = refl
no_exit Body e = refl
no_exit (Post n) e = refl
no_exit (Iterate n k) e = refl

no_leap : (p : Point) → carries_index p ≡ false → is_leap p ≡ false
no_leap (Fix n) e = refl
no_leap (Exit n) e = refl
no_leap (Leap n b) e = absurd cc
no_leap Entry e = refl
no_leap (Then n) e = refl
no_leap (Else n) e = refl
no_leap Body e = refl
no_leap (Post n) e = refl
no_leap (Iterate n k) e = refl

module _ {S : Type 0} (dom : Operations S) (engine : LoopOptions) where
  zero_row : (w : List NameFrame) (p : Point) (r : Row) → Shape w p r → carries_index p ≡ false → (vs : List (Cell S)) → (operation_row dom engine r vs).index ≡ 0
  zero_row w p (Init layout) h e vs = refl
  zero_row w p (One op a) h e [] = refl
  zero_row w p (One (R.Posts act) a) h e (v ∷ vs) = refl
  zero_row w p (One (R.Assumes guard t) a) h e (v ∷ vs) = refl
  zero_row w p (One (R.Enters entering) a) h e (v ∷ vs) = refl
  zero_row w p (One (R.Exits guard) a) h e (v ∷ vs) = let f : true ≡ false = h ∙ no_exit p e in absurd cc
  zero_row w p (Two op a b) h e [] = refl
  zero_row w p (Two op a b) h e (v ∷ []) = refl
  zero_row w p (Two R.JoinsBoth a b) h e (v ∷ u ∷ vs) = refl
  zero_row w p (Two (R.Leaves returning) a b) h e (v ∷ u ∷ vs) = refl
  zero_row w p (Two (R.Widens thresholds) a b) h e (v ∷ u ∷ vs) = refl
  zero_row w p (Fixed n z v q) h e vs = let f : true ≡ false = sym (ap carries_index h.0) ∙ e in absurd cc
  zero_row w p (Joins stays l n v q) h e [] = refl
  zero_row w p (Joins stays l n v q) h e (u ∷ []) = subst (λ b. (operation_row dom engine (Joins b l n v q) (u ∷ [])).index ≡ 0) (sym (h.0 ∙ no_leap p e)) refl
  zero_row w p (Joins stays l n v q) h e (u ∷ t ∷ us) = subst (λ b. (operation_row dom engine (Joins b l n v q) (u ∷ t ∷ us)).index ≡ 0) (sym (h.0 ∙ no_leap p e)) refl

  module _ (program : List Routine) (same : CellName → CellName → Bool) (is : IsSame same) (checked : IsChecked program) where
    abbrev T : List Routine
    T = reverse program

    pub index_zero : (x : CellName) → carries_index x.point ≡ false → (value_of (rows dom engine program same is checked) x).index ≡ 0
    index_zero x e =
        ap (λ (c : Cell S). c.index) (value-is (rows dom engine program same is checked) (law dom engine program same is checked) x)
        ∙ go (flat_row engine T x.path x.point) (flat_shaped engine T x.path x.point)
      where
        vs : List (Cell S)
        vs = map (value_of (rows dom engine program same is checked)) (inputs_of (rows dom engine program same is checked) x)

        go : (o : Option Row) → Shaped x.path x.point o → (by_row dom engine o (nothing dom engine) (λ r. operation_row dom engine r vs)).index ≡ 0
        go None h = refl
        go (Some r) h = zero_row x.path x.point r h e vs

    -- What a fixed point asks for.
    asked_plain : (w : List NameFrame) (n : ℕ) (vs : List (Cell S)) (y : CellName) → by_row dom engine (flat_row engine T w (Fix n)) None (λ r. asks_row dom engine r vs) ≡ Some y → carries_index y.point ≡ false
    asked_plain w n vs y = at (find n (flat T)) refl
      where
        named : (q : Bool) (x : CellName) → carries_index x.point ≡ false → (if q then Some x else None) ≡ Some y → carries_index y.point ≡ false
        named true x e h = let i : x ≡ y = cc in subst (λ (y : CellName). carries_index y.point ≡ false) i e
        named false x e h = absurd cc

        asked : (u : Flat) (c : Code) → carries_index u.text.front ≡ false → by_row dom engine (fix_row engine bare w (stand_in engine T w u) (mark u.text.front 0 tt) c) None (λ r. asks_row dom engine r vs) ≡ Some y → carries_index y.point ≡ false
        asked u Stop e h = absurd cc
        asked u (Simple m effect r) e h = absurd cc
        asked u (If m guard t f r) e h = absurd cc
        asked u (While m guard b r) e h = named (wants_first dom engine vs) (name w (iterate_point engine bare m u.text.front (length vs))) (iterate_plain engine m u.text.front (length vs) e) h
        asked u (Call m call q r) e h = absurd cc
        asked u (Break m r) e h = absurd cc

        at : (o : Option Flat) → find n (flat T) ≡ o → by_row dom engine (if_some o (λ u. fix_row engine bare w (stand_in engine T w u) (mark u.text.front 0 tt) u.text.code)) None (λ r. asks_row dom engine r vs) ≡ Some y → carries_index y.point ≡ false
        at None e h = absurd cc
        at (Some u) e h = asked u u.text.code ((fronted T).at (n, u) (found_member n u (flat T) e)) h

    pub iterates_none : (w : List NameFrame) (n : ℕ) (y : CellName) → member same (inputs_of (rows dom engine program same is checked) (name w (Fix n))) y ≡ true → (value_of (rows dom engine program same is checked) y).index ≡ 0
    unfolding inputs_of
    iterates_none w n y m =
        let t = rows dom engine program same is checked in
        index_zero y (gather-asked same is.same_true (value_of t) (t.asks (name w (Fix n))) (λ y. carries_index y.point ≡ false) (λ vs y e. asked_plain w n vs y e) (t.most (name w (Fix n))) [] y m)

-- Cells with the same index are compared by their values.
pub cells_compare : {S : Type 0} (a b : Cell S) → a.index ≡ 0 → b.index ≡ 0 → a.value ≡ b.value → a ≡ b
cells_compare a b h k e = ap (λ v. cell v a.index) e ∙ ap (cell b.value) (h ∙ sym k)

-- A trace of the old row is one of the new, where the cell keeps its row.
use Rattle.std.proofs.Common.{reverse, ◌≡◌, ℕ, zero, suc, ◌≤◌, ◌==◌, Bool, true, false, if◌then◌else◌, List, [], ◌∷◌, Option, Some, None, length, take, slice_get, nat_lt, refl, sym, ap, ◌∙◌, subst, inl, inr, arith}
use Rattle.std.proofs.lemmas.Bool.{eqb-true}
use Rattle.imp_slots.specs.Plain.{Routine}
use Rattle.domain_laws.specs.Operations.{Operations}
use Rattle.batch_meaning.specs.Values.{Value, State, Over}
use Rattle.batch_meaning.specs.Batch.{LoopOptions}
use Rattle.cell_names.specs.declared.frame.NameFrame.{NameFrame}
use Rattle.cell_names.specs.declared.frame.NameFrame.TheVariants.{InLoop}
use Rattle.cell_names.specs.declared.frame.Point.{Point}
use Rattle.cell_names.specs.Paths.{CellName}
use Rattle.daig_traces.specs.Traces.{IsTrace}
use Rattle.daig_traces.proofs.TraceLemmas.{traces_move}
use Rattle.cell_rows.specs.Names.{name}
use Rattle.cell_rows.specs.Rows.{Row, Joins}
use Rattle.cell_rows.specs.Cells.{Cell, cell, by_row, nothing, asks_row, operation_row, right_of, index_if}
use Rattle.cell_rows.specs.Flat.{flat_row}
use Rattle.cell_rows.specs.Claims.{rows_of}
use Rattle.cell_rows.proofs.FlatShapes.{Shape, Shaped, flat_shaped}
use Rattle.cell_graph.specs.Same.{same_name}
use Rattle.edit_invalidate.specs.Rows.{AskLeft, AskSame}
use Rattle.edit_invalidate.specs.Claims.{TracesStay}

module _ {S : Type 0} (dom : Operations S) (engine : LoopOptions) where
  abbrev asks_at : Option Row → List (Cell S) → Option CellName
  asks_at o vs = by_row dom engine o None (λ r. asks_row dom engine r vs)

  abbrev operation_at : Option Row → List (Cell S) → Cell S
  operation_at o vs = by_row dom engine o (nothing dom engine) (λ r. operation_row dom engine r vs)

  -- By the values of a trace two rows ask for the same, and make the same of them.
  record Agree (r q : Row) (xs : List CellName) (vs : List (Cell S)) : Type 0 where
    asks : (k : ℕ) → k ≤ length xs → asks_row dom engine q (take k vs) ≡ asks_row dom engine r (take k vs)
    operation : operation_row dom engine q vs ≡ operation_row dom engine r vs

  -- Whether the right input of a join is asked for does not hang on where it stands.
  no_right : (v : Value S) (k n m : ℕ) (w u : List NameFrame) (p q : Point) → right_of dom engine n w p v k ≡ None → right_of dom engine m u q v k ≡ None
  no_right (Over j z) k n m w u p q e = refl
  no_right (State s) k n m w u p q e = go (nat_lt k engine.budget) e
    where
      go : (b : Bool) → (if b then Some (name (InLoop n k ∷ w) p) else None) ≡ None → (if b then Some (name (InLoop m k ∷ u) q) else None) ≡ None
      go true e = absurd cc
      go false e = refl

  abbrev Asked : Row → List CellName → List (Cell S) → Type 0
  Asked r xs vs = (k : ℕ) → k ≤ length xs → asks_row dom engine r (take k vs) ≡ slice_get xs k

  -- Of a join with one input, its value asks for no more, and is passed on.
  joins_agree : (s t : Bool) (l j : CellName) (n m : ℕ) (w u : List NameFrame) (p q : Point) (xs : List CellName) (vs : List (Cell S)) → s ≡ t → l ≡ j → length xs ≡ 1 → length xs ≡ length vs →
      Asked (Joins s l n w p) xs vs → Agree (Joins s l n w p) (Joins t j m u q) xs vs
  joins_agree s t l j n m w u p q (x ∷ []) (v ∷ []) same left one many asked = record { asks = asks; operation = ap (λ b. cell v.value (index_if dom engine b v.index)) (sym same) }
    where
      none : right_of dom engine n w p v.value v.index ≡ None
      none = asked 1 (omega arith)

      asks : (k : ℕ) → k ≤ 1 → asks_row dom engine (Joins t j m u q) (take k (v ∷ [])) ≡ asks_row dom engine (Joins s l n w p) (take k (v ∷ []))
      asks zero h = ap (λ y. Some y) (sym left)
      asks (suc zero) h = no_right v.value v.index n m w u p q none ∙ sym none
      asks (suc (suc k)) h = absurd (omega arith)
  joins_agree s t l j n m w u p q [] vs same left one many asked = absurd (omega arith)
  joins_agree s t l j n m w u p q (x ∷ y ∷ xs) vs same left one many asked = absurd (omega arith)
  joins_agree s t l j n m w u p q (x ∷ []) [] same left one many asked = absurd (omega arith)
  joins_agree s t l j n m w u p q (x ∷ []) (v ∷ z ∷ vs) same left one many asked = absurd (omega arith)

  left_agree : (path : List NameFrame) (point : Point) (r q : Row) (xs : List CellName) (vs : List (Cell S)) → Shape path point r → Shape path point q → AskLeft (length xs == 1) r q → length xs ≡ length vs → Asked r xs vs → Agree r q xs vs
  left_agree path point (Joins s l n w p) (Joins t j m u q) xs vs h i a many asked = joins_agree s t l j n m w u p q xs vs (h.0 ∙ sym i.0) a.0 (eqb-true (length xs) 1 a.1) many asked
  left_agree path point r q xs vs h i a many asked = absurd a

  agree : (path : List NameFrame) (point : Point) (r q : Row) (xs : List CellName) (vs : List (Cell S)) → Shape path point r → Shape path point q → AskSame (length xs == 1) r q → length xs ≡ length vs → Asked r xs vs → Agree r q xs vs
  agree path point r q xs vs h i (inl e) many asked = record { asks = λ k le. ap (λ z. asks_row dom engine z (take k vs)) (sym e); operation = ap (λ z. operation_row dom engine z vs) (sym e) }
  agree path point r q xs vs h i (inr a) many asked = left_agree path point r q xs vs h i a many asked

  module _ (old new : List Routine) (x : CellName) (xs : List CellName) (vs : List (Cell S)) (v : Cell S) where
    abbrev had : Option Row
    had = flat_row engine (reverse old) x.path x.point

    abbrev has : Option Row
    has = flat_row engine (reverse new) x.path x.point

    stays : (r q : Row) → had ≡ Some r → has ≡ Some q → AskSame (length xs == 1) r q → IsTrace (rows_of dom engine old same_name) x xs vs v → IsTrace (rows_of dom engine new same_name) x xs vs v
    stays r q h i a trace =
        let asked : Asked r xs vs = λ k le. ap (λ o. asks_at o (take k vs)) (sym h) ∙ trace.asked k le in
        let shape = subst (Shaped x.path x.point) h (flat_shaped engine (reverse old) x.path x.point) in
        let other = subst (Shaped x.path x.point) i (flat_shaped engine (reverse new) x.path x.point) in
        let f = agree x.path x.point r q xs vs shape other a trace.many asked in
        traces_move (rows_of dom engine old same_name) (rows_of dom engine new same_name) x xs vs v trace
        (λ k le. ap (λ o. asks_at o (take k vs)) i ∙ f.asks k le ∙ sym (ap (λ o. asks_at o (take k vs)) h))
        (ap (λ o. operation_at o vs) i ∙ f.operation ∙ sym (ap (λ o. operation_at o vs) h))

pub traces_stay : {S : Type 0} (dom : Operations S) → TracesStay dom
traces_stay {S} dom old new x xs vs v one keep trace =
    let has : flat_row old.engine (reverse new.program) x.path x.point ≡ Some keep.other = subst (λ (e : LoopOptions). flat_row e (reverse new.program) x.path x.point ≡ Some keep.other) (sym one) keep.has in
    subst (λ (e : LoopOptions). IsTrace (rows_of dom e new.program same_name) x xs vs v) one
    (stays dom old.engine old.program new.program x xs vs v keep.row keep.other keep.had has keep.asked trace)

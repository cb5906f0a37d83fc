-- Whether a name keeps its row is told by the two rows by number and by the old inputs.
use Rattle.std.proofs.Common.{reverse, ◌≡◌, ℕ, ◌↔◌, Bool, true, false, if◌then◌else◌, List, [], ◌∷◌, Option, Some, None, refl, sym, ap, ◌∙◌, subst, inl, inr, nat_lt, length, ◌==◌}
use Rattle.std.specs.Bool.{Decides}
use Rattle.domain_laws.specs.Operations.{Operations}
use Rattle.batch_meaning.specs.Values.{Value, State, Over}
use Rattle.batch_meaning.specs.Batch.{LoopOptions}
use Rattle.cell_names.specs.declared.frame.NameFrame.{NameFrame}
use Rattle.cell_names.specs.declared.frame.NameFrame.TheVariants.{InLoop}
use Rattle.cell_names.specs.declared.frame.Point.{Point}
use Rattle.cell_names.specs.Paths.{CellName}
use Rattle.daig_order.specs.Asking.{gather, gather_next, value_of, inputs_of}
use Rattle.cell_rows.specs.Names.{name}
use Rattle.cell_rows.specs.Rows.{Row, Init, One, Two, Fixed as FixedRow, Joins, Unary, Binary, op_of}
use Rattle.cell_rows.specs.Cells.{Cell, by_row, asks_row, most_row, right_of}
use Rattle.cell_rows.specs.Flat.{flat_row}
use Rattle.cell_kept_set.specs.Touched.{Edit, old_rows, new_inputs, KeepsRow}
use Rattle.cell_kept_set.specs.RowTest.{OnlyLeft, SameAsked}
use Rattle.cell_rows.proofs.FlatShapes.{fix_number, Shape, Shaped, flat_shaped}
use Rattle.cell_kept_set.proofs.Plans.{same_rows_stay}
use Rattle.std.proofs.lemmas.Option.{same_Some}
use Rattle.std.proofs.lemmas.Bool.{false≢true}

module _ {S : Type 0} (dom : Operations S) (engine : LoopOptions) (f : CellName → Cell S) where
  -- what a row asks for, by these values
  abbrev pub by : Row → List CellName
  by r = gather f (asks_row dom engine r) (most_row dom engine r) []

  by_one : (op : Unary) (a : CellName) → by (One op a) ≡ a ∷ []
  unfolding gather
  by_one op a = refl

  by_two : (op : Binary) (a b : CellName) → by (Two op a b) ≡ a ∷ b ∷ []
  unfolding gather
  by_two op a b = refl

  by_fixed : (n : ℕ) (z : List ℕ) (w : List NameFrame) (p : Point) → (more : List CellName) × (by (FixedRow n z w p) ≡ name w p ∷ more)
  unfolding gather
  by_fixed n z w p = (_, refl)

  abbrev listed : Option CellName → List CellName
  listed None = []
  listed (Some y) = y ∷ []

  abbrev right : CellName → ℕ → List NameFrame → Point → Option CellName
  right l n w p = right_of dom engine n w p (f l).value (f l).index

  by_joins : (s : Bool) (l : CellName) (n : ℕ) (w : List NameFrame) (p : Point) → by (Joins s l n w p) ≡ l ∷ listed (right l n w p)
  unfolding gather
  by_joins s l n w p = ap (λ xs. l ∷ xs) (go (right l n w p))
    where
      go : (o : Option CellName) → gather_next f (λ vs. []) (f l ∷ []) o ≡ listed o
      go None = refl
      go (Some y) = refl

  -- whether the right one is asked for does not hang on where it stands
  no_right : (v : Value S) (k n m : ℕ) (w u : List NameFrame) (p q : Point) → right_of dom engine n w p v k ≡ None → right_of dom engine m u q v k ≡ None
  no_right (Over j z) k n m w u p q e = refl
  no_right (State s) k n m w u p q e = go (nat_lt k engine.budget) e
    where
      go : (b : Bool) → (if b then Some (name (InLoop n k ∷ w) p) else None) ≡ None → (if b then Some (name (InLoop m k ∷ u) q) else None) ≡ None
      go true e = absurd cc
      go false e = refl

  same_right : (v : Value S) (k n m : ℕ) (w u : List NameFrame) (p q : Point) (y : CellName) → right_of dom engine n w p v k ≡ Some y → right_of dom engine m u q v k ≡ Some y → p ≡ q
  same_right (Over j z) k n m w u p q y e h = absurd cc
  same_right (State s) k n m w u p q y e h = go (nat_lt k engine.budget) e h
    where
      go : (b : Bool) → (if b then Some (name (InLoop n k ∷ w) p) else None) ≡ Some y → (if b then Some (name (InLoop m k ∷ u) q) else None) ≡ Some y → p ≡ q
      go true e h = ap (λ (c : CellName). c.point) (same_Some _ _ e ∙ sym (same_Some _ _ h))
      go false e h = absurd cc

  listed_none : (o : Option CellName) → listed o ≡ [] → o ≡ None
  listed_none None e = refl
  listed_none (Some y) e = absurd cc

  tail_same : (x y : CellName) (xs ys : List CellName) → x ∷ xs ≡ y ∷ ys → (x ≡ y) × (xs ≡ ys)
  tail_same x y xs ys e = (cc, cc)

  joins_told : (x : List NameFrame) (pt : Point) (s t : Bool) (l k : CellName) (n m : ℕ) (w u : List NameFrame) (p q : Point) → Shape x pt (Joins s l n w p) → Shape x pt (Joins t k m u q) → by (Joins s l n w p) ≡ by (Joins t k m u q) → SameAsked (Joins s l n w p) (Joins t k m u q) (by (Joins s l n w p))
  joins_told x pt s t l k n m w u p q h i e = go (right l n w p) refl
    where
      both : (l ≡ k) × (listed (right l n w p) ≡ listed (right k m u q))
      both = tail_same l k _ _ (sym (by_joins s l n w p) ∙ e ∙ by_joins t k m u q)

      other : right k m u q ≡ right l m u q
      other = ap (λ (c : CellName). right c m u q) (sym both.0)

      some_listed : (o : Option CellName) (y : CellName) → y ∷ [] ≡ listed o → o ≡ Some y
      some_listed None y e = absurd cc
      some_listed (Some c) y e = ap (λ c. Some c) (tail_same c y [] [] (sym e)).0

      whole : p ≡ q → Joins s l n w p ≡ Joins t k m u q
      whole r =
          ap (λ s. Joins s l n w p) (h.0 ∙ sym i.0)
          ∙ ap (λ l. Joins t l n w p) both.0
          ∙ ap (λ n. Joins t k n w p) (sym h.1 ∙ i.1)
          ∙ ap (λ w. Joins t k m w p) (h.2 ∙ sym i.2)
          ∙ ap (Joins t k m u) r

      go : (o : Option CellName) → right l n w p ≡ o → SameAsked (Joins s l n w p) (Joins t k m u q) (by (Joins s l n w p))
      go None r = inr (both.0, by_joins s l n w p ∙ ap (λ o. l ∷ listed o) r)
      go (Some y) r =
          let a = some_listed (right k m u q) y (ap listed (sym r) ∙ both.1) in
          inl (whole (same_right (f l).value (f l).index n m w u p q y r (sym other ∙ a)))

  told : (x : List NameFrame) (pt : Point) (r q : Row) → Shape x pt r → Shape x pt q → op_of r ≡ op_of q → by r ≡ by q → SameAsked r q (by r)
  told x pt (Init a) (Init b) h k o e = inl cc
  told x pt (One op a) (One ot b) h k o e =
      let i : op ≡ ot = cc in
      let j = (tail_same a b [] [] (sym (by_one op a) ∙ e ∙ by_one ot b)).0 in
      inl (ap (λ o. One o a) i ∙ ap (One ot) j)
  told x pt (Two op a b) (Two ot c d) h k o e =
      let i : op ≡ ot = cc in
      let j = tail_same a c (b ∷ []) (d ∷ []) (sym (by_two op a b) ∙ e ∙ by_two ot c d) in
      let l = tail_same b d [] [] j.1 in
      inl (ap (λ o. Two o a b) i ∙ ap (λ a. Two ot a b) j.0 ∙ ap (Two ot c) l.0)
  told x pt (FixedRow n z w p) (FixedRow m y u q) h k o e =
      let a = by_fixed n z w p in
      let b = by_fixed m y u q in
      let i = (tail_same (name w p) (name u q) a.0 b.0 (sym a.1 ∙ e ∙ b.1)).0 in
      inl (ap (λ n. FixedRow n z w p) (ap fix_number (sym h.0 ∙ k.0)) ∙ ap (λ z. FixedRow m z w p) (h.1 ∙ sym k.1) ∙ ap (λ w. FixedRow m y w p) (h.2 ∙ sym k.2) ∙ ap (λ (c : CellName). FixedRow m y u c.point) i)
  told x pt (Joins s l n w p) (Joins t k m u q) h i o e = joins_told x pt s t l k n m w u p q h i e
  told x pt r q h k o e = absurd cc

  left_alone : (r q : Row) → OnlyLeft r q (by r) → (op_of r ≡ op_of q) × (by r ≡ by q)
  left_alone (Joins s l n w p) (Joins t k m u q) h =
      let a = listed_none (right l n w p) (tail_same l l _ _ (sym (by_joins s l n w p) ∙ h.1)).1 in
      let b = no_right (f l).value (f l).index n m w u p q a in
      let c = ap (λ (c : CellName). right c m u q) (sym h.0) ∙ b in
      (refl, h.1 ∙ ap (λ c. c ∷ []) h.0 ∙ sym (by_joins t k m u q ∙ ap (λ o. k ∷ listed o) c))
  left_alone r q h = absurd h

module _ {S : Type 0} (dom : Operations S) (e : Edit) (same : CellName → CellName → Bool) (x : CellName) (r q : Row) (h : flat_row e.engine (reverse e.old) x.path x.point ≡ Some r) (k : flat_row e.engine (reverse e.new) x.path x.point ≡ Some q) where
  abbrev f : CellName → Cell S
  f = value_of (old_rows dom e same)

  abbrev of_row : Option Row → List CellName
  of_row o = gather f (λ vs. by_row dom e.engine o None (λ r. asks_row dom e.engine r vs)) (by_row dom e.engine o 0 (most_row dom e.engine)) []

  old_inputs : inputs_of (old_rows dom e same) x ≡ by dom e.engine f r
  unfolding inputs_of
  old_inputs = ap of_row h

  new_asked : new_inputs dom e same x ≡ by dom e.engine f q
  new_asked = ap of_row k

  -- of a join the left one alone, or one more
  pub left_input : (s : Bool) (l : CellName) (n : ℕ) (w : List NameFrame) (p : Point) → r ≡ Joins s l n w p → Decides (length (inputs_of (old_rows dom e same) x) == 1) (inputs_of (old_rows dom e same) x ≡ l ∷ [])
  left_input s l n w p i = go (right dom e.engine f l n w p) (old_inputs ∙ ap (by dom e.engine f) i ∙ by_joins dom e.engine f s l n w p)
    where
      go : (o : Option CellName) → inputs_of (old_rows dom e same) x ≡ l ∷ listed dom e.engine f o → Decides (length (inputs_of (old_rows dom e same) x) == 1) (inputs_of (old_rows dom e same) x ≡ l ∷ [])
      go None j = (λ b. j, λ k. ap (λ xs. length xs == 1) j)
      go (Some y) j = (λ b. absurd (false≢true (sym (ap (λ xs. length xs == 1) j) ∙ b)), λ k. ap (λ xs. length xs == 1) k)

  keeps : KeepsRow dom e same x → SameAsked r q (inputs_of (old_rows dom e same) x)
  keeps s =
      let i : s.row ≡ r = same_Some _ _ (sym s.had ∙ h) in
      let j : s.other ≡ q = same_Some _ _ (sym s.has ∙ k) in
      subst (SameAsked r q) (sym old_inputs)
      (told dom e.engine f x.path x.point r q (subst (Shaped x.path x.point) h (flat_shaped e.engine (reverse e.old) x.path x.point)) (subst (Shaped x.path x.point) k (flat_shaped e.engine (reverse e.new) x.path x.point))
      (sym (ap op_of i) ∙ s.operation ∙ ap op_of j) (sym old_inputs ∙ s.inputs ∙ new_asked))

  kept : SameAsked r q (inputs_of (old_rows dom e same) x) → KeepsRow dom e same x
  kept (inl i) = same_rows_stay dom e same x r h (k ∙ ap (λ q. Some q) (sym i))
  kept (inr o) =
      let l = left_alone dom e.engine f r q (subst (OnlyLeft r q) old_inputs o) in
      record { row = r; other = q; had = h; has = k; operation = l.0; inputs = old_inputs ∙ l.1 ∙ sym new_asked }

  pub row_test : KeepsRow dom e same x ↔ SameAsked r q (inputs_of (old_rows dom e same) x)
  row_test = (keeps, kept)

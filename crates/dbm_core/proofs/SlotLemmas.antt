-- Kept entries of the pairs with a node of one slot, rewritten row by row; and the greater of two lists.
use Rattle.std.specs.Prelude.{◌≡◌, ℕ, ◌<◌, ◌≤◌, ◌+◌, ◌*◌, ◌/◌, ℤ, Option, None, ◌⊎◌, Bool, true, false, cond, eqb, ltb, List, length, slice_set, refl}
use Rattle.std.proofs.Common.{arith, ap, sym, subst, ◌∙◌, inl, inr, get_or, get_or-set_other, get_or-set_same}
use Rattle.std.proofs.lemmas.Bool.{cases_eq, cases_lt, eq-eqb, ne_eqb}
use Rattle.dbm_core.proofs.LowerLemmas.{same_place}
use Rattle.dbm_core.specs.Half.{HalfMatrix, HasEntries, IsMatrix, entry, nodes, row_start, row_width}
use Rattle.dbm_core.specs.Nodes.{IsOfSlot, flip}
use Rattle.dbm_core.specs.Operations.{forgotten, joined}
use Rattle.dbm_core.specs.Weights.{greatest}

pub neither : (q i j : ℕ) → (i / 2 ≡ q → ⊥) → (j / 2 ≡ q → ⊥) → IsOfSlot q i j → ⊥
neither q i j e f (inl g) = e g
neither q i j e f (inr g) = f g

-- whether a pair is of the slot
pub of_slot : (q i j : ℕ) → IsOfSlot q i j ⊎ (IsOfSlot q i j → ⊥)
of_slot q i j = elim (cases_eq (i / 2) q) [
  | inl e ↦ inl (inl e)
  | inr e ↦ elim (cases_eq (j / 2) q) [ inl f ↦ inl (inr f) | inr f ↦ inr (neither q i j e f) ]
]

-- the entry of a kept pair
abbrev at : List (Option ℤ) → ℕ → ℕ → Option ℤ
at v a b = get_or v (row_start a + b) None

-- the first column of row i with the slot in its pair
abbrev pub first : ℕ → ℕ → ℕ
first q i = cond (eqb (i / 2) q) 0 (2 * q)

-- the slot's pairs of the rows before i are done
abbrev pub IsDone : (ℕ → ℕ → Option ℤ → Option ℤ → Type 0) → ℕ → ℕ → List (Option ℤ) → List (Option ℤ) → Type 0
IsDone P q i o v = (a b : ℕ) → a < i → b < row_width a → IsOfSlot q a b → P a b (at o a b) (at v a b)

-- and those of row i before column j
abbrev pub IsDoneIn : (ℕ → ℕ → Option ℤ → Option ℤ → Type 0) → ℕ → ℕ → ℕ → List (Option ℤ) → List (Option ℤ) → Type 0
IsDoneIn P q i j o v = (b : ℕ) → first q i ≤ b → b < j → P i b (at o i b) (at v i b)

-- the others are the old ones
abbrev pub IsRest : ℕ → ℕ → List (Option ℤ) → List (Option ℤ) → Type 0
IsRest q i o v = (a b : ℕ) → b < row_width a → ((a < i) × IsOfSlot q a b → ⊥) → at v a b ≡ at o a b

abbrev pub IsRestIn : ℕ → ℕ → ℕ → List (Option ℤ) → List (Option ℤ) → Type 0
IsRestIn q i j o v = (a b : ℕ) → b < row_width a → ((a < i) × IsOfSlot q a b → ⊥) → ((a ≡ i) × ((first q i ≤ b) × (b < j)) → ⊥) → at v a b ≡ at o a b

pub column-kept : (q i j : ℕ) → 2 * q ≤ i → j < 2 * q + 2 → j < row_width i
column-kept q i j l m = omega arith

read-other : (v : List (Option ℤ)) (i j a b : ℕ) (x : Option ℤ) → j < row_width i → b < row_width a → ((i ≡ a) × (j ≡ b) → ⊥) → at (slice_set v (row_start i + j) x) a b ≡ at v a b
read-other v i j a b x w u n = let k : row_start a + b ≡ row_start i + j → ⊥ = λ e. n (same_place i j a b w u (sym e)) in rw get_or-set_other refl

pub done-set : (P : ℕ → ℕ → Option ℤ → Option ℤ → Type 0) (q i j : ℕ) (o v : List (Option ℤ)) (x : Option ℤ) → j < row_width i → IsDone P q i o v → IsDone P q i o (slice_set v (row_start i + j) x)
done-set P q i j o v x w h a b l u s = subst (λ y. P a b (at o a b) y) (sym (read-other v i j a b x w u (λ e. absurd (omega (arith, e.0))))) (h a b l u s)

pub here-set : (P : ℕ → ℕ → Option ℤ → Option ℤ → Type 0) (q i j : ℕ) (o v : List (Option ℤ)) (x : Option ℤ) → j < row_width i → row_start i + j < length v → IsDoneIn P q i j o v → P i j (at o i j) x →
    IsDoneIn P q i (j + 1) o (slice_set v (row_start i + j) x)
here-set P q i j o v x w l h p b f m = elim (cases_lt b j) [
  | inl k ↦ subst (λ y. P i b (at o i b) y) (sym (read-other v i j i b x w (omega arith) (λ e. absurd (omega (arith, e.1))))) (h b f k)
  | inr k ↦ let e : b ≡ j = omega arith in rw e (rw get_or-set_same p)
]

pub rest-set : (q i j : ℕ) (o v : List (Option ℤ)) (x : Option ℤ) → j < row_width i → first q i ≤ j → IsRestIn q i j o v → IsRestIn q i (j + 1) o (slice_set v (row_start i + j) x)
rest-set q i j o v x w f h a b u n m =
    read-other v i j a b x w u (λ e. m (sym e.0, (subst (λ k. first q i ≤ k) e.1 f, omega (arith, e.1))))
    ∙ h a b u n (λ e. m (e.0, (e.1.0, omega (arith, e.1.1))))

pub rest-first : (q i : ℕ) (o v : List (Option ℤ)) → IsRest q i o v → IsRestIn q i (first q i) o v
rest-first q i o v h a b w n m = h a b w n

pub IsMatrix-updated_slot : (P : ℕ → ℕ → Option ℤ → Option ℤ → Type 0) (q : ℕ) (o m : HalfMatrix) → IsMatrix o → m.kinds ≡ o.kinds → length m.kept ≡ length o.kept →
    ((i j : ℕ) → i < nodes o → j < row_width i → IsOfSlot q i j → P i j (entry o i j) (entry m i j)) →
    ((i j : ℕ) → i < nodes o → j < row_width i → (IsOfSlot q i j → ⊥) → entry m i j ≡ entry o i j) →
    ((a b : Option ℤ) → P (2 * q) (2 * q) (entry o (2 * q) (2 * q)) a → P (2 * q + 1) (2 * q + 1) (entry o (2 * q + 1) (2 * q + 1)) b → a ≡ b) → IsMatrix m
IsMatrix-updated_slot P q o m t k s changed rest same =
    let n : length m.kinds ≡ length o.kinds = ap length k in
    record {
      few = omega (arith, n, t.few);
      fits = s ∙ t.fits ∙ ap (λ n. 2 * (n * (n + 1))) (sym n);
      diagonal = λ h l. elim (cases_eq h q) [
        | inl e ↦ subst (λ k. entry m (2 * k) (2 * k) ≡ entry m (2 * k + 1) (2 * k + 1)) (sym e) (own (subst (λ k. k < length m.kinds) e l))
        | inr e ↦ rest (2 * h) (2 * h) (omega (arith, n)) (omega arith) (even h e)
            ∙ t.diagonal h (omega (arith, n))
            ∙ sym (rest (2 * h + 1) (2 * h + 1) (omega (arith, n)) (omega arith) (odd h e))
      ];
    }
  where
    even : (h : ℕ) → (h ≡ q → ⊥) → IsOfSlot q (2 * h) (2 * h) → ⊥
    even h e (inl f) = e (omega arith)
    even h e (inr f) = e (omega arith)

    odd : (h : ℕ) → (h ≡ q → ⊥) → IsOfSlot q (2 * h + 1) (2 * h + 1) → ⊥
    odd h e (inl f) = e (omega arith)
    odd h e (inr f) = e (omega arith)

    own : q < length m.kinds → entry m (2 * q) (2 * q) ≡ entry m (2 * q + 1) (2 * q + 1)
    own l = let n : length m.kinds ≡ length o.kinds = ap length k in
        same (entry m (2 * q) (2 * q)) (entry m (2 * q + 1) (2 * q + 1))
        (changed (2 * q) (2 * q) (omega (arith, n)) (omega arith) (inl (omega arith)))
        (changed (2 * q + 1) (2 * q + 1) (omega (arith, n)) (omega arith) (inl (omega arith)))

-- ---- a slot forgotten

pub forgotten-updated : (q : ℕ) (o m : HalfMatrix) → ((i j : ℕ) → i < nodes o → j < row_width i → IsOfSlot q i j → entry m i j ≡ cond (eqb i j) (entry o i j) None) →
    ((i j : ℕ) → i < nodes o → j < row_width i → (IsOfSlot q i j → ⊥) → entry m i j ≡ entry o i j) → (i j : ℕ) → i < nodes o → j < row_width i → entry m i j ≡ forgotten (entry o) q i j
forgotten-updated q o m changed rest i j hi w = elim (cases_eq (i / 2) q) [
  | inl e ↦ changed i j hi w (inl e) ∙ sym (rw (eq-eqb (i / 2) q e) refl)
  | inr e ↦ elim (cases_eq (j / 2) q) [
    | inl f ↦ changed i j hi w (inr f) ∙ sym (rw (eq-eqb (j / 2) q f, ne_eqb (i / 2) q e) refl)
    | inr f ↦ rest i j hi w (neither q i j e f) ∙ sym (rw (ne_eqb (i / 2) q e, ne_eqb (j / 2) q f) (same (eqb i j)))
  ]
]
  where
    same : (b : Bool) → cond b (entry o i j) (entry o i j) ≡ entry o i j
    same true = refl
    same false = refl

-- of what is no slot nothing is dropped
pub forgotten-outside : (q : ℕ) (m : HalfMatrix) → IsMatrix m → length m.kinds ≤ q → HasEntries m.kinds (forgotten (entry m) q) m
forgotten-outside q m t l = record {
  matrix = t;
  same_kinds = refl;
  entries = λ i j hi hj. sym (rw (ne_eqb (i / 2) q (λ e. absurd (omega arith)), ne_eqb (j / 2) q (λ e. absurd (omega arith))) (same i j (eqb i j)));
}
  where
    same : (i j : ℕ) (b : Bool) → cond b (entry m i j) (entry m i j) ≡ entry m i j
    same i j true = refl
    same i j false = refl

-- ---- the greater at each place

-- lists that are the greater of two at each place are so at each pair
pub joined-entries : (a b m : HalfMatrix) → ((p : ℕ) → get_or m.kept p None ≡ greatest (get_or a.kept p None) (get_or b.kept p None)) → (i j : ℕ) → entry m i j ≡ joined a b i j
unfolding entry
joined-entries a b m h i j = by (ltb j (row_width i))
  where
    by : (t : Bool) → cond t (get_or m.kept (row_start i + j) None) (get_or m.kept (row_start (flip j) + flip i) None)
        ≡ greatest (cond t (get_or a.kept (row_start i + j) None) (get_or a.kept (row_start (flip j) + flip i) None)) (cond t (get_or b.kept (row_start i + j) None) (get_or b.kept (row_start (flip j) + flip i) None))
    by true = h (row_start i + j)
    by false = h (row_start (flip j) + flip i)

pub joined-matrix : (a b m : HalfMatrix) → IsMatrix a → IsMatrix b → m.kinds ≡ a.kinds → length m.kept ≡ length a.kept → b.kinds ≡ a.kinds → ((i j : ℕ) → entry m i j ≡ joined a b i j) → IsMatrix m
joined-matrix a b m t u k s l h = let n : length m.kinds ≡ length a.kinds = ap length k in let o : length b.kinds ≡ length a.kinds = ap length l in record {
  few = omega (arith, n, t.few);
  fits = s ∙ t.fits ∙ ap (λ n. 2 * (n * (n + 1))) (sym n);
  diagonal = λ q l. h (2 * q) (2 * q)
      ∙ ap (λ x. greatest x (entry b (2 * q) (2 * q))) (t.diagonal q (omega (arith, n)))
      ∙ ap (greatest (entry a (2 * q + 1) (2 * q + 1))) (u.diagonal q (omega (arith, n, o)))
      ∙ sym (h (2 * q + 1) (2 * q + 1));
}

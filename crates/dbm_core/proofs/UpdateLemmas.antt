-- Kept entries that are rewritten in their order.
use Rattle.std.specs.Prelude.{◌≡◌, ℕ, ◌<◌, ◌≤◌, ◌+◌, ◌*◌, ℤ, Option, None, List, length, slice_set}
use Rattle.std.proofs.Common.{arith, ap, sym, subst, ◌∙◌, inl, inr, suc, get_or, get_or-set_other, get_or-set_same}
use Rattle.std.proofs.lemmas.Bool.{cases_lt}
use Rattle.dbm_core.proofs.HalfLemmas.{CellsHold, RowsHold, entry-kept, row_start-mono}
use Rattle.dbm_core.specs.Half.{HalfMatrix, IsMatrix, entry, nodes, row_start, row_width}

-- from the place p on the entries are the old ones
abbrev pub AgreeFrom : ℕ → List (Option ℤ) → List (Option ℤ) → Type 0
AgreeFrom p o v = (k : ℕ) → p ≤ k → get_or v k None ≡ get_or o k None

pub RowsHold-set : (P : ℕ → ℕ → Option ℤ → Type 0) (v : List (Option ℤ)) (r j : ℕ) (x : Option ℤ) → RowsHold P v r → RowsHold P (slice_set v (row_start r + j) x) r
RowsHold-set P v r j x h = λ a b l w.
    let n : row_start a + b ≡ row_start r + j → ⊥ = λ e. absurd (omega (arith, row_start-mono r (suc a) (omega arith))) in
    rw get_or-set_other (h a b l w)

pub CellsHold-set : (P : ℕ → ℕ → Option ℤ → Type 0) (v : List (Option ℤ)) (r j : ℕ) (x : Option ℤ) → row_start r + j < length v → CellsHold P v r j → P r j x → CellsHold P (slice_set v (row_start r + j) x) r (j + 1)
CellsHold-set P v r j x e h p = λ b l. elim (cases_lt b j) [
  | inl q ↦ let n : row_start r + b ≡ row_start r + j → ⊥ = λ e. absurd (omega arith) in
      rw get_or-set_other (h b q)
  | inr q ↦ let k : b ≡ j = omega arith in
      rw k (rw get_or-set_same p)
]

pub AgreeFrom-set : (p : ℕ) (o v : List (Option ℤ)) (x : Option ℤ) → AgreeFrom p o v → AgreeFrom (p + 1) o (slice_set v p x)
AgreeFrom-set p o v x h = λ k l.
    let n : k ≡ p → ⊥ = λ e. absurd (omega arith) in
    rw get_or-set_other (h k (omega arith))

-- P of the old and the new list at each kept place is P of the entries
pub updated-kept : (P : ℕ → ℕ → Option ℤ → Option ℤ → Type 0) (o m : HalfMatrix) (w v : List (Option ℤ)) → w ≡ o.kept → m.kept ≡ v → (i j : ℕ) → j < row_width i →
    P i j (get_or w (row_start i + j) None) (get_or v (row_start i + j) None) → P i j (entry o i j) (entry m i j)
updated-kept P o m w v e f i j l p =
    subst (λ x. P i j x (entry m i j)) (ap (λ u. get_or u (row_start i + j) None) e ∙ sym (entry-kept o i j l))
    (subst (λ y. P i j (get_or w (row_start i + j) None) y) (ap (λ u. get_or u (row_start i + j) None) (sym f) ∙ sym (entry-kept m i j l)) p)

pub IsMatrix-updated : (P : ℕ → ℕ → Option ℤ → Option ℤ → Type 0) (o m : HalfMatrix) → IsMatrix o → m.kinds ≡ o.kinds → length m.kept ≡ length o.kept →
    ((i j : ℕ) → i < nodes o → j < row_width i → P i j (entry o i j) (entry m i j)) →
    ((h : ℕ) (a b : Option ℤ) → h < length o.kinds → P (2 * h) (2 * h) (entry o (2 * h) (2 * h)) a → P (2 * h + 1) (2 * h + 1) (entry o (2 * h + 1) (2 * h + 1)) b → a ≡ b) → IsMatrix m
IsMatrix-updated P o m t k s rows same =
    let n : length m.kinds ≡ length o.kinds = ap length k in
    record {
      few = omega (arith, n, t.few);
      fits = s ∙ t.fits ∙ ap (λ n. 2 * (n * (n + 1))) (sym n);
      diagonal = λ h l. same h (entry m (2 * h) (2 * h)) (entry m (2 * h + 1) (2 * h + 1)) (omega (arith, n))
          (rows (2 * h) (2 * h) (omega (arith, n)) (omega arith))
          (rows (2 * h + 1) (2 * h + 1) (omega (arith, n)) (omega arith));
    }

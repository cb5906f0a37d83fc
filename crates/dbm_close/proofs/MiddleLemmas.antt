-- A slot's bounds taken out of the matrix, and the entries that they give.
use Rattle.std.specs.Prelude.{◌≡◌, ℕ, ◌<◌, ◌≤◌, ◌+◌, ◌*◌, ◌/◌, ℤ, Option, None, List, length, slice_set, replicate, refl}
use Rattle.std.proofs.Common.{arith, suc, zero, ap, sym, subst, ◌∙◌, inl, inr, get_or, get_or-set_other, get_or-set_same}
use Rattle.std.proofs.lemmas.Bool.{cases_lt, cases_eq, eq-eqb, ne_eqb}
use Rattle.dbm_close.specs.declared.middle.Middle.{Middle}
use Rattle.dbm_close.specs.Rounds.{HasMiddle, middle_entry, round_entry, rounded, via_both}
use Rattle.dbm_core.proofs.NodeLemmas.{parity}
use Rattle.dbm_core.specs.Half.{HalfMatrix, IsMatrix, entry, nodes}
use Rattle.dbm_core.specs.Limits.{IsWithin}

pub done-set : (P : ℕ → Option ℤ → Type 0) (v : List (Option ℤ)) (i : ℕ) (x : Option ℤ) → i < length v → ((k : ℕ) → k < i → P k (get_or v k None)) → P i x →
    (k : ℕ) → k < i + 1 → P k (get_or (slice_set v i x) k None)
done-set P v i x l h p = λ k m. elim (cases_lt k i) [
  | inl q ↦ let n : k ≡ i → ⊥ = λ e. absurd (omega arith) in rw get_or-set_other (h k q)
  | inr q ↦ let e : k ≡ i = omega arith in rw e (rw get_or-set_same p)
]

pub beyond-set : (v : List (Option ℤ)) (i : ℕ) (x : Option ℤ) → ((k : ℕ) → i ≤ k → get_or v k None ≡ None) → (k : ℕ) → i + 1 ≤ k → get_or (slice_set v i x) k None ≡ None
beyond-set v i x h = λ k m. let n : k ≡ i → ⊥ = λ e. absurd (omega arith) in rw get_or-set_other (h k (omega arith))

-- a column whose first n bounds are small, and which has no others, is small
pub small-column : (b n : ℕ) (v : List (Option ℤ)) (f : ℕ → Option ℤ) → ((i : ℕ) → i < n → get_or v i None ≡ f i) → ((i : ℕ) → n ≤ i → get_or v i None ≡ None) →
    ((i : ℕ) → i < n → IsWithin b (f i)) → (i : ℕ) → IsWithin b (get_or v i None)
small-column b n v f h beyond small i = elim (cases_lt i n) [
  | inl p ↦ rw (h i p) (small i p)
  | inr p ↦ rw (beyond i p) tt
]

pub via_both-rounded : (n : ℕ) (d : ℕ → ℕ → Option ℤ) (q : ℕ) (m : Middle) → HasMiddle n d q m → (i j : ℕ) → i < n → j < n → via_both m i j (d i j) ≡ rounded d q i j
via_both-rounded n d q m h i j hi hj = rw (h.to_first i hi, h.from_first j hj, h.to_second i hi, h.from_second j hj) refl

pub middle_entry-round : (a : HalfMatrix) (q : ℕ) (m : Middle) → IsMatrix a → HasMiddle (nodes a) (entry a) q m → (i j : ℕ) → i < nodes a → j < nodes a → middle_entry m i j (entry a i j) ≡ round_entry (entry a) q i j
middle_entry-round a q m t h i j hi hj = elim (cases_eq i j) [
  | inl e ↦ rw (eq-eqb i j e) (ap (via_both m (2 * (i / 2)) (2 * (i / 2))) (subst (λ k. entry a i k ≡ entry a (2 * (i / 2)) (2 * (i / 2))) e at_even)
      ∙ via_both-rounded (nodes a) (entry a) q m h (2 * (i / 2)) (2 * (i / 2)) (omega arith) (omega arith))
  | inr e ↦ rw (ne_eqb i j e) (via_both-rounded (nodes a) (entry a) q m h i j hi hj)
]
  where
    at_even : entry a i i ≡ entry a (2 * (i / 2)) (2 * (i / 2))
    at_even = elim (parity i) [
      | inl p ↦ let k : 2 * (i / 2) ≡ i = omega arith in rw k refl
      | inr p ↦ let k : 2 * (i / 2) + 1 ≡ i = omega arith in subst (λ x. entry a x x ≡ entry a (2 * (i / 2)) (2 * (i / 2))) k (sym (t.diagonal (i / 2) (omega arith)))
    ]

pub none-anywhere : (n k : ℕ) → get_or (replicate {A = Option ℤ} n None) k None ≡ None
none-anywhere zero k = refl
none-anywhere (suc n) zero = refl
none-anywhere (suc n) (suc k) = none-anywhere n k

pub middle_entry-slot : (m : Middle) (h : ℕ) (x y : Option ℤ) → x ≡ y → middle_entry m (2 * h) (2 * h) x ≡ middle_entry m (2 * h + 1) (2 * h + 1) y
middle_entry-slot m h x y e =
    let p : (2 * h) / 2 ≡ h = omega arith in let q : (2 * h + 1) / 2 ≡ h = omega arith in
    rw (eq-eqb (2 * h) (2 * h) refl, eq-eqb (2 * h + 1) (2 * h + 1) refl, p, q, e) refl

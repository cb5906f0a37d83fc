-- What holds of all numbers below one, or of all pairs of them.
use Rattle.std.specs.Prelude.{◌≡◌, ℕ, ◌+◌, ◌*◌, ◌<◌, ◌/◌, ◌%◌, Bool, true, false}
use Rattle.std.proofs.Common.{refl, sym, ap, ◌∙◌, arith, suc, zero, inl, inr, add-one}
use Rattle.std.proofs.lemmas.Bool.{and_parts, and_from, cases_lt, false≢true}
use Rattle.std.proofs.lemmas.Nat.{div_below, mod_below, div-mul-add, mod-mul-add, mul-add-lt}
use Rattle.base_values.proofs.Cases.{by_bool}
use Rattle.dom_octagon_words.specs.Words.{all_below, all_pairs, at_place}

all-true : (n : ℕ) (p : ℕ → Bool) → all_below n p ≡ true → (i : ℕ) → i < n → p i ≡ true
all-true zero p h i l = absurd (omega arith)
all-true (suc n) p h i l =
    let q = and_parts (all_below n p) (p n) h in
    elim (cases_lt i n) [
      | inl below ↦ all-true n p q.0 i below
      | inr above ↦ let e : i ≡ n = omega arith in ap p e ∙ q.1
    ]

true-all : (n : ℕ) (p : ℕ → Bool) → ((i : ℕ) → i < n → p i ≡ true) → all_below n p ≡ true
true-all zero p h = refl
true-all (suc n) p h = and_from (all_below n p) (p n) (true-all n p (λ i l. h i (omega arith))) (h n (omega arith))

-- a loop's step, and its early end
pub all_so_far : (n : ℕ) (p : ℕ → Bool) → all_below n p ≡ true → p n ≡ true → all_below (n + 1) p ≡ true
all_so_far n p h q = ap (λ k. all_below k p) (add-one n) ∙ and_from (all_below n p) (p n) h q

pub not_all : (n i : ℕ) (p : ℕ → Bool) → i < n → p i ≡ false → all_below n p ≡ false
not_all n i p l q = by_bool (all_below n p) (λ e. absurd (false≢true (sym q ∙ all-true n p e i l))) (λ e. e)

-- the row and the column of a place
pub place_within : (n p : ℕ) → p < n * n → (p / n < n) × (p % n < n)
place_within zero p l = absurd (omega arith)
place_within (suc n) p l = (div_below p (suc n) (suc n) (omega arith) l, mod_below p (suc n) (omega arith))

pub pairs-true : (n : ℕ) (q : ℕ → ℕ → Bool) → all_pairs n q ≡ true → (i j : ℕ) → i < n → j < n → q i j ≡ true
pairs-true n q h i j hi hj = sym (λ k. q (div-mul-add i n j hj k) (mod-mul-add i n j hj k)) ∙ all-true (n * n) (at_place n q) h (i * n + j) (mul-add-lt i n j n hi hj)

pub true-pairs : (n : ℕ) (q : ℕ → ℕ → Bool) → ((i j : ℕ) → i < n → j < n → q i j ≡ true) → all_pairs n q ≡ true
true-pairs n q h = true-all (n * n) (at_place n q) (λ p l. let w = place_within n p l in h (p / n) (p % n) w.0 w.1)

-- A slot that nothing binds to the others; and entries so small that none was cut.
use Rattle.std.specs.Prelude.{◌≡◌, ℕ, ◌<◌, ◌+◌, ◌*◌, ◌/◌, ◌^◌, ℤ, pos, ◌+ℤ◌, ◌≤ℤ◌, ◌<ℤ◌, Option, Some, None, Bool, true, false, cond, eqb, int_lt, ◌⊎◌, ◌||◌, refl}
use Rattle.std.proofs.Common.{arith, ap, sym, ◌∙◌, subst, inl, inr}
use Rattle.std.proofs.lemmas.Bool.{cases_eq, eq-eqb, ne_eqb}
use Rattle.std.proofs.lemmas.Int.{ints}
use Rattle.dbm_close.specs.Steps.{cut}
use Rattle.dbm_core.proofs.NodeLemmas.{parity}
use Rattle.dbm_core.proofs.WeightLemmas.{add_weight-comm}
use Rattle.dbm_core.specs.Limits.{HasZeroDiagonal}
use Rattle.dbm_core.specs.Operations.{forgotten}
use Rattle.dbm_core.specs.Weights.{AtMost, add_weight}
use Rattle.dbm_incremental.proofs.KeepLemmas.{forgotten-free, forgotten-kept, forgotten-same, in_slot, add_zero, zero_add}
use Rattle.dbm_incremental.proofs.MoveLemmas.{blocks-triangular}
use Rattle.dbm_incremental.proofs.TriangleLemmas.{own-weights}
use Rattle.dbm_incremental.specs.Far.{IsBelowHalf, SmallIsWhole}
use Rattle.dbm_incremental.specs.Triangles.{AreSoundWeights, IsTriangular}
use Rattle.std.proofs.Math.Bool.{or-true}

-- within the two nodes of one slot the triangle law says that its range is not empty
pub single-triangles : (w : ℕ → ℕ → Option ℤ) (n q : ℕ) → HasZeroDiagonal n w → AtMost (Some (pos 0)) (add_weight (w (2 * q) (2 * q + 1)) (w (2 * q + 1) (2 * q))) →
    (i k j : ℕ) → i < n → k < n → j < n → i / 2 ≡ q → k / 2 ≡ q → j / 2 ≡ q → AtMost (w i j) (add_weight (w i k) (w k j))
single-triangles w n q zero own i k j hi hk hj ei ek ej = elim (cases_eq i k) [
  | inl e ↦ subst (λ x. AtMost (w i j) (add_weight (w i x) (w x j))) e (rw (zero i hi) (add_zero (w i j)))
  | inr e ↦ elim (cases_eq k j) [
    | inl f ↦ subst (λ x. AtMost (w i j) (add_weight (w i x) (w x j))) (sym f) (rw (zero j hj) (zero_add (w i j)))
    | inr f ↦ let g : i ≡ j = omega arith in subst (λ x. AtMost (w i x) (add_weight (w i k) (w k x))) g (rw (zero i hi) (there_and_back e))
  ]
]
  where
    there_and_back : (i ≡ k → ⊥) → AtMost (Some (pos 0)) (add_weight (w i k) (w k i))
    there_and_back e = elim (parity i) [
      | inl p ↦ let a : 2 * q ≡ i = omega arith in let b : 2 * q + 1 ≡ k = omega arith in
          subst (λ x. AtMost (Some (pos 0)) (add_weight (w x k) (w k x))) a (subst (λ x. AtMost (Some (pos 0)) (add_weight (w (2 * q) x) (w x (2 * q)))) b own)
      | inr p ↦ let a : 2 * q + 1 ≡ i = omega arith in let b : 2 * q ≡ k = omega arith in
          subst (λ x. AtMost (Some (pos 0)) (add_weight (w x k) (w k x))) a (subst (λ x. AtMost (Some (pos 0)) (add_weight (w (2 * q + 1) x) (w x (2 * q + 1)))) b
          (subst (λ v. AtMost (Some (pos 0)) v) (add_weight-comm (w (2 * q) (2 * q + 1)) (w (2 * q + 1) (2 * q))) own))
    ]

-- slot q forgotten, and then given bounds of its own that leave a number: these are least weights, and steps 2 to 6 alone close them
pub ranged-weights : (w d : ℕ → ℕ → Option ℤ) (n q : ℕ) → HasZeroDiagonal n d → IsTriangular n d →
    ((i j : ℕ) → i < n → j < n → ((i ≡ j → ⊥) × ((i / 2 ≡ q) × (j / 2 ≡ q)) → ⊥) → w i j ≡ forgotten d q i j) →
    AtMost (Some (pos 0)) (add_weight (w (2 * q) (2 * q + 1)) (w (2 * q + 1) (2 * q))) → AreSoundWeights w n w
ranged-weights w d n q zero t same own = own-weights w n diagonal (blocks-triangular w n block apart within)
  where
    diagonal : HasZeroDiagonal n w
    diagonal i hi = same i i hi hi (λ e. e.0 refl) ∙ forgotten-same d q i ∙ zero i hi

    block : ℕ → ℕ
    block i = cond (eqb (i / 2) q) 1 0

    in_block : (i : ℕ) → i / 2 ≡ q → block i ≡ 1
    in_block i e = rw (eq-eqb (i / 2) q e) refl

    out_block : (i : ℕ) → (i / 2 ≡ q → ⊥) → block i ≡ 0
    out_block i e = rw (ne_eqb (i / 2) q e) refl

    both_in : (i j : ℕ) → block i ≡ block j → i / 2 ≡ q → j / 2 ≡ q
    both_in i j e p = elim (cases_eq (j / 2) q) [
      | inl g ↦ g
      | inr g ↦ let a : block i ≡ 1 = in_block i p in let b : block j ≡ 0 = out_block j g in absurd (omega (arith, sym a ∙ e ∙ b))
    ]

    apart : (i j : ℕ) → i < n → j < n → (block i ≡ block j → ⊥) → w i j ≡ None
    apart i j hi hj e =
        same i j hi hj (λ g. e (in_block i g.1.0 ∙ sym (in_block j g.1.1)))
        ∙ forgotten-free d q i j (λ g. e (ap block g)) (some_in (cases_eq (i / 2) q) (cases_eq (j / 2) q))
      where
        some_in : (i / 2 ≡ q) ⊎ (i / 2 ≡ q → ⊥) → (j / 2 ≡ q) ⊎ (j / 2 ≡ q → ⊥) → in_slot q i || in_slot q j ≡ true
        some_in (inl a) b = rw (eq-eqb (i / 2) q a) refl
        some_in (inr a) (inl b) = ap (λ v. in_slot q i || v) (eq-eqb (j / 2) q b) ∙ or-true (in_slot q i)
        some_in (inr a) (inr b) = absurd (e (out_block i a ∙ sym (out_block j b)))

    outside : (i j : ℕ) → i < n → j < n → (i / 2 ≡ q → ⊥) → (j / 2 ≡ q → ⊥) → w i j ≡ d i j
    outside i j hi hj a b = same i j hi hj (λ g. a g.1.0) ∙ forgotten-kept d q i j (rw (ne_eqb (i / 2) q a, ne_eqb (j / 2) q b) refl)

    within : (i k j : ℕ) → i < n → k < n → j < n → block i ≡ block k → block k ≡ block j → AtMost (w i j) (add_weight (w i k) (w k j))
    within i k j hi hk hj e f = elim (cases_eq (i / 2) q) [
      | inl a ↦ let b : k / 2 ≡ q = both_in i k e a in single-triangles w n q diagonal own i k j hi hk hj a b (both_in k j f b)
      | inr a ↦
          let b : k / 2 ≡ q → ⊥ = λ g. a (both_in k i (sym e) g) in
          let c : j / 2 ≡ q → ⊥ = λ g. b (both_in j k (sym f) g) in
          rw (outside i j hi hj a c, outside i k hi hk a b, outside k j hk hj b c) (t i k j hi hk hj)
    ]

-- ---- small entries

small-cut : (a b c : Option ℤ) → AtMost a (add_weight b c) → IsBelowHalf (cut b) → IsBelowHalf (cut c) → AtMost (cut a) (add_weight (cut b) (cut c))
small-cut a None c h p q = tt
small-cut a (Some b) None h p q = by_test (int_lt b (pos (2 ^ 64)))
  where
    by_test : (t : Bool) → AtMost (cut a) (add_weight (cond t (Some b) None) None)
    by_test true = tt
    by_test false = tt
small-cut a (Some b) (Some c) h p q = by_tests (int_lt b (pos (2 ^ 64))) (int_lt c (pos (2 ^ 64))) p q
  where
    by_tests : (t u : Bool) → IsBelowHalf (cond t (Some b) None) → IsBelowHalf (cond u (Some c) None) → AtMost (cut a) (add_weight (cond t (Some b) None) (cond u (Some c) None))
    by_tests false u p q = tt
    by_tests true false p q = tt
    by_tests true true p q = both a h
      where
        kept : (x y w : ℤ) → x <ℤ pos (2 ^ 63) → y <ℤ pos (2 ^ 63) → w ≤ℤ (x +ℤ y) → int_lt w (pos (2 ^ 64)) ≡ true
        kept x y w p q r = grind (arith, ints)

        both : (a : Option ℤ) → AtMost a (Some (b +ℤ c)) → AtMost (cut a) (Some (b +ℤ c))
        both None h = absurd h
        both (Some w) h = rw (kept b c w p q h) h

-- a closed matrix whose finite entries are below 2^63 is whole
pub small-whole : SmallIsWhole
small-whole m (u, p) small i k j hi hk hj =
    rw (p.entries i j hi hj, p.entries i k hi hk, p.entries k j hk hj)
    (small-cut (u i j) (u i k) (u k j) (p.strong.triangles i k j hi hk hj)
    (subst IsBelowHalf (p.entries i k hi hk) (small i k hi hk)) (subst IsBelowHalf (p.entries k j hk hj) (small k j hk hj)))

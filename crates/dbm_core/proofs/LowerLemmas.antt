-- The bound of one pair, and of its mirror image, lowered.
use Rattle.std.specs.Prelude.{◌≡◌, ℕ, ◌<◌, ◌+◌, ◌*◌, ◌%◌, ℤ, Option, Some, None, ◌⊎◌, Bool, true, false, cond, eqb, ltb, ◌&&◌, ◌||◌, List, length, refl}
use Rattle.std.specs.Int.{int_min}
use Rattle.std.proofs.Common.{arith, ap, sym, ◌∙◌, suc, inl, inr, get_or, length-set, get_or-set_other, get_or-set_same}
use Rattle.std.proofs.lemmas.Int.{ints, clamps}
use Rattle.std.proofs.lemmas.Bool.{cases_lt, cases_eq, lt-ltb, le-ltb, eq-eqb, ne_eqb}
use Rattle.std.proofs.lemmas.Bool.Decides.{nat_tests}
use Rattle.dbm_core.proofs.HalfLemmas.{HasEntries-from_kept, entry-coherent, entry-kept, place-within, row_start-mono}
use Rattle.dbm_core.proofs.NodeLemmas.{flip-even, flip-flip, flip-same}
use Rattle.dbm_core.specs.Half.{HalfMatrix, HasEntries, IsMatrix, entry, nodes, row_start, row_width}
use Rattle.dbm_core.specs.Nodes.{IsCoherent, flip}
use Rattle.dbm_core.specs.Operations.{is_pair, lower_at, lower_pair, lowered}
use Rattle.dbm_core.proofs.WeightLemmas.{least-left, AtMost-refl}
use Rattle.dbm_core.specs.Limits.{AreAtMost}
use Rattle.dbm_core.specs.Weights.{AtMost, least}
use Rattle.std.proofs.Math.Bool.{or-true}

pub same_place : (i j a b : ℕ) → j < row_width i → b < row_width a → row_start i + j ≡ row_start a + b → (i ≡ a) × (j ≡ b)
same_place i j a b p q e = elim (cases_lt i a) [
  | inl l ↦ absurd (omega (arith, row_start-mono a (suc i) (omega arith)))
  | inr l ↦ elim (cases_lt a i) [
    | inl m ↦ absurd (omega (arith, row_start-mono i (suc a) (omega arith)))
    | inr m ↦ let k : i ≡ a = omega arith in (k, omega (arith, ap row_start k))
  ]
]

pub length-lower_pair : (kept : List (Option ℤ)) (i j : ℕ) (x : ℤ) → length (lower_pair kept i j x) ≡ length kept
length-lower_pair kept i j x = elim (ltb j (row_width i)) as (λ v. length (cond v (lower_at kept (row_start i + j) x) kept) ≡ length kept) [
  | true ↦ length-set kept (row_start i + j) (least (get_or kept (row_start i + j) None) (Some x))
  | false ↦ refl
]

-- a read after the write at a kept pair
read_hit : (kept : List (Option ℤ)) (i j : ℕ) (x : ℤ) → row_start i + j < length kept → j < row_width i →
    get_or (lower_pair kept i j x) (row_start i + j) None ≡ least (get_or kept (row_start i + j) None) (Some x)
read_hit kept i j x l w = rw (lt-ltb j (row_width i) w) (rw get_or-set_same refl)

read_miss : (kept : List (Option ℤ)) (i j a b : ℕ) (x : ℤ) → b < row_width a → ((i ≡ a) × (j ≡ b) → ⊥) →
    get_or (lower_pair kept i j x) (row_start a + b) None ≡ get_or kept (row_start a + b) None
read_miss kept i j a b x w n = elim (cases_lt j (row_width i)) [
  | inl p ↦ let ne : row_start a + b ≡ row_start i + j → ⊥ = λ e. n (same_place i j a b p w (sym e)) in
      rw (lt-ltb j (row_width i) p) (rw get_or-set_other refl)
  | inr p ↦ rw (le-ltb j (row_width i) p) refl
]

pub least-twice : (a : Option ℤ) (x : ℤ) → least (least a (Some x)) (Some x) ≡ least a (Some x)
least-twice None x = let e : int_min x x ≡ x = omega (arith, ints, clamps) in ap Some e
least-twice (Some y) x = let e : int_min (int_min y x) x ≡ int_min y x = omega (arith, ints, clamps) in ap Some e

pub hits : (i j a b : ℕ) → ((i ≡ a) × (j ≡ b)) ⊎ ((i ≡ a) × (j ≡ b) → ⊥)
hits i j a b = elim (cases_eq i a) [
  | inl p ↦ elim (cases_eq j b) [ inl q ↦ inl (p, q) | inr q ↦ inr (λ e. q e.1) ]
  | inr p ↦ inr (λ e. p e.0)
]

pub either_first : (i j k l a b : ℕ) → i ≡ a → j ≡ b → (eqb a i && eqb b j) || (eqb a k && eqb b l) ≡ true
either_first i j k l a b p q = rw (eq-eqb a i (sym p), eq-eqb b j (sym q)) refl

pub either_second : (i j k l a b : ℕ) → k ≡ a → l ≡ b → (eqb a i && eqb b j) || (eqb a k && eqb b l) ≡ true
either_second i j k l a b p q = rw (eq-eqb a k (sym p), eq-eqb b l (sym q)) (or-true (eqb a i && eqb b j))

both_false : (i j a b : ℕ) → ((i ≡ a) × (j ≡ b) → ⊥) → eqb a i && eqb b j ≡ false
both_false i j a b n = elim (cases_eq a i) [
  | inl p ↦ let q : b ≡ j → ⊥ = λ e. n (sym p, sym e) in rw (eq-eqb a i p, ne_eqb b j q) refl
  | inr p ↦ rw (ne_eqb a i p) refl
]

pub either_none : (i j k l a b : ℕ) → ((i ≡ a) × (j ≡ b) → ⊥) → ((k ≡ a) × (l ≡ b) → ⊥) → (eqb a i && eqb b j) || (eqb a k && eqb b l) ≡ false
either_none i j k l a b p q = rw (both_false i j a b p, both_false k l a b q) refl

pub read_lowered : (kept : List (Option ℤ)) (n i j a b : ℕ) (x : ℤ) → length kept ≡ 2 * (n * (n + 1)) → i < 2 * n → j < 2 * n → a < 2 * n → b < row_width a →
    get_or (lower_pair (lower_pair kept i j x) (flip j) (flip i) x) (row_start a + b) None
    ≡ cond (is_pair i j a b) (least (get_or kept (row_start a + b) None) (Some x)) (get_or kept (row_start a + b) None)
read_lowered kept n i j a b x size hi hj ha w =
    elim (hits (flip j) (flip i) a b) [
      | inl m ↦ rw (either_second i j (flip j) (flip i) a b m.0 m.1) (outer m)
      | inr m ↦ read_miss (lower_pair kept i j x) (flip j) (flip i) a b x w m ∙ elim (hits i j a b) [
        | inl k ↦ rw (either_first i j (flip j) (flip i) a b k.0 k.1) (inner k)
        | inr k ↦ rw (either_none i j (flip j) (flip i) a b k m) (read_miss kept i j a b x w k)
      ]
    ]
  where
    within : row_start a + b < length kept
    within = omega (arith, size, place-within n a b ha w)

    inner : (i ≡ a) × (j ≡ b) → get_or (lower_pair kept i j x) (row_start a + b) None ≡ least (get_or kept (row_start a + b) None) (Some x)
    inner k = let p : i ≡ a = k.0 in let q : j ≡ b = k.1 in
        rw (p, q) (read_hit kept a b x within w)

    first : get_or (lower_pair kept i j x) (row_start a + b) None ≡ least (get_or kept (row_start a + b) None) (Some x)
        ⊎ (get_or (lower_pair kept i j x) (row_start a + b) None ≡ get_or kept (row_start a + b) None)
    first = elim (hits i j a b) [ inl k ↦ inl (inner k) | inr k ↦ inr (read_miss kept i j a b x w k) ]

    outer : (flip j ≡ a) × (flip i ≡ b) → get_or (lower_pair (lower_pair kept i j x) (flip j) (flip i) x) (row_start a + b) None ≡ least (get_or kept (row_start a + b) None) (Some x)
    outer m = let p : flip j ≡ a = m.0 in let q : flip i ≡ b = m.1 in
        let l : row_start a + b < length (lower_pair kept i j x) = rw (length-lower_pair kept i j x) within in
        rw (p, q) (read_hit (lower_pair kept i j x) a b x l w) ∙ elim first [
          | inl e ↦ ap (λ y. least y (Some x)) e ∙ least-twice (get_or kept (row_start a + b) None) x
          | inr e ↦ ap (λ y. least y (Some x)) e
        ]

eqb-sym : (a b : ℕ) → eqb a b ≡ eqb b a
eqb-sym a b = grind (arith, nat_tests)

eqb-flip : (a b : ℕ) → eqb (flip a) b ≡ eqb a (flip b)
eqb-flip a b = ap (eqb (flip a)) (sym (flip-flip b)) ∙ sym (flip-same' a (flip b))
  where
    flip-same' : (i j : ℕ) → eqb i j ≡ eqb (flip i) (flip j)
    flip-same' i j = flip-same i j ∙ eqb-sym (flip j) (flip i)

swapped : (p q r s : Bool) → (p && q) || (r && s) ≡ (s && r) || (q && p)
swapped true true true true = refl
swapped true true true false = refl
swapped true true false true = refl
swapped true true false false = refl
swapped true false true true = refl
swapped true false true false = refl
swapped true false false true = refl
swapped true false false false = refl
swapped false true true true = refl
swapped false true true false = refl
swapped false true false true = refl
swapped false true false false = refl
swapped false false true true = refl
swapped false false true false = refl
swapped false false false true = refl
swapped false false false false = refl

pub pair-flip : (i j a b : ℕ) → is_pair i j a b ≡ is_pair i j (flip b) (flip a)
pair-flip i j a b =
    swapped (eqb a i) (eqb b j) (eqb a (flip j)) (eqb b (flip i))
    ∙ ap (λ t. (t && eqb a (flip j)) || (eqb b j && eqb a i)) (sym (eqb-flip b i))
    ∙ ap (λ t. (eqb (flip b) i && t) || (eqb b j && eqb a i)) (sym (eqb-flip a j))
    ∙ ap (λ t. (eqb (flip b) i && eqb (flip a) j) || (t && eqb a i)) (flip-same b j ∙ eqb-sym (flip j) (flip b))
    ∙ ap (λ t. (eqb (flip b) i && eqb (flip a) j) || (eqb (flip b) (flip j) && t)) (flip-same a i ∙ eqb-sym (flip i) (flip a))

pub lowered-coherent : (d : ℕ → ℕ → Option ℤ) (n i j : ℕ) (x : ℤ) → IsCoherent d n → IsCoherent (lowered d i j x) n
unfolding lowered
lowered-coherent d n i j x c a b ha hb =
    ap (λ t. cond t (least (d a b) (Some x)) (d a b)) (pair-flip i j a b)
    ∙ ap (λ v. cond (is_pair i j (flip b) (flip a)) (least v (Some x)) v) (c a b ha hb)

pub HasEntries-lowered : (m : HalfMatrix) (i j : ℕ) (x : ℤ) (kept : List (Option ℤ)) → IsMatrix m → i < nodes m → j < nodes m → kept ≡ lower_pair (lower_pair m.kept i j x) (flip j) (flip i) x →
    HasEntries m.kinds (lowered (entry m) i j x) (record { kinds = m.kinds; kept = kept })
unfolding lowered
HasEntries-lowered m i j x kept t hi hj e =
    HasEntries-from_kept m.kinds (lowered (entry m) i j x) r matrix refl coherent at_kept
  where
    r : HalfMatrix
    r = record { kinds = m.kinds; kept = kept }

    coherent : IsCoherent (lowered (entry m) i j x) (nodes m)
    coherent = lowered-coherent (entry m) (nodes m) i j x (entry-coherent m t)

    at_kept : (a b : ℕ) → a < nodes m → b < row_width a → entry r a b ≡ lowered (entry m) i j x a b
    at_kept a b ha w = entry-kept r a b w ∙ ap (λ k. get_or k (row_start a + b) None) e
        ∙ read_lowered m.kept (length m.kinds) i j a b x t.fits hi hj ha w
        ∙ ap (λ v. cond (is_pair i j a b) (least v (Some x)) v) (sym (entry-kept m a b w))

    size : length kept ≡ length m.kept
    size = ap length e ∙ length-lower_pair (lower_pair m.kept i j x) (flip j) (flip i) x ∙ length-lower_pair m.kept i j x

    matrix : IsMatrix r
    matrix = record {
      few = t.few;
      fits = size ∙ t.fits;
      diagonal = λ h l. at_kept (2 * h) (2 * h) (omega arith) (omega arith)
          ∙ (let p : (2 * h) % 2 ≡ 0 = omega arith in coherent (2 * h) (2 * h) (omega arith) (omega arith) ∙ ap (λ k. lowered (entry m) i j x k k) (flip-even (2 * h) p))
          ∙ sym (at_kept (2 * h + 1) (2 * h + 1) (omega arith) (omega arith));
    }

pub lowered-below : (d : ℕ → ℕ → Option ℤ) (i j : ℕ) (x : ℤ) (n : ℕ) → AreAtMost n (lowered d i j x) d
unfolding lowered
lowered-below d i j x n a b ha hb = elim (is_pair i j a b) as (λ v. AtMost (cond v (least (d a b) (Some x)) (d a b)) (d a b)) [
  | true ↦ least-left (d a b) (Some x)
  | false ↦ AtMost-refl (d a b)
]

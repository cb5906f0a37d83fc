-- What keeps a matrix closed, and its triangle law.
use Rattle.std.specs.Prelude.{◌≡◌, ℕ, ◌*◌, ◌/◌, ◌^◌, ◌||◌, ℤ, pos, neg_ℤ, ◌≤ℤ◌, Option, Some, None, Bool, true, false, cond, eqb, List, length, slice_index_or, ◌+◌, refl}
use Rattle.std.specs.Int.{int_div_euclid, int_min, int_max}
use Rattle.std.proofs.Common.{arith, ap, sym, ◌∙◌, subst, inl, inr}
use Rattle.std.proofs.lemmas.Bool.{cases_eq, eq-eqb, ne_eqb, or_cases}
use Rattle.std.proofs.lemmas.Int.{ints, clamps}
use Rattle.dbm_close.specs.Close.{HasNoEmptyRange, IsNotTooLow, slot_high, slot_low}
use Rattle.dbm_close.specs.Steps.{cut, even_down, extreme_high, extreme_low, half, range_high, range_low}
use Rattle.dbm_core.proofs.NodeLemmas.{flip-even, flip-odd, parity}
use Rattle.dbm_core.proofs.OperationLemmas.{forgotten-coherent}
use Rattle.dbm_core.proofs.WeightLemmas.{AtMost-refl, AtMost-trans, add_weight-mono}
use Rattle.dbm_core.specs.Half.{HalfMatrix, HasEntries, entry, nodes}
use Rattle.dbm_core.specs.Limits.{AreAtMost, HasZeroDiagonal}
use Rattle.dbm_core.specs.Nodes.{flip}
use Rattle.dbm_core.specs.Operations.{forgotten, joined}
use Rattle.dbm_core.specs.Weights.{AtMost, add_weight, greatest}
use Rattle.dbm_close.proofs.HalvesLemmas.{half-mono}
use Rattle.dbm_incremental.specs.ClosedMatrices.{IsClosed, IsStrong, IsWhole}
use Rattle.dbm_incremental.specs.Triangles.{IsTriangular}
use Rattle.dbm_core.proofs.LimitLemmas.{greatest-left, greatest-right, greatest-cases}
use Rattle.std.proofs.Math.Bool.{or-true}
use Rattle.base_values.proofs.Integers.{between}

greatest-least : (a b c : Option ℤ) → AtMost a c → AtMost b c → AtMost (greatest a b) c
greatest-least a b None p q = tt
greatest-least None b (Some z) p q = absurd p
greatest-least (Some x) None (Some z) p q = absurd q
greatest-least (Some x) (Some y) (Some z) p q = omega (arith, ints, clamps)

-- ---- join

abbrev pub join_of : (ℕ → ℕ → Option ℤ) → (ℕ → ℕ → Option ℤ) → ℕ → ℕ → Option ℤ
join_of u v i j = greatest (u i j) (v i j)

pub join-triangular : (u v : ℕ → ℕ → Option ℤ) (n : ℕ) → IsTriangular n u → IsTriangular n v → IsTriangular n (join_of u v)
join-triangular u v n p q i k j hi hk hj = greatest-least (u i j) (v i j) (add_weight (join_of u v i k) (join_of u v k j))
    (AtMost-trans (u i j) (add_weight (u i k) (u k j)) (add_weight (join_of u v i k) (join_of u v k j)) (p i k j hi hk hj)
    (add_weight-mono (u i k) (join_of u v i k) (u k j) (join_of u v k j) (greatest-left (u i k) (v i k)) (greatest-left (u k j) (v k j))))
    (AtMost-trans (v i j) (add_weight (v i k) (v k j)) (add_weight (join_of u v i k) (join_of u v k j)) (q i k j hi hk hj)
    (add_weight-mono (v i k) (join_of u v i k) (v k j) (join_of u v k j) (greatest-right (u i k) (v i k)) (greatest-right (u k j) (v k j))))

join-halves : (u v : ℕ → ℕ → Option ℤ) (i j : ℕ) → AtMost (u i j) (half (add_weight (u i (flip i)) (u (flip j) j))) → AtMost (v i j) (half (add_weight (v i (flip i)) (v (flip j) j))) →
    AtMost (join_of u v i j) (half (add_weight (join_of u v i (flip i)) (join_of u v (flip j) j)))
join-halves u v i j p q = greatest-least (u i j) (v i j) (half (add_weight (join_of u v i (flip i)) (join_of u v (flip j) j)))
    (AtMost-trans (u i j) (half (add_weight (u i (flip i)) (u (flip j) j))) (half (add_weight (join_of u v i (flip i)) (join_of u v (flip j) j))) p
    (half-mono (add_weight (u i (flip i)) (u (flip j) j)) (add_weight (join_of u v i (flip i)) (join_of u v (flip j) j))
    (add_weight-mono (u i (flip i)) (join_of u v i (flip i)) (u (flip j) j) (join_of u v (flip j) j) (greatest-left (u i (flip i)) (v i (flip i))) (greatest-left (u (flip j) j) (v (flip j) j)))))
    (AtMost-trans (v i j) (half (add_weight (v i (flip i)) (v (flip j) j))) (half (add_weight (join_of u v i (flip i)) (join_of u v (flip j) j))) q
    (half-mono (add_weight (v i (flip i)) (v (flip j) j)) (add_weight (join_of u v i (flip i)) (join_of u v (flip j) j))
    (add_weight-mono (v i (flip i)) (join_of u v i (flip i)) (v (flip j) j) (join_of u v (flip j) j) (greatest-right (u i (flip i)) (v i (flip i))) (greatest-right (u (flip j) j) (v (flip j) j)))))

pub join-strong : (u v : ℕ → ℕ → Option ℤ) (n : ℕ) → IsStrong n u → IsStrong n v → IsStrong n (join_of u v)
join-strong u v n p q = record {
  coherent = λ i j hi hj. ap (λ x. greatest x (v i j)) (p.coherent i j hi hj) ∙ ap (greatest (u (flip j) (flip i))) (q.coherent i j hi hj);
  diagonal = λ i hi. rw (p.diagonal i hi, q.diagonal i hi) refl;
  triangles = join-triangular u v n p.triangles q.triangles;
  evens = λ i hi. greatest-cases (λ x. even_down x ≡ x) (u i (flip i)) (v i (flip i)) refl (p.evens i hi) (q.evens i hi);
  halves = λ i j hi hj. join-halves u v i j (p.halves i j hi hj) (q.halves i j hi hj);
}

cut-greatest : (a b : Option ℤ) → greatest (cut a) (cut b) ≡ cut (greatest a b)
cut-greatest None b = refl
cut-greatest (Some x) None = none_right (cut (Some x))
  where
    none_right : (a : Option ℤ) → greatest a None ≡ None
    none_right None = refl
    none_right (Some y) = refl
cut-greatest (Some x) (Some y) = grind (arith, ints, clamps)

high-mono : (array : Bool) (a b : Option ℤ) → AtMost a b → range_high array a ≤ℤ range_high array b
high-mono array None None p = omega (arith, ints)
high-mono array None (Some y) p = absurd p
high-mono array (Some x) None p = omega (arith, ints, clamps)
high-mono array (Some x) (Some y) p = below (extreme_high array) (int_div_euclid x (pos 2)) (int_div_euclid y (pos 2)) (half-mono (Some x) (Some y) p)
  where
    below : (e h k : ℤ) → h ≤ℤ k → int_min e h ≤ℤ int_min e k
    below e h k l = omega (arith, ints, clamps)

low-mono : (array : Bool) (a b : Option ℤ) → AtMost a b → range_low array b ≤ℤ range_low array a
low-mono array None None p = omega (arith, ints)
low-mono array None (Some y) p = absurd p
low-mono array (Some x) None p = omega (arith, ints, clamps)
low-mono array (Some x) (Some y) p = below (extreme_low array) (int_div_euclid x (pos 2)) (int_div_euclid y (pos 2)) (half-mono (Some x) (Some y) p)
  where
    below : (e h k : ℤ) → h ≤ℤ k → int_max e (neg_ℤ k) ≤ℤ int_max e (neg_ℤ h)
    below e h k l = omega (arith, ints, clamps)

-- greater entries leave no slot's range empty
pub ranges-more : (kinds : List Bool) (f g : ℕ → ℕ → Option ℤ) → AreAtMost (2 * length kinds) f g → HasNoEmptyRange kinds f → HasNoEmptyRange kinds g
ranges-more kinds f g l p k hk =
    between (slot_low kinds g k) (slot_low kinds f k) (slot_high kinds f k) (slot_high kinds g k)
    (low-mono (slice_index_or kinds k false) (f (2 * k) (2 * k + 1)) (g (2 * k) (2 * k + 1)) (l (2 * k) (2 * k + 1) (omega arith) (omega arith)))
    (p k hk)
    (high-mono (slice_index_or kinds k false) (f (2 * k + 1) (2 * k)) (g (2 * k + 1) (2 * k)) (l (2 * k + 1) (2 * k) (omega arith) (omega arith)))

-- the join of closed matrices is closed
pub join-closed : (a b r : HalfMatrix) → b.kinds ≡ a.kinds → IsClosed a → IsClosed b → HasEntries a.kinds (joined a b) r → IsClosed r
join-closed a b r e (u, p) (v, q) h =
    let n : length r.kinds ≡ length a.kinds = ap length h.same_kinds in
    let m : nodes a ≡ nodes r = ap (λ x. 2 * x) (sym n) in
    let k : nodes b ≡ nodes a = ap (λ x. 2 * length x) e in
    let vs : IsStrong (nodes a) v = subst (λ x. IsStrong x v) k q.strong in
    let vl : IsNotTooLow (nodes a) v = subst (λ x. IsNotTooLow x v) k q.in_range in (
      join_of u v,
      record {
        matrix = h.matrix;
        strong = subst (λ x. IsStrong x (join_of u v)) m (join-strong u v (nodes a) p.strong vs);
        in_range = λ i j hi hj. AtMost-trans (Some (neg_ℤ (pos (2 ^ 64)))) (u i j) (join_of u v i j) (p.in_range i j (omega arith) (omega arith)) (greatest-left (u i j) (v i j));
        ranges = ranges-more r.kinds (entry a) (entry r) (λ i j hi hj. subst (λ x. AtMost (entry a i j) x) (sym (h.entries i j (omega arith) (omega arith))) (greatest-left (entry a i j) (entry b i j)))
            (subst (λ x. HasNoEmptyRange x (entry a)) (sym h.same_kinds) p.ranges);
        entries = λ i j hi hj. h.entries i j (omega arith) (omega arith)
            ∙ ap (λ x. greatest x (entry b i j)) (p.entries i j (omega arith) (omega arith))
            ∙ ap (greatest (cut (u i j))) (q.entries i j (omega arith) (omega arith))
            ∙ cut-greatest (u i j) (v i j);
      },
    )

-- and the triangle law holds of it, where it holds of both
pub join-whole : (a b r : HalfMatrix) → b.kinds ≡ a.kinds → IsWhole a → IsWhole b → HasEntries a.kinds (joined a b) r → IsWhole r
join-whole a b r e p q h i k j hi hk hj =
    let n : length r.kinds ≡ length a.kinds = ap length h.same_kinds in
    let m : nodes b ≡ nodes a = ap (λ x. 2 * length x) e in
    rw (h.entries i j (omega arith) (omega arith), h.entries i k (omega arith) (omega arith), h.entries k j (omega arith) (omega arith))
    (join-triangular (entry a) (entry b) (nodes a) p (subst (λ x. IsTriangular x (entry b)) m q) i k j (omega arith) (omega arith) (omega arith))

-- ---- a slot forgotten

abbrev pub in_slot : ℕ → ℕ → Bool
in_slot k i = eqb (i / 2) k

pub forgotten-same : (d : ℕ → ℕ → Option ℤ) (k i : ℕ) → forgotten d k i i ≡ d i i
forgotten-same d k i = rw (eq-eqb i i refl) refl

pub forgotten-free : (d : ℕ → ℕ → Option ℤ) (k i j : ℕ) → (i ≡ j → ⊥) → in_slot k i || in_slot k j ≡ true → forgotten d k i j ≡ None
forgotten-free d k i j n e = rw (ne_eqb i j n, e) refl

pub forgotten-kept : (d : ℕ → ℕ → Option ℤ) (k i j : ℕ) → in_slot k i || in_slot k j ≡ false → forgotten d k i j ≡ d i j
forgotten-kept d k i j e = elim (eqb i j) as (λ v. cond v (d i j) (cond (in_slot k i || in_slot k j) None (d i j)) ≡ d i j) [ true ↦ refl | false ↦ rw e refl ]

forgotten-above : (d : ℕ → ℕ → Option ℤ) (k i j : ℕ) → AtMost (d i j) (forgotten d k i j)
forgotten-above d k i j = elim (eqb i j) as (λ v. AtMost (d i j) (cond v (d i j) (cond (in_slot k i || in_slot k j) None (d i j)))) [
  | true ↦ AtMost-refl (d i j)
  | false ↦ elim (in_slot k i || in_slot k j) as (λ v. AtMost (d i j) (cond v None (d i j))) [ true ↦ tt | false ↦ AtMost-refl (d i j) ]
]

none_right : (a : Option ℤ) → add_weight a None ≡ None
none_right None = refl
none_right (Some x) = refl

pub add_zero : (a : Option ℤ) → AtMost a (add_weight (Some (pos 0)) a)
add_zero None = tt
add_zero (Some x) = omega (arith, ints)

pub zero_add : (a : Option ℤ) → AtMost a (add_weight a (Some (pos 0)))
zero_add None = tt
zero_add (Some x) = omega (arith, ints)

pub forgotten-triangular : (d : ℕ → ℕ → Option ℤ) (n q : ℕ) → HasZeroDiagonal n d → IsTriangular n d → IsTriangular n (forgotten d q)
forgotten-triangular d n q o t i k j hi hk hj = by_ends (in_slot q i || in_slot q j) refl
  where
    f : ℕ → ℕ → Option ℤ
    f = forgotten d q

    above : AtMost (add_weight (d i k) (d k j)) (add_weight (f i k) (f k j))
    above = add_weight-mono (d i k) (f i k) (d k j) (f k j) (forgotten-above d q i k) (forgotten-above d q k j)

    first : (i ≡ k) → AtMost (f i j) (add_weight (f i k) (f k j))
    first e = subst (λ x. AtMost (f i j) (add_weight (f i x) (f x j))) e (rw (forgotten-same d q i, o i hi) (add_zero (f i j)))

    last : (k ≡ j) → AtMost (f i j) (add_weight (f i k) (f k j))
    last e = subst (λ x. AtMost (f i j) (add_weight (f i x) (f x j))) (sym e) (rw (forgotten-same d q j, o j hj) (zero_add (f i j)))

    open_first : (i ≡ k → ⊥) → in_slot q i ≡ true → AtMost (f i j) (add_weight (f i k) (f k j))
    open_first n e = subst (λ v. AtMost (f i j) (add_weight v (f k j))) (sym (forgotten-free d q i k n (ap (λ p. p || in_slot q k) e))) tt

    open_last : (k ≡ j → ⊥) → in_slot q j ≡ true → AtMost (f i j) (add_weight (f i k) (f k j))
    open_last n e = subst (λ v. AtMost (f i j) (add_weight (f i k) v)) (sym (forgotten-free d q k j n (ap (λ p. in_slot q k || p) e ∙ or-true (in_slot q k))))
        (subst (λ v. AtMost (f i j) v) (sym (none_right (f i k))) tt)

    by_ends : (b : Bool) → in_slot q i || in_slot q j ≡ b → AtMost (f i j) (add_weight (f i k) (f k j))
    by_ends false e = subst (λ v. AtMost v (add_weight (f i k) (f k j))) (sym (forgotten-kept d q i j e))
        (AtMost-trans (d i j) (add_weight (d i k) (d k j)) (add_weight (f i k) (f k j)) (t i k j hi hk hj) above)
    by_ends true e = elim (cases_eq i k) [
      | inl m ↦ first m
      | inr m ↦ elim (cases_eq k j) [
        | inl l ↦ last l
        | inr l ↦ elim (or_cases (in_slot q i) (in_slot q j) e) [ inl x ↦ open_first m x | inr x ↦ open_last l x ]
      ]
    ]

pub forgotten-cases : (P : Option ℤ → Type 0) (d : ℕ → ℕ → Option ℤ) (k i j : ℕ) → P None → P (d i j) → P (forgotten d k i j)
forgotten-cases P d k i j n p = elim (eqb i j) as (λ v. P (cond v (d i j) (cond (in_slot k i || in_slot k j) None (d i j)))) [
  | true ↦ p
  | false ↦ elim (in_slot k i || in_slot k j) as (λ v. P (cond v None (d i j))) [ true ↦ n | false ↦ p ]
]

flip-other : (i : ℕ) → i ≡ flip i → ⊥
flip-other i e = elim (parity i) [
  | inl p ↦ absurd (omega (arith, e ∙ flip-even i p))
  | inr p ↦ absurd (omega (arith, e ∙ flip-odd i p))
]

forgotten-halves : (d : ℕ → ℕ → Option ℤ) (q i j : ℕ) → AtMost (d i j) (half (add_weight (d i (flip i)) (d (flip j) j))) →
    AtMost (forgotten d q i j) (half (add_weight (forgotten d q i (flip i)) (forgotten d q (flip j) j)))
forgotten-halves d q i j p = by_ends (in_slot q i) (in_slot q j) refl refl
  where
    f : ℕ → ℕ → Option ℤ
    f = forgotten d q

    by_ends : (a b : Bool) → in_slot q i ≡ a → in_slot q j ≡ b → AtMost (f i j) (half (add_weight (f i (flip i)) (f (flip j) j)))
    by_ends true b e g = subst (λ v. AtMost (f i j) (half (add_weight v (f (flip j) j)))) (sym (forgotten-free d q i (flip i) (flip-other i) (ap (λ p. p || in_slot q (flip i)) e))) tt
    by_ends false true e g = subst (λ v. AtMost (f i j) (half (add_weight (f i (flip i)) v)))
        (sym (forgotten-free d q (flip j) j (λ x. flip-other j (sym x)) (ap (λ p. in_slot q (flip j) || p) g ∙ or-true (in_slot q (flip j)))))
        (subst (λ v. AtMost (f i j) (half v)) (sym (none_right (f i (flip i)))) tt)
    by_ends false false e g = subst (λ v. AtMost v (half (add_weight (f i (flip i)) (f (flip j) j)))) (sym (forgotten-kept d q i j (rw (e, g) refl)))
        (AtMost-trans (d i j) (half (add_weight (d i (flip i)) (d (flip j) j))) (half (add_weight (f i (flip i)) (f (flip j) j))) p
        (half-mono (add_weight (d i (flip i)) (d (flip j) j)) (add_weight (f i (flip i)) (f (flip j) j))
        (add_weight-mono (d i (flip i)) (f i (flip i)) (d (flip j) j) (f (flip j) j) (forgotten-above d q i (flip i)) (forgotten-above d q (flip j) j))))

pub forgotten-strong : (d : ℕ → ℕ → Option ℤ) (n q : ℕ) → IsStrong n d → IsStrong n (forgotten d q)
forgotten-strong d n q p = record {
  coherent = forgotten-coherent d q n p.coherent;
  diagonal = λ i hi. forgotten-same d q i ∙ p.diagonal i hi;
  triangles = forgotten-triangular d n q p.diagonal p.triangles;
  evens = λ i hi. forgotten-cases (λ x. even_down x ≡ x) d q i (flip i) refl (p.evens i hi);
  halves = λ i j hi hj. forgotten-halves d q i j (p.halves i j hi hj);
}

forgotten-cut : (d u : ℕ → ℕ → Option ℤ) (q i j : ℕ) → d i j ≡ cut (u i j) → forgotten d q i j ≡ cut (forgotten u q i j)
forgotten-cut d u q i j e = elim (eqb i j) as (λ v. cond v (d i j) (cond (in_slot q i || in_slot q j) None (d i j)) ≡ cut (cond v (u i j) (cond (in_slot q i || in_slot q j) None (u i j)))) [
  | true ↦ e
  | false ↦ elim (in_slot q i || in_slot q j) as (λ v. cond v None (d i j) ≡ cut (cond v None (u i j))) [ true ↦ refl | false ↦ e ]
]

-- a closed matrix without the bounds on a slot is closed
pub forget-closed : (m r : HalfMatrix) (q : ℕ) → IsClosed m → HasEntries m.kinds (forgotten (entry m) q) r → IsClosed r
forget-closed m r q (u, p) h =
    let n : length r.kinds ≡ length m.kinds = ap length h.same_kinds in
    let k : nodes m ≡ nodes r = ap (λ x. 2 * x) (sym n) in (
      forgotten u q,
      record {
        matrix = h.matrix;
        strong = subst (λ x. IsStrong x (forgotten u q)) k (forgotten-strong u (nodes m) q p.strong);
        in_range = λ i j hi hj. AtMost-trans (Some (neg_ℤ (pos (2 ^ 64)))) (u i j) (forgotten u q i j) (p.in_range i j (omega arith) (omega arith)) (forgotten-above u q i j);
        ranges = ranges-more r.kinds (entry m) (entry r) (λ i j hi hj. subst (λ x. AtMost (entry m i j) x) (sym (h.entries i j (omega arith) (omega arith))) (forgotten-above (entry m) q i j))
            (subst (λ x. HasNoEmptyRange x (entry m)) (sym h.same_kinds) p.ranges);
        entries = λ i j hi hj. h.entries i j (omega arith) (omega arith) ∙ forgotten-cut (entry m) u q i j (p.entries i j (omega arith) (omega arith));
      },
    )

pub closed-diagonal : (m : HalfMatrix) → IsClosed m → HasZeroDiagonal (nodes m) (entry m)
closed-diagonal m (u, p) i hi = p.entries i i hi hi ∙ ap cut (p.strong.diagonal i hi)

pub forget-whole : (m r : HalfMatrix) (q : ℕ) → IsClosed m → IsWhole m → HasEntries m.kinds (forgotten (entry m) q) r → IsWhole r
forget-whole m r q c t h i k j hi hk hj =
    let n : length r.kinds ≡ length m.kinds = ap length h.same_kinds in
    rw (h.entries i j (omega arith) (omega arith), h.entries i k (omega arith) (omega arith), h.entries k j (omega arith) (omega arith))
    (forgotten-triangular (entry m) (nodes m) q (closed-diagonal m c) t i k j (omega arith) (omega arith) (omega arith))

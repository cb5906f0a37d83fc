-- Laws of closing: its answer is determined, limited, and keeps the meaning.
use Rattle.std.specs.Prelude.{◌≡◌, ℕ, ◌<◌, ◌+◌, ◌*◌, ◌/◌, ◌%◌, ◌^◌, ℤ, pos, negsuc, neg_ℤ, ◌+ℤ◌, ◌-ℤ◌, ◌≤ℤ◌, ◌<ℤ◌, Option, Some, None, Bool, true, false, cond, int_lt, List, [], ◌∷◌, length, slice_index_or, ◌⊎◌, refl}
use Rattle.std.specs.Int.{int_min, int_max, int_div_euclid, int_rem_euclid}
use Rattle.std.proofs.Common.{arith, ap, sym, ◌∙◌, subst, inl, inr}
use Rattle.std.proofs.lemmas.Int.{ints, clamps}
use Rattle.std.proofs.lemmas.Bool.{cases_eq, eq-eqb, ne_eqb}
use Rattle.std.proofs.lemmas.Bool.Decides.{nat_tests}
use Rattle.dbm_close.specs.declared.closed.Closed.{Closed}
use Rattle.dbm_close.specs.declared.closed.Closed.TheVariants.{Empty, Matrix}
use Rattle.dbm_close.proofs.StrongLemmas.{Agree, HasEntries-change, contradictory-agree, empty_range-agree, strengthened-agree, too_low-agree}
use Rattle.dbm_close.proofs.WalkLemmas.{add_weight-zero}
use Rattle.dbm_close.specs.Close.{HasEmptyRange, IsCloseOf, IsContradictory, IsNotContradictory, IsNotTooLow, IsTooLow, closed_entry, slot_high, slot_low, strong}
use Rattle.dbm_close.specs.Laws.{AreInSlots, HalvesAreExact, IsLimitedAnswer, IsMetBy, KeepsKinds, KeepsMeaning}
use Rattle.dbm_close.specs.Steps.{cut, even_down, extreme_high, extreme_low, half, range_high, range_low, strengthened, tightened}
use Rattle.dbm_close.specs.Walks.{Below, IsWalk, walk_end, walk_weight, AreLeastWeights, HasNegativeWalk, HasNoNegativeWalk}
use Rattle.dbm_core.proofs.NodeLemmas.{flip_below, flip-flip, parity}
use Rattle.dbm_core.proofs.LimitLemmas.{IsLimited-entries}
use Rattle.dbm_core.proofs.SameLemmas.{HasEntries-one}
use Rattle.dbm_core.proofs.ValuationLemmas.{Meets-from_entries, node-negative, node-plain, node_value-even, node_value-flip, node_value-odd, zero_apart}
use Rattle.dbm_core.proofs.WeightLemmas.{AtMost-both, AtMost-refl, AtMost-trans, add_weight-mono, least-greatest, least-left}
use Rattle.dbm_core.specs.Half.{HalfMatrix, entry, nodes}
use Rattle.dbm_core.specs.Limits.{AreWithin, IsWithin}
use Rattle.dbm_core.specs.Nodes.{flip, is_single}
use Rattle.dbm_core.specs.Valuations.{IsSatisfiedBy, Meets, node_value}
use Rattle.dbm_core.specs.Weights.{AtMost, add_weight, least}
use Rattle.base_values.proofs.Integers.{crossed}
use Rattle.dbm_close.proofs.HalvesLemmas.{single_down}

zero_weight : (a : Option ℤ) → AtMost a (Some (pos 0)) → AtMost (Some (pos 0)) a → a ≡ Some (pos 0)
zero_weight None p q = absurd p
zero_weight (Some x) p q = let e : x ≡ pos 0 = omega (arith, ints) in ap Some e

pub least-diagonal : (w s : ℕ → ℕ → Option ℤ) (n i : ℕ) → i < n → HasNoNegativeWalk w n → AreLeastWeights w n s → s i i ≡ Some (pos 0)
least-diagonal w s n i l sound h = zero_weight (s i i) (h.lower i i [] l l (record { inside = tt; ends = refl })) (below (s i i) refl)
  where
    below : (a : Option ℤ) → s i i ≡ a → AtMost (Some (pos 0)) (s i i)
    below None e = rw e tt
    below (Some x) e = let p : (xs : List ℕ) × IsWalk n i xs i × (walk_weight w i xs ≡ Some x) = h.walks i i x l l e in
        subst (λ v. AtMost (Some (pos 0)) v) (p.2 ∙ sym e) (sound i p.0 l p.1)

pub single-diagonal : (i : ℕ) → is_single i i ≡ false
single-diagonal i = grind (arith, nat_tests)

half-not_negative : (a : Option ℤ) → AtMost (Some (pos 0)) a → AtMost (Some (pos 0)) (half a)
half-not_negative None h = tt
half-not_negative (Some (pos n)) h = omega (arith, ints)
half-not_negative (Some (negsuc n)) h = absurd (omega (arith, ints))

pub closed-diagonal : (s : ℕ → ℕ → Option ℤ) (n i : ℕ) → i < n → s i i ≡ Some (pos 0) → IsNotContradictory n (tightened s) → closed_entry s i i ≡ Some (pos 0)
closed-diagonal s n i l e c = ap cut (zero_weight (strong s i i)
    (at_most (tightened s i i) (half (add_weight (tightened s i (flip i)) (tightened s (flip i) i))) t)
    (least-greatest (Some (pos 0)) (tightened s i i) (half (add_weight (tightened s i (flip i)) (tightened s (flip i) i))) (rw t (AtMost-refl (Some (pos 0))))
    (half-not_negative (add_weight (tightened s i (flip i)) (tightened s (flip i) i)) (c i l))))
  where
    t : tightened s i i ≡ Some (pos 0)
    t = rw (single-diagonal i) e

    at_most : (a b : Option ℤ) → a ≡ Some (pos 0) → AtMost (least a b) (Some (pos 0))
    at_most a None e = rw e (AtMost-refl (Some (pos 0)))
    at_most a (Some y) e = rw e (omega (arith, ints, clamps))

pub closed-within : (s : ℕ → ℕ → Option ℤ) (n : ℕ) → IsNotTooLow n (strong s) → AreWithin n (2 ^ 64) (closed_entry s)
closed-within s n h i j hi hj = bounded (strong s i j) (h i j hi hj)
  where
    bounded : (a : Option ℤ) → AtMost (Some (neg_ℤ (pos (2 ^ 64)))) a → IsWithin (2 ^ 64) (cut a)
    bounded None p = tt
    bounded (Some x) p = by_test x p (int_lt x (pos (2 ^ 64))) refl
      where
        by_test : (x : ℤ) → neg_ℤ (pos (2 ^ 64)) ≤ℤ x → (b : Bool) → int_lt x (pos (2 ^ 64)) ≡ b → IsWithin (2 ^ 64) (cond b (Some x) None)
        by_test x p true e = (p, grind (arith, ints))
        by_test x p false e = tt

walk-sound : (w : ℕ → ℕ → Option ℤ) (n : ℕ) (x : ℕ → ℤ) → Meets n w x → (i : ℕ) (xs : List ℕ) → i < n → Below n xs → AtMost (Some (node_value x (walk_end i xs) -ℤ node_value x i)) (walk_weight w i xs)
walk-sound w n x m i [] hi b = zero_apart (node_value x i)
walk-sound w n x m i (k ∷ xs) hi b =
    let e : (node_value x k -ℤ node_value x i) +ℤ (node_value x (walk_end k xs) -ℤ node_value x k) ≡ node_value x (walk_end k xs) -ℤ node_value x i = omega (arith, ints) in
    subst (λ v. AtMost (Some v) (add_weight (w i k) (walk_weight w k xs))) e
    (add_weight-mono (Some (node_value x k -ℤ node_value x i)) (w i k) (Some (node_value x (walk_end k xs) -ℤ node_value x k)) (walk_weight w k xs) (m i k hi b.0) (walk-sound w n x m k xs b.0 b.1))

walk_to-sound : (w : ℕ → ℕ → Option ℤ) (n : ℕ) (x : ℕ → ℤ) → Meets n w x → (i j : ℕ) (xs : List ℕ) → i < n → IsWalk n i xs j → AtMost (Some (node_value x j -ℤ node_value x i)) (walk_weight w i xs)
walk_to-sound w n x m i j xs hi p = subst (λ k. AtMost (Some (node_value x k -ℤ node_value x i)) (walk_weight w i xs)) p.ends (walk-sound w n x m i xs hi p.inside)

pub least-sound : (w s : ℕ → ℕ → Option ℤ) (n : ℕ) (x : ℕ → ℤ) → AreLeastWeights w n s → Meets n w x → Meets n s x
least-sound w s n x h m i j hi hj = by_entry (s i j) refl
  where
    by_entry : (a : Option ℤ) → s i j ≡ a → AtMost (Some (node_value x j -ℤ node_value x i)) (s i j)
    by_entry None e = rw e tt
    by_entry (Some y) e = let p : (xs : List ℕ) × IsWalk n i xs j × (walk_weight w i xs ≡ Some y) = h.walks i j y hi hj e in
        subst (λ v. AtMost (Some (node_value x j -ℤ node_value x i)) v) (p.2 ∙ sym e) (walk_to-sound w n x m i j p.0 hi p.1)

negative-sound : (w : ℕ → ℕ → Option ℤ) (n : ℕ) (x : ℕ → ℤ) → Meets n w x → HasNegativeWalk w n → ⊥
negative-sound w n x m z =
    let p : AtMost (Some (node_value x z.0 -ℤ node_value x z.0)) (Some (negsuc 0)) =
    AtMost-trans (Some (node_value x z.0 -ℤ node_value x z.0)) (walk_weight w z.0 z.2.0) (Some (negsuc 0)) (walk_to-sound w n x m z.0 z.0 z.2.0 z.1 z.2.1) z.2.2 in
    omega (arith, ints, p)

even-bound : (y : ℤ) (a : Option ℤ) → AtMost (Some (y +ℤ y)) a → AtMost (Some (y +ℤ y)) (even_down a)
even-bound y None p = tt
even-bound (pos m) (Some (pos n)) p = omega (arith, ints)
even-bound (pos m) (Some (negsuc n)) p = omega (arith, ints)
even-bound (negsuc m) (Some (pos n)) p = omega (arith, ints)
even-bound (negsuc m) (Some (negsuc n)) p = omega (arith, ints)

half-bound : (y : ℤ) (a : Option ℤ) → AtMost (Some (y +ℤ y)) a → AtMost (Some y) (half a)
half-bound y None p = tt
half-bound y (Some (pos n)) p = omega (arith, ints)
half-bound y (Some (negsuc n)) p = omega (arith, ints)

tight-sound : (s : ℕ → ℕ → Option ℤ) (n : ℕ) (x : ℕ → ℤ) → Meets n s x → Meets n (tightened s) x
tight-sound s n x m i j hi hj = elim (cases_eq j (flip i)) [
  | inl e ↦ rw (eq-eqb j (flip i) e)
      (let d : neg_ℤ (node_value x i) +ℤ neg_ℤ (node_value x i) ≡ node_value x j -ℤ node_value x i =
      (let f : node_value x j ≡ neg_ℤ (node_value x i) = ap (node_value x) e ∙ node_value-flip x i in omega (arith, ints)) in
      subst (λ v. AtMost (Some v) (even_down (s i j))) d (even-bound (neg_ℤ (node_value x i)) (s i j) (subst (λ v. AtMost (Some v) (s i j)) (sym d) (m i j hi hj))))
  | inr e ↦ rw (ne_eqb j (flip i) e) (m i j hi hj)
]

strong-sound : (t : ℕ → ℕ → Option ℤ) (h : ℕ) (x : ℕ → ℤ) → Meets (2 * h) t x → Meets (2 * h) (strengthened t) x
strong-sound t h x m i j hi hj =
    least-greatest (Some (node_value x j -ℤ node_value x i)) (t i j) (half (add_weight (t i (flip i)) (t (flip j) j))) (m i j hi hj)
    (half-bound (node_value x j -ℤ node_value x i) (add_weight (t i (flip i)) (t (flip j) j))
    (subst (λ v. AtMost (Some v) (add_weight (t i (flip i)) (t (flip j) j))) d
    (add_weight-mono (Some (node_value x (flip i) -ℤ node_value x i)) (t i (flip i)) (Some (node_value x j -ℤ node_value x (flip j))) (t (flip j) j)
    (m i (flip i) hi (flip_below i h hi)) (m (flip j) j (flip_below j h hj) hj))))
  where
    d : (node_value x (flip i) -ℤ node_value x i) +ℤ (node_value x j -ℤ node_value x (flip j)) ≡ (node_value x j -ℤ node_value x i) +ℤ (node_value x j -ℤ node_value x i)
    d = let f : node_value x (flip i) ≡ neg_ℤ (node_value x i) = node_value-flip x i in let g : node_value x (flip j) ≡ neg_ℤ (node_value x j) = node_value-flip x j in omega (arith, ints)

contradictory-sound : (t : ℕ → ℕ → Option ℤ) (h : ℕ) (x : ℕ → ℤ) → Meets (2 * h) t x → IsContradictory (2 * h) t → ⊥
contradictory-sound t h x m (i, (l, p)) =
    let q : AtMost (Some ((node_value x (flip i) -ℤ node_value x i) +ℤ (node_value x i -ℤ node_value x (flip i)))) (Some (negsuc 0)) =
    AtMost-trans (Some ((node_value x (flip i) -ℤ node_value x i) +ℤ (node_value x i -ℤ node_value x (flip i)))) (add_weight (t i (flip i)) (t (flip i) i)) (Some (negsuc 0))
    (add_weight-mono (Some (node_value x (flip i) -ℤ node_value x i)) (t i (flip i)) (Some (node_value x i -ℤ node_value x (flip i))) (t (flip i) i)
    (m i (flip i) l (flip_below i h l)) (m (flip i) i (flip_below i h l) l)) p in
    omega (arith, ints, q)

extremes : (array : Bool) (y : ℤ) → extreme_low array ≤ℤ y → y ≤ℤ extreme_high array → (neg_ℤ (pos (2 ^ 63)) ≤ℤ y) × (y ≤ℤ pos (2 ^ 63))
extremes true y p q = (omega (arith, ints), omega (arith, ints))
extremes false y p q = (omega (arith, ints), omega (arith, ints))

node-within : (kinds : List Bool) (x : ℕ → ℤ) → AreInSlots kinds x → (i : ℕ) → i < 2 * length kinds → (neg_ℤ (pos (2 ^ 63)) ≤ℤ node_value x i) × (node_value x i ≤ℤ pos (2 ^ 63))
node-within kinds x h i l =
    let k : i / 2 < length kinds = omega arith in
    let b : (neg_ℤ (pos (2 ^ 63)) ≤ℤ x (i / 2)) × (x (i / 2) ≤ℤ pos (2 ^ 63)) = extremes (slice_index_or kinds (i / 2) false) (x (i / 2)) (h (i / 2) k).0 (h (i / 2) k).1 in
    let low : neg_ℤ (pos (2 ^ 63)) ≤ℤ x (i / 2) = b.0 in
    let high : x (i / 2) ≤ℤ pos (2 ^ 63) = b.1 in
    elim (parity i) [
      | inl e ↦ rw (node_value-even x i e) b
      | inr e ↦ rw (node_value-odd x i e) (omega (arith, ints), omega (arith, ints))
    ]

too_low-sound : (u : ℕ → ℕ → Option ℤ) (kinds : List Bool) (x : ℕ → ℤ) → AreInSlots kinds x → Meets (2 * length kinds) u x → IsTooLow (2 * length kinds) u → ⊥
too_low-sound u kinds x h m z =
    let q : AtMost (Some (node_value x z.1 -ℤ node_value x z.0)) (Some (negsuc (2 ^ 64))) =
    AtMost-trans (Some (node_value x z.1 -ℤ node_value x z.0)) (u z.0 z.1) (Some (negsuc (2 ^ 64))) (m z.0 z.1 z.2.0 z.2.1) z.2.2 in
    let a : (neg_ℤ (pos (2 ^ 63)) ≤ℤ node_value x z.0) × (node_value x z.0 ≤ℤ pos (2 ^ 63)) = node-within kinds x h z.0 z.2.0 in
    let b : (neg_ℤ (pos (2 ^ 63)) ≤ℤ node_value x z.1) × (node_value x z.1 ≤ℤ pos (2 ^ 63)) = node-within kinds x h z.1 z.2.1 in
    omega (arith, ints, q, a.0, a.1, b.0, b.1)

cut-sound : (a : Option ℤ) (y : ℤ) → AtMost (Some y) a → AtMost (Some y) (cut a)
cut-sound None y p = tt
cut-sound (Some b) y p = elim (int_lt b (pos (2 ^ 64))) as (λ v. AtMost (Some y) (cond v (Some b) None)) [ true ↦ p | false ↦ tt ]

low-sound : (array : Bool) (a : Option ℤ) (y : ℤ) → extreme_low array ≤ℤ y → AtMost (Some (neg_ℤ y -ℤ y)) a → range_low array a ≤ℤ y
low-sound array None y p q = p
low-sound array (Some (pos n)) y p q = at_ends (extreme_low array) y p q
  where
    at_ends : (e y : ℤ) → e ≤ℤ y → AtMost (Some (neg_ℤ y -ℤ y)) (Some (pos n)) → int_max e (neg_ℤ (int_div_euclid (pos n) (pos 2))) ≤ℤ y
    at_ends e y p q = omega (arith, ints, clamps)
low-sound array (Some (negsuc n)) y p q = at_ends (extreme_low array) y p q
  where
    at_ends : (e y : ℤ) → e ≤ℤ y → AtMost (Some (neg_ℤ y -ℤ y)) (Some (negsuc n)) → int_max e (neg_ℤ (int_div_euclid (negsuc n) (pos 2))) ≤ℤ y
    at_ends e y p q = omega (arith, ints, clamps)

high-sound : (array : Bool) (a : Option ℤ) (y : ℤ) → y ≤ℤ extreme_high array → AtMost (Some (y -ℤ neg_ℤ y)) a → y ≤ℤ range_high array a
high-sound array None y p q = p
high-sound array (Some (pos n)) y p q = at_ends (extreme_high array) y p q
  where
    at_ends : (e y : ℤ) → y ≤ℤ e → AtMost (Some (y -ℤ neg_ℤ y)) (Some (pos n)) → y ≤ℤ int_min e (int_div_euclid (pos n) (pos 2))
    at_ends e y p q = omega (arith, ints, clamps)
high-sound array (Some (negsuc n)) y p q = at_ends (extreme_high array) y p q
  where
    at_ends : (e y : ℤ) → y ≤ℤ e → AtMost (Some (y -ℤ neg_ℤ y)) (Some (negsuc n)) → y ≤ℤ int_min e (int_div_euclid (negsuc n) (pos 2))
    at_ends e y p q = omega (arith, ints, clamps)

pub range-sound : (r : ℕ → ℕ → Option ℤ) (kinds : List Bool) (x : ℕ → ℤ) → AreInSlots kinds x → Meets (2 * length kinds) r x → (k : ℕ) → k < length kinds → (slot_low kinds r k ≤ℤ x k) × (x k ≤ℤ slot_high kinds r k)
range-sound r kinds x h m k l = (
  low-sound (slice_index_or kinds k false) (r (2 * k) (2 * k + 1)) (x k) (h k l).0
      (subst (λ v. AtMost (Some (neg_ℤ (x k) -ℤ v)) (r (2 * k) (2 * k + 1))) (node-plain x k)
      (subst (λ v. AtMost (Some (v -ℤ node_value x (2 * k))) (r (2 * k) (2 * k + 1))) (node-negative x k) (m (2 * k) (2 * k + 1) (omega arith) (omega arith)))),
  high-sound (slice_index_or kinds k false) (r (2 * k + 1) (2 * k)) (x k) (h k l).1
      (subst (λ v. AtMost (Some (x k -ℤ v)) (r (2 * k + 1) (2 * k))) (node-negative x k)
      (subst (λ v. AtMost (Some (v -ℤ node_value x (2 * k + 1))) (r (2 * k + 1) (2 * k))) (node-plain x k) (m (2 * k + 1) (2 * k) (omega arith) (omega arith)))),
)

empty_range-sound : (r : ℕ → ℕ → Option ℤ) (kinds : List Bool) (x : ℕ → ℤ) → AreInSlots kinds x → Meets (2 * length kinds) r x → HasEmptyRange kinds r → ⊥
empty_range-sound r kinds x h m (k, (l, p)) =
    let b : (slot_low kinds r k ≤ℤ x k) × (x k ≤ℤ slot_high kinds r k) = range-sound r kinds x h m k l in
    apart (slot_low kinds r k) (x k) (slot_high kinds r k) b.0 b.1 p
  where
    apart : (a y b : ℤ) → a ≤ℤ y → y ≤ℤ b → b <ℤ a → ⊥
    apart a y b p q r = omega (arith, ints)

strong-meets : (m : HalfMatrix) (s : ℕ → ℕ → Option ℤ) (x : ℕ → ℤ) → AreLeastWeights (entry m) (nodes m) s → Meets (nodes m) (entry m) x → Meets (nodes m) (strong s) x
strong-meets m s x h p = strong-sound (tightened s) (length m.kinds) x (tight-sound s (nodes m) x (least-sound (entry m) s (nodes m) x h p))

closed-meets : (m : HalfMatrix) (s : ℕ → ℕ → Option ℤ) (x : ℕ → ℤ) → AreLeastWeights (entry m) (nodes m) s → Meets (nodes m) (entry m) x → Meets (nodes m) (closed_entry s) x
closed-meets m s x h p i j hi hj = cut-sound (strong s i j) (node_value x j -ℤ node_value x i) (strong-meets m s x h p i j hi hj)

-- every state that meets the bounds meets the closed ones
pub close-sound : (m : HalfMatrix) (c : Closed) (x : ℕ → ℤ) → IsCloseOf m c → AreInSlots m.kinds x → Meets (nodes m) (entry m) x → IsMetBy c x
close-sound m Empty x (inl z) h p = negative-sound (entry m) (nodes m) x p z
close-sound m Empty x (inr (s, e)) h p = cause e.cause
  where
    cause : IsContradictory (nodes m) (tightened s) ⊎ (IsTooLow (nodes m) (strong s) ⊎ HasEmptyRange m.kinds (closed_entry s)) → ⊥
    cause (inl z) = contradictory-sound (tightened s) (length m.kinds) x (tight-sound s (nodes m) x (least-sound (entry m) s (nodes m) x e.weights p)) z
    cause (inr (inl z)) = too_low-sound (strong s) m.kinds x h (strong-meets m s x e.weights p) z
    cause (inr (inr z)) = empty_range-sound (closed_entry s) m.kinds x h (closed-meets m s x e.weights p) z
close-sound m (Matrix r) x (s, e) h p =
    λ i j hi hj.
    let n : length r.kinds ≡ length m.kinds = ap length e.entries.same_kinds in
    let li : i < nodes m = omega arith in
    let lj : j < nodes m = omega arith in
    rw (e.entries.entries i j li lj) (closed-meets m s x e.weights p i j li lj)

pub close-limited : (m : HalfMatrix) (c : Closed) → IsCloseOf m c → IsLimitedAnswer c
close-limited m Empty p = tt
close-limited m (Matrix r) (s, e) = IsLimited-entries m.kinds (closed_entry s) r (2 ^ 64)
    (λ i l. closed-diagonal s (nodes m) i l (least-diagonal (entry m) s (nodes m) i l e.sound e.weights) e.consistent)
    (closed-within s (nodes m) e.in_range) e.entries

pub close-kinds : (m : HalfMatrix) (c : Closed) → IsCloseOf m c → KeepsKinds m c
close-kinds m Empty p = tt
close-kinds m (Matrix r) (s, e) = e.entries.same_kinds

-- ---- nothing is gained: values within the slots' extremes that meet the closed bounds meet the matrix

even_down-below : (a : Option ℤ) → AtMost (even_down a) a
even_down-below None = tt
even_down-below (Some (pos n)) = omega (arith, ints)
even_down-below (Some (negsuc n)) = omega (arith, ints)

tightened-below : (s : ℕ → ℕ → Option ℤ) (i j : ℕ) → AtMost (tightened s i j) (s i j)
tightened-below s i j = elim (is_single i j) as (λ v. AtMost (cond v (even_down (s i j)) (s i j)) (s i j)) [
  | true ↦ even_down-below (s i j)
  | false ↦ AtMost-refl (s i j)
]

-- the entry itself is the weight of the walk of one step
least-below : (w s : ℕ → ℕ → Option ℤ) (n i j : ℕ) → i < n → j < n → AreLeastWeights w n s → AtMost (s i j) (w i j)
least-below w s n i j hi hj h = subst (λ v. AtMost (s i j) v) (add_weight-zero (w i j)) (h.lower i j (j ∷ []) hi hj (record { inside = (hj, tt); ends = refl }))

strong-below : (w s : ℕ → ℕ → Option ℤ) (n i j : ℕ) → i < n → j < n → AreLeastWeights w n s → AtMost (strong s i j) (w i j)
strong-below w s n i j hi hj h =
    AtMost-trans (strong s i j) (tightened s i j) (w i j) (least-left (tightened s i j) (half (add_weight (tightened s i (flip i)) (tightened s (flip j) j))))
    (AtMost-trans (tightened s i j) (s i j) (w i j) (tightened-below s i j) (least-below w s n i j hi hj h))

uncut : (d : ℤ) (a : Option ℤ) → d ≤ℤ pos (2 ^ 64) → AtMost (Some d) (cut a) → AtMost (Some d) a
uncut d None l p = tt
uncut d (Some b) l p = by_test (int_lt b (pos (2 ^ 64))) refl p
  where
    by_test : (t : Bool) → int_lt b (pos (2 ^ 64)) ≡ t → AtMost (Some d) (cond t (Some b) None) → d ≤ℤ b
    by_test true e q = q
    by_test false e q = at_least d b l (grind (arith, ints))
      where
        at_least : (d b : ℤ) → d ≤ℤ pos (2 ^ 64) → pos (2 ^ 64) ≤ℤ b → d ≤ℤ b
        at_least d b p q = omega (arith, ints)

difference-within : (kinds : List Bool) (x : ℕ → ℤ) → AreInSlots kinds x → (i j : ℕ) → i < 2 * length kinds → j < 2 * length kinds → (node_value x j -ℤ node_value x i) ≤ℤ pos (2 ^ 64)
difference-within kinds x h i j hi hj =
    let a : (neg_ℤ (pos (2 ^ 63)) ≤ℤ node_value x i) × (node_value x i ≤ℤ pos (2 ^ 63)) = node-within kinds x h i hi in
    let b : (neg_ℤ (pos (2 ^ 63)) ≤ℤ node_value x j) × (node_value x j ≤ℤ pos (2 ^ 63)) = node-within kinds x h j hj in
    within (node_value x i) (node_value x j) a.0 b.1
  where
    within : (y z : ℤ) → neg_ℤ (pos (2 ^ 63)) ≤ℤ y → z ≤ℤ pos (2 ^ 63) → (z -ℤ y) ≤ℤ pos (2 ^ 64)
    within y z p q = omega (arith, ints)

closed-back : (m : HalfMatrix) (s : ℕ → ℕ → Option ℤ) (x : ℕ → ℤ) → AreLeastWeights (entry m) (nodes m) s → AreInSlots m.kinds x → Meets (nodes m) (closed_entry s) x → IsSatisfiedBy m x
closed-back m s x h a p i j hi hj =
    AtMost-trans (Some (node_value x j -ℤ node_value x i)) (strong s i j) (entry m i j)
    (uncut (node_value x j -ℤ node_value x i) (strong s i j) (difference-within m.kinds x a i j hi hj) (p i j hi hj))
    (strong-below (entry m) s (nodes m) i j hi hj h)

close-back : (m : HalfMatrix) (c : Closed) (x : ℕ → ℤ) → IsCloseOf m c → AreInSlots m.kinds x → IsMetBy c x → IsSatisfiedBy m x
close-back m Empty x p a q = absurd q
close-back m (Matrix r) x (s, e) a q = closed-back m s x e.weights a (Meets-from_entries m.kinds (closed_entry s) r x e.entries q)

pub close-meaning : (m : HalfMatrix) (c : Closed) → IsCloseOf m c → KeepsMeaning m c
close-meaning m c p x a = (close-sound m c x p a, close-back m c x p a)

-- ---- halves

even_double : (a : Option ℤ) (y : ℤ) → even_down a ≡ Some y → (z : ℤ) × (z +ℤ z ≡ y)
even_double None y e = absurd (let f : ⊥ = cc in f)
even_double (Some (pos n)) y e = (pos (n / 2), (let f : pos n -ℤ pos (n % 2) ≡ y = cc in omega (arith, ints)))
even_double (Some (negsuc n)) y e = (negsuc (n / 2), (let f : negsuc n -ℤ int_rem_euclid (negsuc n) (pos 2) ≡ y = cc in omega (arith, ints)))

half_double : (x h : ℤ) → h +ℤ h ≡ x → int_div_euclid x (pos 2) ≡ h
half_double (pos n) h e = omega (arith, ints)
half_double (negsuc n) h e = omega (arith, ints)

half_sum : (a b : Option ℤ) (x : ℤ) → add_weight (even_down a) (even_down b) ≡ Some x → (h : ℤ) × (half (Some x) ≡ Some h) × (h +ℤ h ≡ x)
half_sum None b x e = absurd (let f : ⊥ = cc in f)
half_sum (Some y) None x e = absurd (let f : ⊥ = cc in f)
half_sum (Some y) (Some z) x e =
    let p : (k : ℤ) × (k +ℤ k ≡ y -ℤ int_rem_euclid y (pos 2)) = even_double (Some y) (y -ℤ int_rem_euclid y (pos 2)) refl in
    let q : (k : ℤ) × (k +ℤ k ≡ z -ℤ int_rem_euclid z (pos 2)) = even_double (Some z) (z -ℤ int_rem_euclid z (pos 2)) refl in
    let f : (y -ℤ int_rem_euclid y (pos 2)) +ℤ (z -ℤ int_rem_euclid z (pos 2)) ≡ x = cc in
    let g : (p.0 +ℤ q.0) +ℤ (p.0 +ℤ q.0) ≡ x = twice p.0 q.0 (y -ℤ int_rem_euclid y (pos 2)) (z -ℤ int_rem_euclid z (pos 2)) x p.1 q.1 f in
    (p.0 +ℤ q.0, ap Some (half_double x (p.0 +ℤ q.0) g), g)
  where
    twice : (k l y z x : ℤ) → k +ℤ k ≡ y → l +ℤ l ≡ z → y +ℤ z ≡ x → (k +ℤ l) +ℤ (k +ℤ l) ≡ x
    twice k l y z x p q r = omega (arith, ints)

pub halves-exact : HalvesAreExact
halves-exact s i j x e = half_sum (s i (flip i)) (s (flip j) j) x
    (sym (ap (λ v. add_weight v (tightened s (flip j) j)) (single_down s i (flip i) refl)
    ∙ ap (add_weight (even_down (s i (flip i)))) (single_down s (flip j) j (sym (flip-flip j)))) ∙ e)

least-at_most : (w s t : ℕ → ℕ → Option ℤ) (n : ℕ) → AreLeastWeights w n s → AreLeastWeights w n t → (i j : ℕ) → i < n → j < n → AtMost (s i j) (t i j)
least-at_most w s t n p q i j hi hj = by_entry (t i j) refl
  where
    by_entry : (a : Option ℤ) → t i j ≡ a → AtMost (s i j) (t i j)
    by_entry None e = rw e tt
    by_entry (Some y) e = let h : (xs : List ℕ) × IsWalk n i xs j × (walk_weight w i xs ≡ Some y) = q.walks i j y hi hj e in
        subst (λ v. AtMost (s i j) v) (h.2 ∙ sym e) (p.lower i j h.0 hi hj h.1)

pub least-unique : (w s t : ℕ → ℕ → Option ℤ) (n : ℕ) → AreLeastWeights w n s → AreLeastWeights w n t → Agree n s t
least-unique w s t n p q i j hi hj = AtMost-both (s i j) (t i j) (least-at_most w s t n p q i j hi hj) (least-at_most w t s n q p i j hi hj)

tightened-agree : (n : ℕ) (f g : ℕ → ℕ → Option ℤ) → Agree n f g → Agree n (tightened f) (tightened g)
tightened-agree n f g a i j hi hj = ap (λ v. cond (is_single i j) (even_down v) v) (a i j hi hj)

strong-agree : (h : ℕ) (f g : ℕ → ℕ → Option ℤ) → Agree (2 * h) f g → Agree (2 * h) (strong f) (strong g)
strong-agree h f g a = strengthened-agree h (tightened f) (tightened g) (tightened-agree (2 * h) f g a)

closed-agree : (h : ℕ) (f g : ℕ → ℕ → Option ℤ) → Agree (2 * h) f g → Agree (2 * h) (closed_entry f) (closed_entry g)
closed-agree h f g a i j hi hj = ap cut (strong-agree h f g a i j hi hj)

between : (a : Option ℤ) (x y : ℤ) → AtMost (Some x) a → AtMost a (Some y) → x ≤ℤ y
between a x y p q = AtMost-trans (Some x) a (Some y) p q

-- Empty and a matrix are never both answers
not_both : (m r : HalfMatrix) → IsCloseOf m Empty → IsCloseOf m (Matrix r) → ⊥
not_both m r (inl z) (t, f) =
    let p : pos 0 ≤ℤ negsuc 0 = between (walk_weight (entry m) z.0 z.2.0) (pos 0) (negsuc 0) (f.sound z.0 z.2.0 z.1 z.2.1) z.2.2 in omega (arith, ints)
not_both m r (inr (s, e)) (t, f) = cause e.cause
  where
    same : Agree (nodes m) s t
    same = least-unique (entry m) s t (nodes m) e.weights f.weights

    cause : IsContradictory (nodes m) (tightened s) ⊎ (IsTooLow (nodes m) (strong s) ⊎ HasEmptyRange m.kinds (closed_entry s)) → ⊥
    cause (inl z) = let y : IsContradictory (nodes m) (tightened t) = contradictory-agree (length m.kinds) (tightened s) (tightened t) (tightened-agree (nodes m) s t same) z in
        let p : pos 0 ≤ℤ negsuc 0 = between (add_weight (tightened t y.0 (flip y.0)) (tightened t (flip y.0) y.0)) (pos 0) (negsuc 0) (f.consistent y.0 y.1.0) y.1.1 in omega (arith, ints)
    cause (inr (inl z)) = let y : IsTooLow (nodes m) (strong t) = too_low-agree (nodes m) (strong s) (strong t) (strong-agree (length m.kinds) s t same) z in
        let p : neg_ℤ (pos (2 ^ 64)) ≤ℤ negsuc (2 ^ 64) = between (strong t y.0 y.1) (neg_ℤ (pos (2 ^ 64))) (negsuc (2 ^ 64)) (f.in_range y.0 y.1 y.2.0 y.2.1) y.2.2 in omega (arith, ints)
    cause (inr (inr z)) = let y : HasEmptyRange m.kinds (closed_entry t) = empty_range-agree m.kinds (closed_entry s) (closed_entry t) (closed-agree (length m.kinds) s t same) z in
        crossed (slot_high m.kinds (closed_entry t) y.0) (slot_low m.kinds (closed_entry t) y.0) y.1.1 (f.ranges y.0 y.1.0)

-- a matrix has one close
pub close-unique : (m : HalfMatrix) (c d : Closed) → IsCloseOf m c → IsCloseOf m d → c ≡ d
close-unique m Empty Empty p q = refl
close-unique m Empty (Matrix r) p q = absurd (not_both m r p q)
close-unique m (Matrix r) Empty p q = absurd (not_both m r q p)
close-unique m (Matrix a) (Matrix b) (s, e) (t, f) = ap Matrix
    (HasEntries-one m.kinds (closed_entry t) a b
    (HasEntries-change m.kinds m.kinds (closed_entry s) (closed_entry t) a refl (closed-agree (length m.kinds) s t (least-unique (entry m) s t (nodes m) e.weights f.weights)) e.entries)
    f.entries)

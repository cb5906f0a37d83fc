use Rattle.std.specs.Prelude.{◌≡◌, ℕ, ◌<◌, ◌*◌, ◌^◌, ℤ, pos, negsuc, neg_ℤ, ◌≤ℤ◌, Option, Some, None, Bool, true, false, cond, int_lt, List, length, refl}
use Rattle.std.proofs.Common.{arith, ap, sym, subst, inr}
use Rattle.std.proofs.lemmas.Int.{ints}
use Rattle.dbm_close.specs.declared.closed.Closed.{Closed}
use Rattle.dbm_close.specs.declared.closed.Closed.TheVariants.{Empty, Matrix}
use Rattle.dbm_close.proofs.StrongLemmas.{empty_range-agree}
use Rattle.dbm_close.specs.Close.{HasEmptyRange, IsCloseOf, IsNotTooLow, IsTooLow, closed_entry, strong}
use Rattle.dbm_close.specs.Finish.{IsFinishOf, IsFinishedTo}
use Rattle.dbm_close.specs.Rounds.{HasLeastWeights}
use Rattle.dbm_close.specs.Steps.{cut}
use Rattle.dbm_core.specs.Half.{HalfMatrix, HasEntries, entry, nodes}
use Rattle.dbm_core.specs.Weights.{AtMost}

pub close-from_finish : (m s : HalfMatrix) (c : Closed) → HasLeastWeights m s → IsFinishOf s.kinds (entry s) c → IsCloseOf m c
close-from_finish m s Empty h p =
    let q : IsFinishOf m.kinds (entry s) Empty = subst (λ k. IsFinishOf k (entry s) Empty) h.same_kinds p in
    inr (entry s, record { weights = h.weights; cause = q })
close-from_finish m s (Matrix r) h p =
    let q : IsFinishedTo m.kinds (entry s) r = subst (λ k. IsFinishedTo k (entry s) r) h.same_kinds p in
    (entry s, record { sound = h.sound; weights = h.weights; consistent = q.consistent; in_range = q.in_range; ranges = q.ranges; entries = q.entries })

pub empty_range-here : (kinds : List Bool) (f : ℕ → ℕ → Option ℤ) (r : HalfMatrix) → HasEntries kinds (closed_entry f) r → HasEmptyRange r.kinds (entry r) → HasEmptyRange kinds (closed_entry f)
empty_range-here kinds f r p z = empty_range-agree kinds (entry r) (closed_entry f) p.entries (subst (λ k. HasEmptyRange k (entry r)) p.same_kinds z)

-- a bound that is too low when it is cut was so before
pub cut-low : (a : Option ℤ) → AtMost (cut a) (Some (negsuc (2 ^ 64))) → AtMost a (Some (negsuc (2 ^ 64)))
cut-low None h = absurd h
cut-low (Some x) h = by (int_lt x (pos (2 ^ 64))) h
  where
    by : (t : Bool) → AtMost (cond t (Some x) None) (Some (negsuc (2 ^ 64))) → AtMost (Some x) (Some (negsuc (2 ^ 64)))
    by true h = h
    by false h = absurd h

pub cut-high : (a : Option ℤ) → AtMost (Some (neg_ℤ (pos (2 ^ 64)))) (cut a) → AtMost (Some (neg_ℤ (pos (2 ^ 64)))) a
cut-high None h = tt
cut-high (Some x) h = by (int_lt x (pos (2 ^ 64))) refl h
  where
    far : (x : ℤ) → int_lt x (pos (2 ^ 64)) ≡ false → neg_ℤ (pos (2 ^ 64)) ≤ℤ x
    far x e = grind (arith, ints)

    by : (t : Bool) → int_lt x (pos (2 ^ 64)) ≡ t → AtMost (Some (neg_ℤ (pos (2 ^ 64)))) (cond t (Some x) None) → AtMost (Some (neg_ℤ (pos (2 ^ 64)))) (Some x)
    by true e h = h
    by false e h = far x e

pub low-here : (kinds : List Bool) (f : ℕ → ℕ → Option ℤ) (r : HalfMatrix) → HasEntries kinds (closed_entry f) r → IsTooLow (nodes r) (entry r) → IsTooLow (2 * length kinds) (strong f)
low-here kinds f r p z =
    let e : nodes r ≡ 2 * length kinds = ap (λ k. 2 * length k) p.same_kinds in
    let q : IsTooLow (2 * length kinds) (entry r) = subst (λ n. IsTooLow n (entry r)) e z in
    (q.0, q.1, (q.2.0, q.2.1, cut-low (strong f q.0 q.1) (subst (λ x. AtMost x (Some (negsuc (2 ^ 64)))) (p.entries q.0 q.1 q.2.0 q.2.1) q.2.2)))

pub none_low-here : (kinds : List Bool) (f : ℕ → ℕ → Option ℤ) (r : HalfMatrix) → HasEntries kinds (closed_entry f) r → IsNotTooLow (nodes r) (entry r) → IsNotTooLow (2 * length kinds) (strong f)
none_low-here kinds f r p z i j hi hj =
    let e : nodes r ≡ 2 * length kinds = ap (λ k. 2 * length k) p.same_kinds in
    cut-high (strong f i j) (subst (λ x. AtMost (Some (neg_ℤ (pos (2 ^ 64)))) x) (p.entries i j hi hj) (z i j (subst (λ n. i < n) (sym e) hi) (subst (λ n. j < n) (sym e) hj)))

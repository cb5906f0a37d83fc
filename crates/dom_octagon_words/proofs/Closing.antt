-- A matrix above a closed one stays above it when it is closed, and closing what fits raises no bound.
use Rattle.std.specs.Prelude.{◌≡◌, ℕ, ◌<◌, ◌+◌, ◌*◌, ◌^◌, ℤ, pos, negsuc, neg_ℤ, int_lt, ◌≤ℤ◌, ◌<ℤ◌, Option, Some, None, Bool, true, false, not, cond, List, length, slice_index_or, ◌⊎◌}
use Rattle.std.specs.Int.{int_div_euclid, int_max, int_min}
use Rattle.std.proofs.Common.{refl, sym, ap, ◌∙◌, arith, subst, inl, inr}
use Rattle.std.proofs.lemmas.Bool.{and_parts}
use Rattle.std.proofs.lemmas.Int.{ints, clamps}
use Rattle.dbm_core.proofs.NodeLemmas.{flip_below}
use Rattle.dbm_core.proofs.WeightLemmas.{AtMost-refl, AtMost-trans, add_weight-mono, least-left}
use Rattle.dbm_core.specs.Half.{HalfMatrix, IsMatrix, entry, nodes}
use Rattle.dbm_core.specs.Limits.{AreAtMost, IsZeroAtMost}
use Rattle.dbm_core.specs.Nodes.{flip}
use Rattle.dbm_core.specs.Weights.{AtMost, add_weight}
use Rattle.dbm_close.proofs.CloseOfLemmas.{close_of-is}
use Rattle.dbm_close.proofs.HalvesLemmas.{half-mono, strong-entry}
use Rattle.dbm_close.specs.Close.{HasEmptyRange, IsCloseOf, IsContradictory, IsTooLow, closed_entry, slot_high, slot_low, strong}
use Rattle.dbm_close.specs.CloseOf.{close_of}
use Rattle.dbm_close.specs.Steps.{cut, extreme_high, extreme_low, half, range_high, range_low, tightened}
use Rattle.dbm_close.specs.Walks.{AreLeastWeights, HasNegativeWalk, HasNoNegativeWalk, IsWalk, walk_weight}
use Rattle.dbm_close.specs.declared.closed.Closed.{Closed}
use Rattle.dbm_close.specs.declared.closed.Closed.TheVariants.{Empty, Matrix}
use Rattle.dbm_incremental.proofs.ClosedLemmas.{cut-above, strong-above}
use Rattle.dbm_incremental.proofs.TriangleLemmas.{triangle-walk, weights-below}
use Rattle.dbm_incremental.specs.ClosedMatrices.{IsClosed, IsClosedFrom}
use Rattle.dom_octagon_meaning.proofs.Fitting.{FitsMatrix, fits-ready}
use Rattle.dom_octagon_meaning.specs.Covers.{in_limits}

-- no bound of a exceeds that of the state
abbrev pub IsBelow : HalfMatrix → Closed → Type 0
IsBelow a Empty = ⊥
IsBelow a (Matrix b) = (length a.kinds ≡ length b.kinds) × AreAtMost (nodes a) (entry a) (entry b)

-- the same, of states
abbrev pub AreBelow : Closed → Closed → Type 0
AreBelow Empty t = Unit {0}
AreBelow (Matrix a) t = IsBelow a t

-- ---- bounds cut, and the ends of ranges

cut-mono : (a b : Option ℤ) → AtMost a b → AtMost (cut a) (cut b)
cut-mono a None p = tt
cut-mono None (Some y) p = absurd p
cut-mono (Some x) (Some y) p = by (int_lt x (pos (2 ^ 64))) (int_lt y (pos (2 ^ 64))) refl refl
  where
    crossed : (x y z : ℤ) → x ≤ℤ y → int_lt x z ≡ false → int_lt y z ≡ true → ⊥
    crossed x y z p e f = grind (arith, ints)

    by : (s t : Bool) → int_lt x (pos (2 ^ 64)) ≡ s → int_lt y (pos (2 ^ 64)) ≡ t → AtMost (cond s (Some x) None) (cond t (Some y) None)
    by s false e f = tt
    by true true e f = p
    by false true e f = absurd (crossed x y (pos (2 ^ 64)) p e f)

-- below a bound within the limits nothing is cut
cut-below : (a b : Option ℤ) → AtMost a b → in_limits b ≡ true → AtMost (cut a) b
cut-below a None p h = tt
cut-below None (Some y) p h = absurd p
cut-below (Some x) (Some y) p h = by (int_lt x (pos (2 ^ 64))) refl
  where
    crossed : (x y z : ℤ) → x ≤ℤ y → int_lt x z ≡ false → int_lt y z ≡ true → ⊥
    crossed x y z p e f = grind (arith, ints)

    by : (s : Bool) → int_lt x (pos (2 ^ 64)) ≡ s → AtMost (cond s (Some x) None) (Some y)
    by true e = p
    by false e = absurd (crossed x y (pos (2 ^ 64)) p e (and_parts (not (int_lt y (neg_ℤ (pos (2 ^ 64))))) (int_lt y (pos (2 ^ 64))) h).1)

high-mono : (array : Bool) (a b : Option ℤ) → AtMost a b → range_high array a ≤ℤ range_high array b
high-mono array None None p = least (extreme_high array)
  where
    least : (e : ℤ) → e ≤ℤ e
    least e = omega (arith, ints)
high-mono array (Some x) None p = least (extreme_high array) (int_div_euclid x (pos 2))
  where
    least : (e d : ℤ) → int_min e d ≤ℤ e
    least e d = omega (arith, ints, clamps)
high-mono array None (Some y) p = absurd p
high-mono array (Some x) (Some y) p = least (extreme_high array) (int_div_euclid x (pos 2)) (int_div_euclid y (pos 2)) (half-mono (Some x) (Some y) p)
  where
    least : (e c d : ℤ) → c ≤ℤ d → int_min e c ≤ℤ int_min e d
    least e c d p = omega (arith, ints, clamps)

low-mono : (array : Bool) (a b : Option ℤ) → AtMost a b → range_low array b ≤ℤ range_low array a
low-mono array None None p = greatest (extreme_low array)
  where
    greatest : (e : ℤ) → e ≤ℤ e
    greatest e = omega (arith, ints)
low-mono array (Some x) None p = greatest (extreme_low array) (neg_ℤ (int_div_euclid x (pos 2)))
  where
    greatest : (e d : ℤ) → e ≤ℤ int_max e d
    greatest e d = omega (arith, ints, clamps)
low-mono array None (Some y) p = absurd p
low-mono array (Some x) (Some y) p = greatest (extreme_low array) (int_div_euclid x (pos 2)) (int_div_euclid y (pos 2)) (half-mono (Some x) (Some y) p)
  where
    greatest : (e c d : ℤ) → c ≤ℤ d → int_max e (neg_ℤ d) ≤ℤ int_max e (neg_ℤ c)
    greatest e c d p = omega (arith, ints, clamps)

not-negative : (v : Option ℤ) → AtMost (Some (pos 0)) v → AtMost v (Some (negsuc 0)) → ⊥
not-negative v p q = let z : pos 0 ≤ℤ negsuc 0 = AtMost-trans (Some (pos 0)) v (Some (negsuc 0)) p q in omega (arith, ints)

not-low : (v : Option ℤ) → AtMost (Some (neg_ℤ (pos (2 ^ 64)))) v → AtMost v (Some (negsuc (2 ^ 64))) → ⊥
not-low v p q = let z : neg_ℤ (pos (2 ^ 64)) ≤ℤ negsuc (2 ^ 64) = AtMost-trans (Some (neg_ℤ (pos (2 ^ 64)))) v (Some (negsuc (2 ^ 64))) p q in omega (arith, ints)

-- ---- a closed matrix a, with the bounds u before they were cut, below m

module _ (a m : HalfMatrix) (u : ℕ → ℕ → Option ℤ) (h : IsClosedFrom a u) (e : m.kinds ≡ a.kinds) (l : AreAtMost (nodes a) (entry a) (entry m)) where
  same : nodes m ≡ nodes a
  same = ap (λ ks. 2 * length ks) e

  zero : IsZeroAtMost (nodes a) u
  zero i hi = rw (h.strong.diagonal i hi) (AtMost-refl (Some (pos 0)))

  below : AreAtMost (nodes a) u (entry m)
  below i j hi hj = AtMost-trans (u i j) (entry a i j) (entry m i j) (rw (h.entries i j hi hj) (cut-above (u i j))) (l i j hi hj)

  sound : HasNoNegativeWalk (entry m) (nodes a)
  sound i xs hi b = subst (λ v. AtMost v (walk_weight (entry m) i xs)) (h.strong.diagonal i hi)
      (triangle-walk u (entry m) (nodes a) zero h.strong.triangles below i i xs hi hi b.inside b.ends)

  module _ (s : ℕ → ℕ → Option ℤ) (w : AreLeastWeights (entry m) (nodes a) s) where
    weights-over : AreAtMost (nodes a) u s
    weights-over i j hi hj = by (s i j) refl
      where
        by : (b : Option ℤ) → s i j ≡ b → AtMost (u i j) (s i j)
        by None q = rw q tt
        by (Some x) q =
            let f : (xs : List ℕ) × IsWalk (nodes a) i xs j × (walk_weight (entry m) i xs ≡ Some x) = w.walks i j x hi hj q in
            subst (λ v. AtMost (u i j) v) (f.2 ∙ sym q)
            (triangle-walk u (entry m) (nodes a) zero h.strong.triangles below i j f.0 hi hj f.1.inside f.1.ends)

    strong-over : AreAtMost (nodes a) u (strong s)
    strong-over = strong-above u s (length a.kinds) h.strong weights-over

    entries-over : AreAtMost (nodes a) (entry a) (closed_entry s)
    entries-over i j hi hj = subst (λ v. AtMost v (cut (strong s i j))) (sym (h.entries i j hi hj)) (cut-mono (u i j) (strong s i j) (strong-over i j hi hj))

    tight-over : AreAtMost (nodes a) u (tightened s)
    tight-over i j hi hj = AtMost-trans (u i j) (strong s i j) (tightened s i j) (strong-over i j hi hj) (least-left (tightened s i j) (half (add_weight (tightened s i (flip i)) (tightened s (flip j) j))))

    -- closing m does not find Empty
    not-emptied : IsContradictory (nodes a) (tightened s) ⊎ (IsTooLow (nodes a) (strong s) ⊎ HasEmptyRange a.kinds (closed_entry s)) → ⊥
    not-emptied (inl (i, (hi, p))) =
        let fi : flip i < nodes a = flip_below i (length a.kinds) hi in
        not-negative (add_weight (tightened s i (flip i)) (tightened s (flip i) i))
        (AtMost-trans (Some (pos 0)) (add_weight (u i (flip i)) (u (flip i) i)) (add_weight (tightened s i (flip i)) (tightened s (flip i) i))
        (subst (λ v. AtMost v (add_weight (u i (flip i)) (u (flip i) i))) (h.strong.diagonal i hi) (h.strong.triangles i (flip i) i hi fi hi))
        (add_weight-mono (u i (flip i)) (tightened s i (flip i)) (u (flip i) i) (tightened s (flip i) i) (tight-over i (flip i) hi fi) (tight-over (flip i) i fi hi)))
        p
    not-emptied (inr (inl p)) =
        not-low (strong s p.0 p.1) (AtMost-trans (Some (neg_ℤ (pos (2 ^ 64)))) (u p.0 p.1) (strong s p.0 p.1) (h.in_range p.0 p.1 p.2.0 p.2.1) (strong-over p.0 p.1 p.2.0 p.2.1)) p.2.2
    not-emptied (inr (inr (k, (hk, p)))) =
        let array : Bool = slice_index_or a.kinds k false in
        crossed (slot_low a.kinds (closed_entry s) k) (slot_low a.kinds (entry a) k) (slot_high a.kinds (entry a) k) (slot_high a.kinds (closed_entry s) k)
        (low-mono array (entry a (2 * k) (2 * k + 1)) (closed_entry s (2 * k) (2 * k + 1)) (entries-over (2 * k) (2 * k + 1) (omega arith) (omega arith)))
        (h.ranges k hk)
        (high-mono array (entry a (2 * k + 1) (2 * k)) (closed_entry s (2 * k + 1) (2 * k)) (entries-over (2 * k + 1) (2 * k) (omega arith) (omega arith)))
        p
      where
        crossed : (b c d e : ℤ) → b ≤ℤ c → c ≤ℤ d → d ≤ℤ e → e <ℤ b → ⊥
        crossed b c d e p q r f = omega (arith, ints)

  no-walk : HasNegativeWalk (entry m) (nodes a) → ⊥
  no-walk p = not-negative (walk_weight (entry m) p.0 p.2.0) (sound p.0 p.2.0 p.1 p.2.1) p.2.2

  answer-above : (c : Closed) → IsCloseOf m c → IsBelow a c
  answer-above Empty (inl p) = no-walk (subst (HasNegativeWalk (entry m)) same p)
  answer-above Empty (inr (s, p)) =
      not-emptied s (subst (λ n. AreLeastWeights (entry m) n s) same p.weights)
      (subst (λ ks. IsContradictory (2 * length ks) (tightened s) ⊎ (IsTooLow (2 * length ks) (strong s) ⊎ HasEmptyRange ks (closed_entry s))) e p.cause)
  answer-above (Matrix r) (s, p) =
      let n : length a.kinds ≡ length r.kinds = ap length (sym (p.entries.same_kinds ∙ e)) in
      let k : length m.kinds ≡ length a.kinds = ap length e in (
        n,
        λ i j hi hj. subst (λ v. AtMost (entry a i j) v) (sym (p.entries.entries i j (omega arith) (omega arith))) (entries-over s (subst (λ n. AreLeastWeights (entry m) n s) same p.weights) i j hi hj),
      )

-- what is above a closed matrix is still so when closed
pub close-above : (a m : HalfMatrix) → IsClosed a → IsMatrix m → IsZeroAtMost (nodes m) (entry m) → m.kinds ≡ a.kinds → AreAtMost (nodes a) (entry a) (entry m) → IsBelow a (close_of m)
close-above a m c t z e l = answer-above a m c.0 c.1 e l (close_of m) (close_of-is m t z)

-- ---- what fits, and is closed

answer-within : (kinds : List Bool) (m : HalfMatrix) (c : Closed) → FitsMatrix kinds m → IsCloseOf m c → AreBelow c (Matrix m)
answer-within kinds m Empty h p = tt
answer-within kinds m (Matrix r) h (s, p) =
    let n : length r.kinds ≡ length m.kinds = ap length p.entries.same_kinds in (
      n,
      λ i j hi hj.
          let li : i < nodes m = omega arith in
          let lj : j < nodes m = omega arith in
          subst (λ v. AtMost v (entry m i j)) (sym (p.entries.entries i j li lj))
          (cut-below (strong s i j) (entry m i j) (AtMost-trans (strong s i j) (s i j) (entry m i j) (strong-entry s i j) (weights-below (entry m) s (nodes m) p.weights i j li lj)) (h.limits i j li lj)),
    )

pub close-within : (kinds : List Bool) (m : HalfMatrix) → FitsMatrix kinds m → AreBelow (close_of m) (Matrix m)
close-within kinds m h = let r = fits-ready kinds m h in answer-within kinds m (close_of m) h (close_of-is m r.matrix r.diagonal)

-- Closing a closed matrix gives it again, and what keeps a matrix closed.
use Rattle.std.specs.Prelude.{◌≡◌, ℕ, ◌<◌, ◌*◌, ◌^◌, ℤ, pos, neg_ℤ, ◌≤ℤ◌, Option, Some, None, Bool, true, false, cond, int_lt, List, length, refl}
use Rattle.std.proofs.Common.{arith, ap, sym, ◌∙◌, subst, inl, inr}
use Rattle.std.proofs.lemmas.Bool.{cases_eq}
use Rattle.std.proofs.lemmas.Int.{ints}
use Rattle.dbm_close.proofs.LawLemmas.{least-diagonal}
use Rattle.dbm_close.proofs.StrongLemmas.{no_empty_range-agree}
use Rattle.dbm_close.specs.Close.{HasNoEmptyRange, IsCloseOf, IsNotContradictory, IsNotTooLow, closed_entry, strong}
use Rattle.dbm_close.specs.CloseOf.{least_below}
use Rattle.dbm_close.specs.declared.closed.Closed.TheVariants.{Matrix}
use Rattle.dbm_close.specs.Steps.{cut, even_down, half, tightened}
use Rattle.dbm_close.specs.Walks.{AreLeastWeights, HasNoNegativeWalk, IsWalk, walk_weight}
use Rattle.dbm_core.proofs.HalfLemmas.{entry-coherent}
use Rattle.dbm_core.proofs.NodeLemmas.{flip_below, flip-flip}
use Rattle.dbm_core.proofs.WeightLemmas.{AtMost-both, AtMost-refl, AtMost-trans, add_weight-mono, least-greatest}
use Rattle.dbm_core.specs.Half.{HalfMatrix, IsMatrix, entry, nodes}
use Rattle.dbm_core.specs.Limits.{AreAtMost, IsZeroAtMost}
use Rattle.dbm_core.specs.Nodes.{flip}
use Rattle.dbm_core.specs.Weights.{AtMost, add_weight}
use Rattle.dbm_incremental.proofs.ExistLemmas.{walked-weights}
use Rattle.dbm_incremental.proofs.InsertLemmas.{weights-coherent}
use Rattle.dbm_close.proofs.HalvesLemmas.{even_down-mono, half-mono, own-single, strong-entry, plain}
use Rattle.dbm_incremental.proofs.TightLemmas.{strong-strong}
use Rattle.dbm_incremental.proofs.TriangleLemmas.{triangle-walk, triangles-from_weights, weights-below}
use Rattle.dbm_incremental.specs.ClosedMatrices.{IsClosed, IsStrong}
use Rattle.dbm_incremental.specs.Triangles.{AreSoundWeights}

pub cut-above : (a : Option ℤ) → AtMost a (cut a)
cut-above None = tt
cut-above (Some x) = elim (int_lt x (pos (2 ^ 64))) as (λ v. AtMost (Some x) (cond v (Some x) None)) [ true ↦ AtMost-refl (Some x) | false ↦ tt ]

-- what lies between a bound and the bound cut is cut to the same
cut-between : (a b : Option ℤ) → AtMost a b → AtMost b (cut a) → cut b ≡ cut a
cut-between None None p q = refl
cut-between None (Some y) p q = absurd p
cut-between (Some x) b p q = by_test (int_lt x (pos (2 ^ 64))) refl
  where
    by_test : (t : Bool) → int_lt x (pos (2 ^ 64)) ≡ t → cut b ≡ cut (Some x)
    by_test true e = ap cut (AtMost-both b (Some x) (subst (λ v. AtMost b (cond v (Some x) None)) e q) p)
    by_test false e = above b p ∙ sym (rw e refl)
      where
        above : (b : Option ℤ) → AtMost (Some x) b → cut b ≡ None
        above None h = refl
        above (Some y) h = let f : int_lt y (pos (2 ^ 64)) ≡ false = beyond x y h e in rw f refl
          where
            beyond : (x y : ℤ) → x ≤ℤ y → int_lt x (pos (2 ^ 64)) ≡ false → int_lt y (pos (2 ^ 64)) ≡ false
            beyond x y p e = grind (arith, ints)

-- entries at least a strong matrix's stay so when they are tightened and strengthened
tightened-above : (u s : ℕ → ℕ → Option ℤ) (n : ℕ) → IsStrong n u → AreAtMost n u s → (i : ℕ) → i < n → flip i < n → AtMost (u i (flip i)) (tightened s i (flip i))
tightened-above u s n h l i hi fi = subst (λ v. AtMost (u i (flip i)) v) (sym (own-single s i))
    (subst (λ v. AtMost v (even_down (s i (flip i)))) (h.evens i hi) (even_down-mono (u i (flip i)) (s i (flip i)) (l i (flip i) hi fi)))

tightened-behind : (u s : ℕ → ℕ → Option ℤ) (n : ℕ) → IsStrong n u → AreAtMost n u s → (j : ℕ) → j < n → flip j < n → AtMost (u (flip j) j) (tightened s (flip j) j)
tightened-behind u s n h l j hj fj = subst (λ k. AtMost (u (flip j) k) (tightened s (flip j) k)) (flip-flip j)
    (tightened-above u s n h l (flip j) fj (subst (λ k. k < n) (sym (flip-flip j)) hj))

pub strong-above : (u s : ℕ → ℕ → Option ℤ) (k : ℕ) → IsStrong (2 * k) u → AreAtMost (2 * k) u s → AreAtMost (2 * k) u (strong s)
strong-above u s k h l i j hi hj = least-greatest (u i j) (tightened s i j) (half (add_weight (tightened s i (flip i)) (tightened s (flip j) j)))
    (elim (cases_eq j (flip i)) [
      | inl e ↦ subst (λ x. AtMost (u i x) (tightened s i x)) (sym e) (tightened-above u s (2 * k) h l i hi fi)
      | inr e ↦ subst (λ v. AtMost (u i j) v) (sym (plain s i j e)) (l i j hi hj)
    ])
    (AtMost-trans (u i j) (half (add_weight (u i (flip i)) (u (flip j) j))) (half (add_weight (tightened s i (flip i)) (tightened s (flip j) j))) (h.halves i j hi hj)
    (half-mono (add_weight (u i (flip i)) (u (flip j) j)) (add_weight (tightened s i (flip i)) (tightened s (flip j) j))
    (add_weight-mono (u i (flip i)) (tightened s i (flip i)) (u (flip j) j) (tightened s (flip j) j) (tightened-above u s (2 * k) h l i hi fi) (tightened-behind u s (2 * k) h l j hj fj))))
  where
    fi : flip i < 2 * k
    fi = flip_below i k hi

    fj : flip j < 2 * k
    fj = flip_below j k hj

-- a closed matrix is its own closing
pub closed-close : (m : HalfMatrix) → IsClosed m → IsCloseOf m (Matrix m)
closed-close m (u, h) = (
  s,
  record {
    sound = none_negative;
    weights = p.weights;
    consistent = λ i hi. AtMost-trans (Some (pos 0)) (add_weight (u i (flip i)) (u (flip i) i)) (add_weight (tightened s i (flip i)) (tightened s (flip i) i))
        (subst (λ v. AtMost v (add_weight (u i (flip i)) (u (flip i) i))) (h.strong.diagonal i hi) (h.strong.triangles i (flip i) i hi (flip_below i (length m.kinds) hi) hi))
        (add_weight-mono (u i (flip i)) (tightened s i (flip i)) (u (flip i) i) (tightened s (flip i) i)
        (tightened-above u s (nodes m) h.strong above i hi (flip_below i (length m.kinds) hi))
        (tightened-behind u s (nodes m) h.strong above i hi (flip_below i (length m.kinds) hi)));
    in_range = λ i j hi hj. AtMost-trans (Some (neg_ℤ (pos (2 ^ 64)))) (u i j) (strong s i j) (h.in_range i j hi hj) (strong-above u s (length m.kinds) h.strong above i j hi hj);
    ranges = no_empty_range-agree m.kinds (entry m) (closed_entry s) same h.ranges;
    entries = record { matrix = h.matrix; same_kinds = refl; entries = same };
  },
)
  where
    below : AreAtMost (nodes m) u (entry m)
    below i j hi hj = rw (h.entries i j hi hj) (cut-above (u i j))

    low : IsZeroAtMost (nodes m) u
    low i hi = rw (h.strong.diagonal i hi) (AtMost-refl (Some (pos 0)))

    zero : IsZeroAtMost (nodes m) (entry m)
    zero i hi = rw (h.entries i i hi hi) (rw (h.strong.diagonal i hi) (AtMost-refl (Some (pos 0))))

    none_negative : HasNoNegativeWalk (entry m) (nodes m)
    none_negative i xs hi b = subst (λ v. AtMost v (walk_weight (entry m) i xs)) (h.strong.diagonal i hi)
        (triangle-walk u (entry m) (nodes m) low h.strong.triangles below i i xs hi hi b.inside b.ends)

    s : ℕ → ℕ → Option ℤ
    s = least_below (entry m) (nodes m)

    p : AreSoundWeights (entry m) (nodes m) s
    p = walked-weights (entry m) (nodes m) zero none_negative

    above : AreAtMost (nodes m) u s
    above i j hi hj = by_entry (s i j) refl
      where
        by_entry : (a : Option ℤ) → s i j ≡ a → AtMost (u i j) (s i j)
        by_entry None e = rw e tt
        by_entry (Some x) e =
            let f : (xs : List ℕ) × IsWalk (nodes m) i xs j × (walk_weight (entry m) i xs ≡ Some x) = p.weights.walks i j x hi hj e in
            subst (λ v. AtMost (u i j) v) (f.2 ∙ sym e)
            (triangle-walk u (entry m) (nodes m) low h.strong.triangles below i j f.0 hi hj f.1.inside f.1.ends)

    same : (i j : ℕ) → i < nodes m → j < nodes m → entry m i j ≡ closed_entry s i j
    same i j hi hj = h.entries i j hi hj ∙ sym (cut-between (u i j) (strong s i j) (strong-above u s (length m.kinds) h.strong above i j hi hj)
        (subst (λ v. AtMost (strong s i j) v) (h.entries i j hi hj)
        (AtMost-trans (strong s i j) (s i j) (entry m i j) (strong-entry s i j) (weights-below (entry m) s (nodes m) p.weights i j hi hj))))

strong-of : (m : HalfMatrix) (s : ℕ → ℕ → Option ℤ) → IsMatrix m → HasNoNegativeWalk (entry m) (nodes m) → AreLeastWeights (entry m) (nodes m) s → IsNotContradictory (nodes m) (tightened s) → IsStrong (nodes m) (strong s)
strong-of m s t z w c = strong-strong s (length m.kinds) (weights-coherent (entry m) s (length m.kinds) (entry-coherent m t) w)
    (λ i hi. least-diagonal (entry m) s (nodes m) i hi z w) (triangles-from_weights (entry m) s (nodes m) w) c

-- closing gives closed matrices
pub close-closed : (m r : HalfMatrix) → IsMatrix m → IsCloseOf m (Matrix r) → IsClosed r
close-closed m r t (s, e) =
    let n : length r.kinds ≡ length m.kinds = ap length e.entries.same_kinds in
    let k : nodes m ≡ nodes r = ap (λ x. 2 * x) (sym n) in (
      strong s,
      record {
        matrix = e.entries.matrix;
        strong = subst (λ x. IsStrong x (strong s)) k (strong-of m s t e.sound e.weights e.consistent);
        in_range = subst (λ x. IsNotTooLow x (strong s)) k e.in_range;
        ranges = no_empty_range-agree r.kinds (closed_entry s) (entry r) (λ i j hi hj. sym (e.entries.entries i j (omega arith) (omega arith)))
            (subst (λ x. HasNoEmptyRange x (closed_entry s)) (sym e.entries.same_kinds) e.ranges);
        entries = λ i j hi hj. e.entries.entries i j (omega arith) (omega arith);
      },
    )

-- Tightened and strengthened once, least weights obey the triangle law again.
use Rattle.std.specs.Prelude.{◌≡◌, ℕ, ◌<◌, ◌*◌, ℤ, pos, ◌+ℤ◌, ◌-ℤ◌, ◌≤ℤ◌, Option, Some, None, refl}
use Rattle.std.specs.Int.{int_rem_euclid}
use Rattle.std.proofs.Common.{arith, ap, sym, ◌∙◌, subst}
use Rattle.std.proofs.lemmas.Int.{ints}
use Rattle.dbm_close.proofs.HalvesLemmas.{even-halves, even-number, even-twice, half-sum, half_own, halved, halved-high, halved-low, own-behind, own-single, single_down, strong-cases, strong-entry, strong-halves, strong-own}
use Rattle.dbm_close.proofs.StrongLemmas.{strengthened-coherent, tightened-coherent}
use Rattle.dbm_close.specs.Close.{IsNotContradictory, strong}
use Rattle.dbm_close.specs.Steps.{even_down, half, tightened}
use Rattle.dbm_core.proofs.NodeLemmas.{flip_below, flip-flip}
use Rattle.dbm_core.proofs.WeightLemmas.{AtMost-both, AtMost-refl, AtMost-trans, add_weight-assoc, add_weight-comm, add_weight-mono, least-greatest, least-left}
use Rattle.dbm_core.specs.Limits.{HasZeroDiagonal}
use Rattle.dbm_core.specs.Nodes.{IsCoherent, flip}
use Rattle.dbm_core.specs.Weights.{AtMost, add_weight, least}
use Rattle.dbm_incremental.specs.ClosedMatrices.{IsStrong}
use Rattle.dbm_incremental.specs.Triangles.{IsTriangular}

half-step : (p x q : Option ℤ) → AtMost p (add_weight x (add_weight q x)) → AtMost (half p) (add_weight x (half q))
half-step p None q h = tt
half-step p (Some x) None h = tt
half-step None (Some x) (Some q) h = absurd h
half-step (Some p) (Some x) (Some q) h = below p x q (halved p) (halved q) h (halved-low p) (halved-high q)
  where
    below : (p x q h k : ℤ) → p ≤ℤ (x +ℤ (q +ℤ x)) → (h +ℤ h) ≤ℤ p → q ≤ℤ ((k +ℤ k) +ℤ pos 1) → h ≤ℤ (x +ℤ k)
    below p x q h k a b c = omega (arith, ints)

pub halves_below : (k l y z : ℤ) → y ≡ k +ℤ k → z ≡ l +ℤ l → pos 0 ≤ℤ (y +ℤ z) → pos 0 ≤ℤ (k +ℤ l)
halves_below k l y z p q r = omega (arith, ints)

not_negative : (a b : Option ℤ) → AtMost (Some (pos 0)) (add_weight (even_down a) (even_down b)) → AtMost (Some (pos 0)) (add_weight (half a) (half b))
not_negative None b h = tt
not_negative (Some x) None h = tt
not_negative (Some x) (Some y) h = halves_below (halved x) (halved y) (x -ℤ int_rem_euclid x (pos 2)) (y -ℤ int_rem_euclid y (pos 2)) (even-number x) (even-number y) h

front : (p q r v : Option ℤ) → AtMost p (add_weight q r) → AtMost (add_weight p v) (add_weight q (add_weight r v))
front p q r v h = subst (λ x. AtMost (add_weight p v) x) (add_weight-assoc q r v) (add_weight-mono p (add_weight q r) v v h (AtMost-refl v))

behind : (g p q x : Option ℤ) → AtMost p (add_weight x q) → AtMost (add_weight g p) (add_weight (add_weight g q) x)
behind g p q x h = subst (λ v. AtMost (add_weight g p) v) (ap (add_weight g) (add_weight-comm x q) ∙ sym (add_weight-assoc g q x))
    (add_weight-mono g g p (add_weight x q) (AtMost-refl g) h)

across : (g p q k : Option ℤ) → AtMost (Some (pos 0)) (add_weight q p) → AtMost (add_weight g k) (add_weight (add_weight g q) (add_weight p k))
across None p q k h = tt
across (Some g) p None k h = tt
across (Some g) None (Some q) k h = tt
across (Some g) (Some p) (Some q) None h = tt
across (Some g) (Some p) (Some q) (Some k) h = omega (arith, ints)

pub strong-triangular : (s : ℕ → ℕ → Option ℤ) (h : ℕ) → IsCoherent s (2 * h) → IsTriangular (2 * h) s → IsNotContradictory (2 * h) (tightened s) → IsTriangular (2 * h) (strong s)
strong-triangular s h c t z i k j hi hk hj =
    strong-cases s (λ x. AtMost (strong s i j) (add_weight x (strong s k j))) i k
    (strong-cases s (λ y. AtMost (strong s i j) (add_weight (s i k) y)) k j
    (AtMost-trans (strong s i j) (s i j) (add_weight (s i k) (s k j)) (strong-entry s i j) (t i k j hi hk hj))
    (own (add_weight (s i k) (half_own s k j)) (front (half (s i (flip i))) (s i k) (half (s k (flip k))) (half (s (flip j) j)) step_in)))
    (strong-cases s (λ y. AtMost (strong s i j) (add_weight (half_own s i k) y)) k j
    (own (add_weight (half_own s i k) (s k j)) (behind (half (s i (flip i))) (half (s (flip j) j)) (half (s (flip k) k)) (s k j) step_out))
    (own (add_weight (half_own s i k) (half_own s k j)) (across (half (s i (flip i))) (half (s k (flip k))) (half (s (flip k) k)) (half (s (flip j) j)) both)))
  where
    own : (v : Option ℤ) → AtMost (half_own s i j) v → AtMost (strong s i j) v
    own v h = AtMost-trans (strong s i j) (half_own s i j) v (strong-own s i j) h

    fi : flip i < 2 * h
    fi = flip_below i h hi

    fk : flip k < 2 * h
    fk = flip_below k h hk

    fj : flip j < 2 * h
    fj = flip_below j h hj

    step_in : AtMost (half (s i (flip i))) (add_weight (s i k) (half (s k (flip k))))
    step_in = half-step (s i (flip i)) (s i k) (s k (flip k))
        (subst (λ v. AtMost (s i (flip i)) (add_weight (s i k) (add_weight (s k (flip k)) v))) (sym (c i k hi hk))
        (AtMost-trans (s i (flip i)) (add_weight (s i k) (s k (flip i))) (add_weight (s i k) (add_weight (s k (flip k)) (s (flip k) (flip i)))) (t i k (flip i) hi hk fi)
        (add_weight-mono (s i k) (s i k) (s k (flip i)) (add_weight (s k (flip k)) (s (flip k) (flip i))) (AtMost-refl (s i k)) (t k (flip k) (flip i) hk fk fi))))

    step_out : AtMost (half (s (flip j) j)) (add_weight (s k j) (half (s (flip k) k)))
    step_out = half-step (s (flip j) j) (s k j) (s (flip k) k)
        (subst (λ v. AtMost (s (flip j) j) (add_weight v (add_weight (s (flip k) k) (s k j)))) (sym (c k j hk hj))
        (AtMost-trans (s (flip j) j) (add_weight (s (flip j) (flip k)) (s (flip k) j)) (add_weight (s (flip j) (flip k)) (add_weight (s (flip k) k) (s k j))) (t (flip j) (flip k) j fj fk hj)
        (add_weight-mono (s (flip j) (flip k)) (s (flip j) (flip k)) (s (flip k) j) (add_weight (s (flip k) k) (s k j)) (AtMost-refl (s (flip j) (flip k))) (t (flip k) k j fk hk hj))))

    both : AtMost (Some (pos 0)) (add_weight (half (s (flip k) k)) (half (s k (flip k))))
    both = subst (λ v. AtMost (Some (pos 0)) v) (add_weight-comm (half (s k (flip k))) (half (s (flip k) k)))
        (not_negative (s k (flip k)) (s (flip k) k)
        (subst (λ v. AtMost (Some (pos 0)) (add_weight v (even_down (s (flip k) k)))) (own-single s k)
        (subst (λ v. AtMost (Some (pos 0)) (add_weight (tightened s k (flip k)) v)) (own-behind s k) (z k hk))))

least-same : (a b : Option ℤ) → a ≡ b → least a b ≡ a
least-same a b e = AtMost-both (least a b) a (least-left a b) (least-greatest a a b (AtMost-refl a) (subst (λ v. AtMost a v) e (AtMost-refl a)))

-- a slot's own bound after both steps
pub strong-single : (s : ℕ → ℕ → Option ℤ) (i j : ℕ) → j ≡ flip i → strong s i j ≡ even_down (s i j)
strong-single s i j e = least-same (tightened s i j) (half (add_weight (tightened s i (flip i)) (tightened s (flip j) j))) (down ∙ sym (strong-halves s i j ∙ halves)) ∙ down
  where
    down : tightened s i j ≡ even_down (s i j)
    down = single_down s i j e

    halves : half_own s i j ≡ even_down (s i j)
    halves = ap (λ k. add_weight (half (s i k)) (half (s (flip j) j))) (sym e)
        ∙ ap (λ k. add_weight (half (s i j)) (half (s k j))) (ap flip e ∙ flip-flip i)
        ∙ sym (even-halves (s i j))

pub strong-strong : (s : ℕ → ℕ → Option ℤ) (h : ℕ) → IsCoherent s (2 * h) → HasZeroDiagonal (2 * h) s → IsTriangular (2 * h) s → IsNotContradictory (2 * h) (tightened s) → IsStrong (2 * h) (strong s)
strong-strong s h c o t z = record {
  coherent = strengthened-coherent (tightened s) h (tightened-coherent s (2 * h) c);
  diagonal = λ i hi. AtMost-both (strong s i i) (Some (pos 0)) (subst (λ v. AtMost (strong s i i) v) (o i hi) (strong-entry s i i))
      (strong-cases s (λ v. AtMost (Some (pos 0)) v) i i (rw (o i hi) (AtMost-refl (Some (pos 0))))
      (not_negative (s i (flip i)) (s (flip i) i)
      (subst (λ v. AtMost (Some (pos 0)) (add_weight v (even_down (s (flip i) i)))) (own-single s i)
      (subst (λ v. AtMost (Some (pos 0)) (add_weight (tightened s i (flip i)) v)) (own-behind s i) (z i hi)))));
  triangles = strong-triangular s h c t z;
  evens = λ i hi. ap even_down (strong-single s i (flip i) refl) ∙ even-twice (s i (flip i)) ∙ sym (strong-single s i (flip i) refl);
  halves = λ i j hi hj. subst (λ v. AtMost (strong s i j) v)
      (sym (ap (λ v. half (add_weight v (strong s (flip j) j))) (strong-single s i (flip i) refl)
      ∙ ap (λ v. half (add_weight (even_down (s i (flip i))) v)) (strong-single s (flip j) j (sym (flip-flip j)))
      ∙ half-sum (s i (flip i)) (s (flip j) j)))
      (strong-own s i j);
}

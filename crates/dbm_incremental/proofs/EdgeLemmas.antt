-- The least weights after an edge and its mirror image are lowered.
use Rattle.std.specs.Prelude.{ℕ, ◌<◌, ℤ, pos, Option, Some, None}
use Rattle.std.proofs.Common.{arith, ap, sym, ◌∙◌, subst}
use Rattle.std.proofs.lemmas.Int.{ints}
use Rattle.dbm_core.proofs.WeightLemmas.{AtMost-both, AtMost-refl, AtMost-trans, add_weight-assoc, add_weight-mono, least-cases, least-greatest, least-left, least-right}
use Rattle.dbm_core.specs.Limits.{AreAtMost, HasZeroDiagonal}
use Rattle.dbm_core.specs.Weights.{AtMost, add_weight}
use Rattle.dbm_incremental.proofs.TriangleLemmas.{IsReached, reached-edge, reached-least, reached-sum}
use Rattle.dbm_incremental.specs.Triangles.{IsTriangular, edged, via_edge}

front : (p q r v : Option ℤ) → AtMost p (add_weight q r) → AtMost (add_weight p v) (add_weight q (add_weight r v))
front p q r v h = subst (λ x. AtMost (add_weight p v) x) (add_weight-assoc q r v) (add_weight-mono p (add_weight q r) v v h (AtMost-refl v))

back : (p c q r s : Option ℤ) → AtMost s (add_weight q r) → AtMost (add_weight p (add_weight c s)) (add_weight (add_weight p (add_weight c q)) r)
back p c q r s h =
    subst (λ x. AtMost (add_weight p (add_weight c s)) x) (sym (add_weight-assoc p (add_weight c q) r ∙ ap (add_weight p) (add_weight-assoc c q r)))
    (add_weight-mono p p (add_weight c s) (add_weight c (add_weight q r)) (AtMost-refl p) (add_weight-mono c c s (add_weight q r) (AtMost-refl c) h))

twice : (p q u s : Option ℤ) (c : ℤ) → AtMost (Some (pos 0)) (add_weight (Some c) (add_weight q u)) →
    AtMost (add_weight p (add_weight (Some c) s)) (add_weight (add_weight p (add_weight (Some c) q)) (add_weight u (add_weight (Some c) s)))
twice None q u s c h = tt
twice (Some p) None u s c h = tt
twice (Some p) (Some q) None s c h = tt
twice (Some p) (Some q) (Some u) None c h = tt
twice (Some p) (Some q) (Some u) (Some s) c h = omega (arith, ints)

round_trip : (p q y : Option ℤ) (c : ℤ) → AtMost (Some (pos 0)) (add_weight (Some c) y) → AtMost y (add_weight q p) → AtMost (Some (pos 0)) (add_weight (Some c) (add_weight q p))
round_trip p q y c z h = AtMost-trans (Some (pos 0)) (add_weight (Some c) y) (add_weight (Some c) (add_weight q p)) z (add_weight-mono (Some c) (Some c) y (add_weight q p) (AtMost-refl (Some c)) h)

turned : (p q : Option ℤ) (c : ℤ) → AtMost (Some (pos 0)) (add_weight (Some c) (add_weight q p)) → AtMost (Some (pos 0)) (add_weight p (add_weight (Some c) q))
turned None q c h = tt
turned (Some p) None c h = tt
turned (Some p) (Some q) c h = omega (arith, ints)

-- the triangle law is kept where the edge closes no negative walk
pub edged-triangular : (d : ℕ → ℕ → Option ℤ) (n a b : ℕ) (c : ℤ) → a < n → b < n → IsTriangular n d → AtMost (Some (pos 0)) (add_weight (Some c) (d b a)) → IsTriangular n (edged d a b c)
edged-triangular d n a b c ha hb t z i k j hi hk hj =
    least-cases (λ x. AtMost (edged d a b c i j) (add_weight x (edged d a b c k j))) (d i k) (via_edge d a b c i k)
    (least-cases (λ y. AtMost (edged d a b c i j) (add_weight (d i k) y)) (d k j) (via_edge d a b c k j)
    (AtMost-trans (edged d a b c i j) (d i j) (add_weight (d i k) (d k j)) (least-left (d i j) (via_edge d a b c i j)) (t i k j hi hk hj))
    (over (add_weight (d i k) (via_edge d a b c k j)) (front (d i a) (d i k) (d k a) (add_weight (Some c) (d b j)) (t i k a hi hk ha))))
    (least-cases (λ y. AtMost (edged d a b c i j) (add_weight (via_edge d a b c i k) y)) (d k j) (via_edge d a b c k j)
    (over (add_weight (via_edge d a b c i k) (d k j)) (back (d i a) (Some c) (d b k) (d k j) (d b j) (t b k j hb hk hj)))
    (over (add_weight (via_edge d a b c i k) (via_edge d a b c k j)) (twice (d i a) (d b k) (d k a) (d b j) c (round_trip (d k a) (d b k) (d b a) c z (t b k a hb hk ha)))))
  where
    over : (v : Option ℤ) → AtMost (via_edge d a b c i j) v → AtMost (edged d a b c i j) v
    over v h = AtMost-trans (edged d a b c i j) (via_edge d a b c i j) v (least-right (d i j) (via_edge d a b c i j)) h

pub edged-below : (d : ℕ → ℕ → Option ℤ) (n a b : ℕ) (c : ℤ) → AreAtMost n (edged d a b c) d
edged-below d n a b c i j hi hj = least-left (d i j) (via_edge d a b c i j)

pub edged-diagonal : (d : ℕ → ℕ → Option ℤ) (n a b : ℕ) (c : ℤ) → a < n → b < n → IsTriangular n d → AtMost (Some (pos 0)) (add_weight (Some c) (d b a)) → HasZeroDiagonal n d → HasZeroDiagonal n (edged d a b c)
edged-diagonal d n a b c ha hb t z o i hi =
    AtMost-both (edged d a b c i i) (Some (pos 0))
    (subst (λ v. AtMost (edged d a b c i i) v) (o i hi) (least-left (d i i) (via_edge d a b c i i)))
    (least-greatest (Some (pos 0)) (d i i) (via_edge d a b c i i)
    (rw (o i hi) (AtMost-refl (Some (pos 0))))
    (turned (d i a) (d b i) c (round_trip (d i a) (d b i) (d b a) c z (t b i a hb hi ha))))

-- at its own ends the edge weighs c at most
pub edged-edge : (d : ℕ → ℕ → Option ℤ) (n a b : ℕ) (c : ℤ) → a < n → b < n → HasZeroDiagonal n d → AtMost (edged d a b c a b) (Some c)
edged-edge d n a b c ha hb o = AtMost-trans (edged d a b c a b) (via_edge d a b c a b) (Some c) (least-right (d a b) (via_edge d a b c a b))
    (rw (o a ha, o b hb) (omega (arith, ints)))

pub edged-reached : (v d : ℕ → ℕ → Option ℤ) (n a b : ℕ) (c : ℤ) → a < n → b < n → AtMost (v a b) (Some c) → ((i j : ℕ) → i < n → j < n → IsReached v n i j (d i j)) →
    (i j : ℕ) → i < n → j < n → IsReached v n i j (edged d a b c i j)
edged-reached v d n a b c ha hb l r i j hi hj =
    reached-least v n i j (d i j) (via_edge d a b c i j) (r i j hi hj)
    (reached-sum v n i a j (d i a) (add_weight (Some c) (d b j)) (r i a hi ha)
    (reached-sum v n a b j (Some c) (d b j) (reached-edge v n a b (Some c) hb l) (r b j hb hj)))

-- The least weights after a bound, and so its mirror image, is lowered.
use Rattle.std.specs.Prelude.{◌≡◌, ℕ, ◌<◌, ◌*◌, ℤ, pos, negsuc, Option, Some, None, List, [], ◌∷◌, refl}
use Rattle.std.proofs.Common.{ap, sym, subst, inl, inr}
use Rattle.dbm_close.specs.Walks.{AreLeastWeights, Below, HasNegativeWalk, IsWalk, walk_end, walk_weight}
use Rattle.dbm_core.proofs.LowerLemmas.{either_first, either_none, either_second, hits, lowered-below}
use Rattle.dbm_core.proofs.NodeLemmas.{flip_below, flip-flip}
use Rattle.dbm_core.proofs.WeightLemmas.{AtMost-both, AtMost-refl, AtMost-trans, add_weight-comm, least-greatest, least-right}
use Rattle.dbm_core.specs.Limits.{AreAtMost, HasZeroDiagonal, IsZeroAtMost}
use Rattle.dbm_core.specs.Nodes.{IsCoherent, flip}
use Rattle.dbm_core.specs.Operations.{lowered}
use Rattle.dbm_core.specs.Weights.{AtMost, add_weight}
use Rattle.dbm_incremental.proofs.EdgeLemmas.{edged-below, edged-diagonal, edged-edge, edged-reached, edged-triangular}
use Rattle.dbm_incremental.proofs.TriangleLemmas.{IsReached, reached-below, reached-edge, reached-sum, reached-weights, triangle-walk, triangles-from_weights, weights-below, weights-diagonal, weights-from_triangles}
use Rattle.dbm_incremental.specs.Triangles.{AreSoundWeights, IsTriangular, edged, inserted}
use Rattle.dbm_core.proofs.ValuationLemmas.{lowered-here}

pub below-lowered : (w e : ℕ → ℕ → Option ℤ) (n a b : ℕ) (c : ℤ) → AreAtMost n e w → AtMost (e a b) (Some c) → AtMost (e (flip b) (flip a)) (Some c) → AreAtMost n e (lowered w a b c)
unfolding lowered
below-lowered w e n a b c l p q i j hi hj = elim (hits a b i j) [
  | inl m ↦ rw (either_first a b (flip b) (flip a) i j m.0 m.1) (least-greatest (e i j) (w i j) (Some c) (l i j hi hj)
      (subst (λ x. AtMost (e x j) (Some c)) m.0 (subst (λ y. AtMost (e a y) (Some c)) m.1 p)))
  | inr m ↦ elim (hits (flip b) (flip a) i j) [
    | inl k ↦ rw (either_second a b (flip b) (flip a) i j k.0 k.1) (least-greatest (e i j) (w i j) (Some c) (l i j hi hj)
        (subst (λ x. AtMost (e x j) (Some c)) k.0 (subst (λ y. AtMost (e (flip b) y) (Some c)) k.1 q)))
    | inr k ↦ rw (either_none a b (flip b) (flip a) i j m k) (l i j hi hj)
  ]
]

pub lowered-second : (w : ℕ → ℕ → Option ℤ) (a b : ℕ) (c : ℤ) → AtMost (lowered w a b c (flip b) (flip a)) (Some c)
unfolding lowered
lowered-second w a b c = rw (either_second a b (flip b) (flip a) (flip b) (flip a) refl refl) (least-right (w (flip b) (flip a)) (Some c))

reached-first : (w s : ℕ → ℕ → Option ℤ) (n a b : ℕ) (c : ℤ) → AreLeastWeights w n s → (i j : ℕ) → i < n → j < n → IsReached (lowered w a b c) n i j (s i j)
reached-first w s n a b c h i j hi hj = reached-below (lowered w a b c) w n i j (s i j) (lowered-below w a b c n) hi (reached-weights w s n i j h hi hj)

reached-second : (w s : ℕ → ℕ → Option ℤ) (n a b : ℕ) (c : ℤ) → a < n → b < n → AreLeastWeights w n s → (i j : ℕ) → i < n → j < n → IsReached (lowered w a b c) n i j (edged s a b c i j)
reached-second w s n a b c ha hb h = edged-reached (lowered w a b c) s n a b c ha hb (lowered-here w a b c) (reached-first w s n a b c h)

reached-negative : (w : ℕ → ℕ → Option ℤ) (n i : ℕ) (v : Option ℤ) → i < n → IsReached w n i i v → AtMost v (Some (negsuc 0)) → HasNegativeWalk w n
reached-negative w n i None hi p z = absurd z
reached-negative w n i (Some x) hi p z =
    let f : (xs : List ℕ) × IsWalk n i xs i × AtMost (walk_weight w i xs) (Some x) = p x refl in
    (i, hi, (f.0, f.1, AtMost-trans (walk_weight w i f.0) (Some x) (Some (negsuc 0)) f.2 z))

-- the edge closes a negative walk
pub negative-first : (w s : ℕ → ℕ → Option ℤ) (n a b : ℕ) (c : ℤ) → a < n → b < n → AreLeastWeights w n s → AtMost (add_weight (Some c) (s b a)) (Some (negsuc 0)) → HasNegativeWalk (lowered w a b c) n
negative-first w s n a b c ha hb h z = reached-negative (lowered w a b c) n a (add_weight (Some c) (s b a)) ha
    (reached-sum (lowered w a b c) n a b a (Some c) (s b a) (reached-edge (lowered w a b c) n a b (Some c) hb (lowered-here w a b c)) (reached-first w s n a b c h b a hb ha)) z

-- the edge and its mirror image close one
pub negative-second : (w s : ℕ → ℕ → Option ℤ) (h a b : ℕ) (c : ℤ) → a < 2 * h → b < 2 * h → AreLeastWeights w (2 * h) s → AtMost (add_weight (Some c) (edged s a b c (flip a) (flip b))) (Some (negsuc 0)) → HasNegativeWalk (lowered w a b c) (2 * h)
negative-second w s h a b c ha hb p z =
    let fa : flip a < 2 * h = flip_below a h ha in
    let fb : flip b < 2 * h = flip_below b h hb in
    reached-negative (lowered w a b c) (2 * h) (flip b) (add_weight (Some c) (edged s a b c (flip a) (flip b))) fb
    (reached-sum (lowered w a b c) (2 * h) (flip b) (flip a) (flip b) (Some c) (edged s a b c (flip a) (flip b))
    (reached-edge (lowered w a b c) (2 * h) (flip b) (flip a) (Some c) fa (lowered-second w a b c))
    (reached-second w s (2 * h) a b c ha hb p (flip a) (flip b) fa fb)) z

-- else the update is exact
pub inserted-weights : (w s : ℕ → ℕ → Option ℤ) (h a b : ℕ) (c : ℤ) → a < 2 * h → b < 2 * h → AreSoundWeights w (2 * h) s →
    AtMost (Some (pos 0)) (add_weight (Some c) (s b a)) → AtMost (Some (pos 0)) (add_weight (Some c) (edged s a b c (flip a) (flip b))) →
    AreSoundWeights (lowered w a b c) (2 * h) (inserted s a b c)
inserted-weights w s h a b c ha hb p y z = record {
  weights = weights-from_triangles (lowered w a b c) (inserted s a b c) (2 * h) low triangular below
      (edged-reached (lowered w a b c) (edged s a b c) (2 * h) (flip b) (flip a) c fb fa (lowered-second w a b c) (reached-second w s (2 * h) a b c ha hb p.weights));
  sound = λ i xs hi k. subst (λ v. AtMost v (walk_weight (lowered w a b c) i xs)) (diagonal i hi)
      (triangle-walk (inserted s a b c) (lowered w a b c) (2 * h) low triangular below i i xs hi hi k.inside k.ends);
}
  where
    fa : flip a < 2 * h
    fa = flip_below a h ha

    fb : flip b < 2 * h
    fb = flip_below b h hb

    first : IsTriangular (2 * h) s
    first = triangles-from_weights w s (2 * h) p.weights

    zero : HasZeroDiagonal (2 * h) s
    zero = weights-diagonal w s (2 * h) p

    second : IsTriangular (2 * h) (edged s a b c)
    second = edged-triangular s (2 * h) a b c ha hb first y

    zeros : HasZeroDiagonal (2 * h) (edged s a b c)
    zeros = edged-diagonal s (2 * h) a b c ha hb first y zero

    triangular : IsTriangular (2 * h) (inserted s a b c)
    triangular = edged-triangular (edged s a b c) (2 * h) (flip b) (flip a) c fb fa second z

    diagonal : HasZeroDiagonal (2 * h) (inserted s a b c)
    diagonal = edged-diagonal (edged s a b c) (2 * h) (flip b) (flip a) c fb fa second z zeros

    low : IsZeroAtMost (2 * h) (inserted s a b c)
    low i hi = rw (diagonal i hi) (AtMost-refl (Some (pos 0)))

    below : AreAtMost (2 * h) (inserted s a b c) (lowered w a b c)
    below = below-lowered w (inserted s a b c) (2 * h) a b c
        (λ i j hi hj. AtMost-trans (inserted s a b c i j) (edged s a b c i j) (w i j) (edged-below (edged s a b c) (2 * h) (flip b) (flip a) c i j hi hj)
        (AtMost-trans (edged s a b c i j) (s i j) (w i j) (edged-below s (2 * h) a b c i j hi hj) (weights-below w s (2 * h) p.weights i j hi hj)))
        (AtMost-trans (inserted s a b c a b) (edged s a b c a b) (Some c) (edged-below (edged s a b c) (2 * h) (flip b) (flip a) c a b ha hb) (edged-edge s (2 * h) a b c ha hb zero))
        (edged-edge (edged s a b c) (2 * h) (flip b) (flip a) c fb fa zeros)

mirror-walk : (w : ℕ → ℕ → Option ℤ) (h : ℕ) → IsCoherent w (2 * h) → (i j : ℕ) (xs : List ℕ) → i < 2 * h → j < 2 * h → Below (2 * h) xs → walk_end i xs ≡ j → IsReached w (2 * h) (flip j) (flip i) (walk_weight w i xs)
mirror-walk w h c i j [] hi hj b e = λ x f. ([], record { inside = tt; ends = ap flip (sym e) }, subst (λ v. AtMost (Some (pos 0)) v) f (AtMost-refl (Some (pos 0))))
mirror-walk w h c i j (x ∷ xs) hi hj b e =
    subst (IsReached w (2 * h) (flip j) (flip i)) (add_weight-comm (walk_weight w x xs) (w i x))
    (reached-sum w (2 * h) (flip j) (flip x) (flip i) (walk_weight w x xs) (w i x) (mirror-walk w h c x j xs b.0 hj b.1 e)
    (reached-edge w (2 * h) (flip x) (flip i) (w i x) (flip_below i h hi) (subst (λ v. AtMost v (w i x)) (c i x hi b.0) (AtMost-refl (w i x)))))

mirror-below : (w s : ℕ → ℕ → Option ℤ) (h : ℕ) → IsCoherent w (2 * h) → AreLeastWeights w (2 * h) s → (i j : ℕ) → i < 2 * h → j < 2 * h → AtMost (s (flip j) (flip i)) (s i j)
mirror-below w s h c p i j hi hj = by_entry (s i j) refl
  where
    by_entry : (a : Option ℤ) → s i j ≡ a → AtMost (s (flip j) (flip i)) (s i j)
    by_entry None e = rw e tt
    by_entry (Some x) e =
        let f : (xs : List ℕ) × IsWalk (2 * h) i xs j × (walk_weight w i xs ≡ Some x) = p.walks i j x hi hj e in
        let g : (xs : List ℕ) × IsWalk (2 * h) (flip j) xs (flip i) × AtMost (walk_weight w (flip j) xs) (Some x) = mirror-walk w h c i j f.0 hi hj f.1.inside f.1.ends x f.2 in
        rw e (AtMost-trans (s (flip j) (flip i)) (walk_weight w (flip j) g.0) (Some x) (p.lower (flip j) (flip i) g.0 (flip_below j h hj) (flip_below i h hi) g.1) g.2)

-- the least weights of a coherent matrix are coherent
pub weights-coherent : (w s : ℕ → ℕ → Option ℤ) (h : ℕ) → IsCoherent w (2 * h) → AreLeastWeights w (2 * h) s → IsCoherent s (2 * h)
weights-coherent w s h c p i j hi hj = AtMost-both (s i j) (s (flip j) (flip i))
    (subst (λ k. AtMost (s k j) (s (flip j) (flip i))) (flip-flip i)
    (subst (λ k. AtMost (s (flip (flip i)) k) (s (flip j) (flip i))) (flip-flip j)
    (mirror-below w s h c p (flip j) (flip i) (flip_below j h hj) (flip_below i h hi))))
    (mirror-below w s h c p i j hi hj)

-- a bound that is not lower changes nothing
pub kept-weights : (w s : ℕ → ℕ → Option ℤ) (h a b : ℕ) (c : ℤ) → IsCoherent w (2 * h) → a < 2 * h → b < 2 * h → AreSoundWeights w (2 * h) s → AtMost (s a b) (Some c) → AreSoundWeights (lowered w a b c) (2 * h) s
kept-weights w s h a b c k ha hb p l = record {
  weights = weights-from_triangles (lowered w a b c) s (2 * h) low triangular below (reached-first w s (2 * h) a b c p.weights);
  sound = λ i xs hi g. subst (λ v. AtMost v (walk_weight (lowered w a b c) i xs)) (weights-diagonal w s (2 * h) p i hi)
      (triangle-walk s (lowered w a b c) (2 * h) low triangular below i i xs hi hi g.inside g.ends);
}
  where
    triangular : IsTriangular (2 * h) s
    triangular = triangles-from_weights w s (2 * h) p.weights

    low : IsZeroAtMost (2 * h) s
    low i hi = rw (weights-diagonal w s (2 * h) p i hi) (AtMost-refl (Some (pos 0)))

    below : AreAtMost (2 * h) s (lowered w a b c)
    below = below-lowered w s (2 * h) a b c (weights-below w s (2 * h) p.weights) l
        (subst (λ v. AtMost v (Some c)) (weights-coherent w s h k p.weights a b ha hb) l)

-- Entries that obey the triangle law, and walks that reach them.
use Rattle.std.specs.Prelude.{◌≡◌, ℕ, ◌<◌, ℤ, pos, ◌+ℤ◌, Option, Some, None, List, [], ◌∷◌, ◌++◌, refl}
use Rattle.std.proofs.Common.{arith, ap, sym, ◌∙◌, subst}
use Rattle.std.proofs.lemmas.Int.{ints}
use Rattle.dbm_close.proofs.LawLemmas.{least-diagonal}
use Rattle.dbm_close.proofs.WalkLemmas.{Below-append, add_weight-zero}
use Rattle.dbm_close.specs.Walks.{AreLeastWeights, Below, IsWalk, walk_end, walk_weight}
use Rattle.dbm_core.proofs.WeightLemmas.{AtMost-both, AtMost-refl, AtMost-trans, add_weight-assoc, add_weight-mono, least-cases}
use Rattle.dbm_core.specs.Limits.{AreAtMost, HasZeroDiagonal, IsZeroAtMost}
use Rattle.dbm_core.specs.Weights.{AtMost, add_weight, least}
use Rattle.dbm_incremental.specs.Triangles.{AreSoundWeights, IsTriangular}

-- some walk from i to j weighs v at most, where v is a number
abbrev pub IsReached : (ℕ → ℕ → Option ℤ) → ℕ → ℕ → ℕ → Option ℤ → Type 0
IsReached w n i j v = (x : ℤ) → v ≡ Some x → (xs : List ℕ) × IsWalk n i xs j × AtMost (walk_weight w i xs) (Some x)

pub triangle-walk : (d w : ℕ → ℕ → Option ℤ) (n : ℕ) → IsZeroAtMost n d → IsTriangular n d → AreAtMost n d w → (i j : ℕ) (xs : List ℕ) → i < n → j < n → Below n xs → walk_end i xs ≡ j → AtMost (d i j) (walk_weight w i xs)
triangle-walk d w n z t l i j [] hi hj b e = subst (λ k. AtMost (d i k) (Some (pos 0))) e (z i hi)
triangle-walk d w n z t l i j (x ∷ xs) hi hj b e =
    AtMost-trans (d i j) (add_weight (d i x) (d x j)) (add_weight (w i x) (walk_weight w x xs)) (t i x j hi b.0 hj)
    (add_weight-mono (d i x) (w i x) (d x j) (walk_weight w x xs) (l i x hi b.0) (triangle-walk d w n z t l x j xs b.0 hj b.1 e))

-- entries that obey the triangle law, are at most w's and are reached, are the least weights
pub weights-from_triangles : (w d : ℕ → ℕ → Option ℤ) (n : ℕ) → IsZeroAtMost n d → IsTriangular n d → AreAtMost n d w → ((i j : ℕ) → i < n → j < n → IsReached w n i j (d i j)) → AreLeastWeights w n d
weights-from_triangles w d n z t l r = record {
  walks = λ i j x hi hj e. (let p : (xs : List ℕ) × IsWalk n i xs j × AtMost (walk_weight w i xs) (Some x) = r i j hi hj x e in (
    p.0,
    p.1,
    AtMost-both (walk_weight w i p.0) (Some x) p.2 (subst (λ v. AtMost v (walk_weight w i p.0)) e (triangle-walk d w n z t l i j p.0 hi hj p.1.inside p.1.ends)),
  ));
  lower = λ i j xs hi hj b. triangle-walk d w n z t l i j xs hi hj b.inside b.ends;
}

add_zero : (a : Option ℤ) → add_weight (Some (pos 0)) a ≡ a
add_zero None = refl
add_zero (Some x) = let e : pos 0 +ℤ x ≡ x = omega (arith, ints) in ap Some e

pub walk_weight-append : (w : ℕ → ℕ → Option ℤ) (i : ℕ) (xs ys : List ℕ) → walk_weight w i (xs ++ ys) ≡ add_weight (walk_weight w i xs) (walk_weight w (walk_end i xs) ys)
walk_weight-append w i [] ys = sym (add_zero (walk_weight w i ys))
walk_weight-append w i (x ∷ xs) ys =
    ap (add_weight (w i x)) (walk_weight-append w x xs ys)
    ∙ sym (add_weight-assoc (w i x) (walk_weight w x xs) (walk_weight w (walk_end x xs) ys))

pub walk_end-append : (i : ℕ) (xs ys : List ℕ) → walk_end i (xs ++ ys) ≡ walk_end (walk_end i xs) ys
walk_end-append i [] ys = refl
walk_end-append i (x ∷ xs) ys = walk_end-append x xs ys

pub IsWalk-append : (n i k j : ℕ) (xs ys : List ℕ) → IsWalk n i xs k → IsWalk n k ys j → IsWalk n i (xs ++ ys) j
IsWalk-append n i k j xs ys p q = record {
  inside = Below-append n xs ys p.inside q.inside;
  ends = walk_end-append i xs ys ∙ ap (λ u. walk_end u ys) p.ends ∙ q.ends;
}

pub joined-weight : (w : ℕ → ℕ → Option ℤ) (n i k : ℕ) (xs ys : List ℕ) → IsWalk n i xs k → walk_weight w i (xs ++ ys) ≡ add_weight (walk_weight w i xs) (walk_weight w k ys)
joined-weight w n i k xs ys p = walk_weight-append w i xs ys ∙ ap (λ u. add_weight (walk_weight w i xs) (walk_weight w u ys)) p.ends

pub reached-sum : (w : ℕ → ℕ → Option ℤ) (n i k j : ℕ) (a b : Option ℤ) → IsReached w n i k a → IsReached w n k j b → IsReached w n i j (add_weight a b)
reached-sum w n i k j None b p q = λ x e. absurd (let f : ⊥ = cc in f)
reached-sum w n i k j (Some y) None p q = λ x e. absurd (let f : ⊥ = cc in f)
reached-sum w n i k j (Some y) (Some z) p q = λ x e.
    let f : (xs : List ℕ) × IsWalk n i xs k × AtMost (walk_weight w i xs) (Some y) = p y refl in
    let g : (xs : List ℕ) × IsWalk n k xs j × AtMost (walk_weight w k xs) (Some z) = q z refl in (
      f.0 ++ g.0,
      IsWalk-append n i k j f.0 g.0 f.1 g.1,
      subst (λ v. AtMost v (Some x)) (sym (joined-weight w n i k f.0 g.0 f.1))
          (subst (λ v. AtMost (add_weight (walk_weight w i f.0) (walk_weight w k g.0)) v) e
          (add_weight-mono (walk_weight w i f.0) (Some y) (walk_weight w k g.0) (Some z) f.2 g.2)),
    )

pub reached-least : (w : ℕ → ℕ → Option ℤ) (n i j : ℕ) (a b : Option ℤ) → IsReached w n i j a → IsReached w n i j b → IsReached w n i j (least a b)
reached-least w n i j a b p q = least-cases (IsReached w n i j) a b p q

pub walk_weight-mono : (v w : ℕ → ℕ → Option ℤ) (n : ℕ) → AreAtMost n v w → (i : ℕ) (xs : List ℕ) → i < n → Below n xs → AtMost (walk_weight v i xs) (walk_weight w i xs)
walk_weight-mono v w n l i [] hi b = AtMost-refl (Some (pos 0))
walk_weight-mono v w n l i (x ∷ xs) hi b = add_weight-mono (v i x) (w i x) (walk_weight v x xs) (walk_weight w x xs) (l i x hi b.0) (walk_weight-mono v w n l x xs b.0 b.1)

pub reached-below : (v w : ℕ → ℕ → Option ℤ) (n i j : ℕ) (a : Option ℤ) → AreAtMost n v w → i < n → IsReached w n i j a → IsReached v n i j a
reached-below v w n i j a l hi p = λ x e.
    let f : (xs : List ℕ) × IsWalk n i xs j × AtMost (walk_weight w i xs) (Some x) = p x e in
    (f.0, f.1, AtMost-trans (walk_weight v i f.0) (walk_weight w i f.0) (Some x) (walk_weight-mono v w n l i f.0 hi f.1.inside) f.2)

pub reached-edge : (w : ℕ → ℕ → Option ℤ) (n a b : ℕ) (c : Option ℤ) → b < n → AtMost (w a b) c → IsReached w n a b c
reached-edge w n a b c hb l = λ x e.
    (b ∷ [], record { inside = (hb, tt); ends = refl }, subst (λ v. AtMost v (Some x)) (sym (add_weight-zero (w a b))) (subst (λ v. AtMost (w a b) v) e l))

pub reached-weights : (w s : ℕ → ℕ → Option ℤ) (n i j : ℕ) → AreLeastWeights w n s → i < n → j < n → IsReached w n i j (s i j)
reached-weights w s n i j h hi hj = λ x e.
    let p : (xs : List ℕ) × IsWalk n i xs j × (walk_weight w i xs ≡ Some x) = h.walks i j x hi hj e in
    (p.0, p.1, subst (λ v. AtMost v (Some x)) (sym p.2) (AtMost-refl (Some x)))

-- least weights obey the triangle law
pub triangles-from_weights : (w s : ℕ → ℕ → Option ℤ) (n : ℕ) → AreLeastWeights w n s → IsTriangular n s
triangles-from_weights w s n h i k j hi hk hj = by_sum (add_weight (s i k) (s k j)) refl
  where
    by_sum : (a : Option ℤ) → add_weight (s i k) (s k j) ≡ a → AtMost (s i j) (add_weight (s i k) (s k j))
    by_sum None e = rw e tt
    by_sum (Some x) e =
        let p : (xs : List ℕ) × IsWalk n i xs j × AtMost (walk_weight w i xs) (Some x) =
        reached-sum w n i k j (s i k) (s k j) (reached-weights w s n i k h hi hk) (reached-weights w s n k j h hk hj) x e in
        rw e (AtMost-trans (s i j) (walk_weight w i p.0) (Some x) (h.lower i j p.0 hi hj p.1) p.2)

pub weights-below : (w s : ℕ → ℕ → Option ℤ) (n : ℕ) → AreLeastWeights w n s → AreAtMost n s w
weights-below w s n h i j hi hj = subst (λ v. AtMost (s i j) v) (add_weight-zero (w i j)) (h.lower i j (j ∷ []) hi hj (record { inside = (hj, tt); ends = refl }))

pub weights-diagonal : (w s : ℕ → ℕ → Option ℤ) (n : ℕ) → AreSoundWeights w n s → HasZeroDiagonal n s
weights-diagonal w s n h i hi = least-diagonal w s n i hi h.sound h.weights

-- a matrix that obeys the triangle law has its own least weights
pub own-weights : (d : ℕ → ℕ → Option ℤ) (n : ℕ) → HasZeroDiagonal n d → IsTriangular n d → AreSoundWeights d n d
own-weights d n z t = record {
  weights = weights-from_triangles d d n low t below (λ i j hi hj. reached-edge d n i j (d i j) hj (AtMost-refl (d i j)));
  sound = λ i xs hi b. subst (λ v. AtMost v (walk_weight d i xs)) (z i hi) (triangle-walk d d n low t below i i xs hi hi b.inside b.ends);
}
  where
    below : AreAtMost n d d
    below i j hi hj = AtMost-refl (d i j)

    low : IsZeroAtMost n d
    low i hi = rw (z i hi) (AtMost-refl (Some (pos 0)))

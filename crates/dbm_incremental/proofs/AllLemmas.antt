-- Bounds lowered one after another.
use Rattle.std.specs.Prelude.{◌≡◌, ℕ, ◌<◌, ◌≤◌, ◌+◌, ◌*◌, ◌^◌, ℤ, pos, negsuc, Option, Some, List, [], ◌∷◌, length}
use Rattle.std.proofs.Common.{arith, ap, sym, ◌∙◌, subst, drop, get_or, add-one}
use Rattle.std.proofs.Math.Nat.{pow-suc, pow-le-pow_right}
use Rattle.std.proofs.lemmas.List.{drop_more}
use Rattle.dbm_close.specs.Walks.{HasNegativeWalk, walk_weight}
use Rattle.dbm_core.proofs.LowerLemmas.{lowered-below, lowered-coherent}
use Rattle.dbm_core.proofs.WeightLemmas.{AtMost-refl, AtMost-trans}
use Rattle.dbm_core.specs.Limits.{AreAtMost, IsWithin}
use Rattle.dbm_core.specs.Nodes.{IsCoherent}
use Rattle.dbm_core.specs.Operations.{lowered}
use Rattle.dbm_incremental.proofs.TriangleLemmas.{walk_weight-mono}
use Rattle.dbm_incremental.specs.declared.bounds.Bound.{Bound}
use Rattle.dbm_incremental.specs.Steps.{AreBounds, lowered_all}
use Rattle.dbm_incremental.specs.Triangles.{AreSoundWeights}

lowered_all-below : (w : ℕ → ℕ → Option ℤ) (n : ℕ) (bs : List Bound) → AreAtMost n (lowered_all w bs) w
lowered_all-below w n [] i j hi hj = AtMost-refl (w i j)
lowered_all-below w n (b ∷ bs) i j hi hj = AtMost-trans (lowered_all (lowered w b.row b.column b.bound) bs i j) (lowered w b.row b.column b.bound i j) (w i j)
    (lowered_all-below (lowered w b.row b.column b.bound) n bs i j hi hj) (lowered-below w b.row b.column b.bound n i j hi hj)

-- a negative walk stays negative when more is lowered
pub still-negative : (w : ℕ → ℕ → Option ℤ) (n : ℕ) (bs : List Bound) → HasNegativeWalk w n → HasNegativeWalk (lowered_all w bs) n
still-negative w n bs (i, hi, (xs, b, z)) = (i, hi, (xs, b, AtMost-trans (walk_weight (lowered_all w bs) i xs) (walk_weight w i xs) (Some (negsuc 0)) (walk_weight-mono (lowered_all w bs) w n (lowered_all-below w n bs) i xs hi b.inside) z))

-- s has the least weights of some matrix, which becomes the whole one when the rest is lowered
pub record IsLoweredSoFar (d : ℕ → ℕ → Option ℤ) (n : ℕ) (bs rest : List Bound) (s w : ℕ → ℕ → Option ℤ) : Type 0 where
  pub coherent : IsCoherent w n
  pub weights : AreSoundWeights w n s
  pub left : lowered_all w rest ≡ lowered_all d bs

abbrev pub no_bound : Bound
no_bound = record { row = 0; column = 0; bound = pos 0 }

pub rest-first : (n : ℕ) (bs : List Bound) (k : ℕ) → k < length bs → AreBounds n (drop k bs) →
    ((get_or bs k no_bound).row < n) × (((get_or bs k no_bound).column < n) × IsWithin (2 ^ 70) (Some (get_or bs k no_bound).bound))
rest-first n bs k l p = (subst (AreBounds n) (drop_more bs k no_bound l) p).0

pub rest-next : (n : ℕ) (bs : List Bound) (k : ℕ) → k < length bs → AreBounds n (drop k bs) → AreBounds n (drop (k + 1) bs)
rest-next n bs k l p = (subst (AreBounds n) (drop_more bs k no_bound l) p).1

pub rest-lowered : (w : ℕ → ℕ → Option ℤ) (bs : List Bound) (k : ℕ) → k < length bs → lowered_all w (drop k bs) ≡ lowered_all (lowered w (get_or bs k no_bound).row (get_or bs k no_bound).column (get_or bs k no_bound).bound) (drop (k + 1) bs)
rest-lowered w bs k l = ap (lowered_all w) (drop_more bs k no_bound l)

-- before bound k
abbrev pub step_bound : ℕ → ℕ
step_bound k = 2 ^ 70 * 16 ^ k

pub step_bound-next : (k : ℕ) → 16 * step_bound k ≡ step_bound (k + 1)
step_bound-next k = omega (arith, ap (λ m. 16 ^ m) (add-one k) ∙ pow-suc 16 k)

sixteen_positive : 0 < 16
sixteen_positive = omega arith

pub step_bound-room : (k : ℕ) → k ≤ 4 → step_bound k ≤ 2 ^ 86
step_bound-room k l = let p : 16 ^ k ≤ 16 ^ 4 = pow-le-pow_right sixteen_positive l in omega arith

pub step_bound-least : (k : ℕ) → 2 ^ 70 ≤ step_bound k
step_bound-least k = let l : 0 ≤ k = omega arith in let p : 16 ^ 0 ≤ 16 ^ k = pow-le-pow_right sixteen_positive l in omega arith

pub IsLoweredSoFar-next : (d : ℕ → ℕ → Option ℤ) (h : ℕ) (bs : List Bound) (k : ℕ) (s t w : ℕ → ℕ → Option ℤ) → k < length bs → IsLoweredSoFar d (2 * h) bs (drop k bs) s w →
    AreSoundWeights (lowered w (get_or bs k no_bound).row (get_or bs k no_bound).column (get_or bs k no_bound).bound) (2 * h) t →
    IsLoweredSoFar d (2 * h) bs (drop (k + 1) bs) t (lowered w (get_or bs k no_bound).row (get_or bs k no_bound).column (get_or bs k no_bound).bound)
IsLoweredSoFar-next d h bs k s t w l p q = record {
  coherent = lowered-coherent w (2 * h) (get_or bs k no_bound).row (get_or bs k no_bound).column (get_or bs k no_bound).bound p.coherent;
  weights = q;
  left = sym (rest-lowered w bs k l) ∙ p.left;
}

pub negative-so_far : (d : ℕ → ℕ → Option ℤ) (n : ℕ) (bs : List Bound) (k : ℕ) (s w : ℕ → ℕ → Option ℤ) → k < length bs → IsLoweredSoFar d n bs (drop k bs) s w →
    HasNegativeWalk (lowered w (get_or bs k no_bound).row (get_or bs k no_bound).column (get_or bs k no_bound).bound) n → HasNegativeWalk (lowered_all d bs) n
negative-so_far d n bs k s w l p z = subst (λ v. HasNegativeWalk v n) (sym (rest-lowered w bs k l) ∙ p.left)
    (still-negative (lowered w (get_or bs k no_bound).row (get_or bs k no_bound).column (get_or bs k no_bound).bound) n (drop (k + 1) bs) z)

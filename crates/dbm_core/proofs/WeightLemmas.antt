-- The order and the sums of bounds.
use Rattle.std.specs.Prelude.{◌≡◌, ℤ, pos, ◌+ℤ◌, Option, Some, None, true, false, cond, refl, int_lt}
use Rattle.std.proofs.Common.{arith, ap}
use Rattle.std.proofs.lemmas.Int.{ints, clamps}
use Rattle.std.specs.Int.{int_min}
use Rattle.dbm_core.specs.Weights.{AtMost, add_weight, least}

pub AtMost-refl : (a : Option ℤ) → AtMost a a
AtMost-refl None = tt
AtMost-refl (Some x) = omega (arith, ints)

pub AtMost-trans : (a b c : Option ℤ) → AtMost a b → AtMost b c → AtMost a c
AtMost-trans a b None p q = tt
AtMost-trans a None (Some z) p q = absurd q
AtMost-trans None (Some y) (Some z) p q = absurd p
AtMost-trans (Some x) (Some y) (Some z) p q = omega (arith, ints)

pub AtMost-both : (a b : Option ℤ) → AtMost a b → AtMost b a → a ≡ b
AtMost-both None None p q = refl
AtMost-both None (Some y) p q = absurd p
AtMost-both (Some x) None p q = absurd q
AtMost-both (Some x) (Some y) p q = let e : x ≡ y = omega (arith, ints) in ap Some e

pub add_weight-mono : (a b c d : Option ℤ) → AtMost a b → AtMost c d → AtMost (add_weight a c) (add_weight b d)
add_weight-mono a None c d p q = tt
add_weight-mono a (Some y) c None p q = tt
add_weight-mono None (Some y) c (Some w) p q = absurd p
add_weight-mono (Some x) (Some y) None (Some w) p q = absurd q
add_weight-mono (Some x) (Some y) (Some z) (Some w) p q = omega (arith, ints)

pub add_weight-assoc : (a b c : Option ℤ) → add_weight (add_weight a b) c ≡ add_weight a (add_weight b c)
add_weight-assoc None b c = refl
add_weight-assoc (Some x) None c = refl
add_weight-assoc (Some x) (Some y) None = refl
add_weight-assoc (Some x) (Some y) (Some z) = let e : (x +ℤ y) +ℤ z ≡ x +ℤ (y +ℤ z) = omega (arith, ints) in ap Some e

pub add_weight-comm : (a b : Option ℤ) → add_weight a b ≡ add_weight b a
add_weight-comm None None = refl
add_weight-comm None (Some y) = refl
add_weight-comm (Some x) None = refl
add_weight-comm (Some x) (Some y) = let e : x +ℤ y ≡ y +ℤ x = omega (arith, ints) in ap Some e

pub least-left : (a b : Option ℤ) → AtMost (least a b) a
least-left None b = tt
least-left (Some x) None = omega (arith, ints)
least-left (Some x) (Some y) = omega (arith, ints, clamps)

pub least-right : (a b : Option ℤ) → AtMost (least a b) b
least-right None b = AtMost-refl b
least-right (Some x) None = tt
least-right (Some x) (Some y) = omega (arith, ints, clamps)

pub least-greatest : (c a b : Option ℤ) → AtMost c a → AtMost c b → AtMost c (least a b)
least-greatest c None b p q = q
least-greatest c (Some x) None p q = p
least-greatest None (Some x) (Some y) p q = absurd p
least-greatest (Some z) (Some x) (Some y) p q = omega (arith, ints, clamps)

-- the least of two is one of them
pub least-cases : (P : Option ℤ → Type 0) (a b : Option ℤ) → P a → P b → P (least a b)
least-cases P None b p q = q
least-cases P (Some x) None p q = p
least-cases P (Some x) (Some y) p q =
    elim (int_lt y x) as (λ v. P (Some (cond v y x))) [ true ↦ q | false ↦ p ]

-- a weight of 0 or more before adds nothing below
pub add_weight-from_zero : (a b : Option ℤ) → AtMost (Some (pos 0)) a → AtMost b (add_weight a b)
add_weight-from_zero None b p = tt
add_weight-from_zero (Some x) None p = tt
add_weight-from_zero (Some x) (Some y) p = omega (arith, ints)

pub least-assoc : (a b c : Option ℤ) → least (least a b) c ≡ least a (least b c)
least-assoc None b c = refl
least-assoc (Some x) None c = refl
least-assoc (Some x) (Some y) None = refl
least-assoc (Some x) (Some y) (Some z) = let e : int_min (int_min x y) z ≡ int_min x (int_min y z) = omega (arith, ints, clamps) in ap Some e

-- A result lies within its corners where the operation is monotone in each operand, in one direction or the other.
use Rattle.std.proofs.Common.{ℤ, ◌≤ℤ◌, ◌⊎◌, inl, inr, arith}
use Rattle.std.proofs.lemmas.Int.{ints, clamps}
use Rattle.std.specs.Int.{int_max, int_min}
use Rattle.num_bounds.specs.Bounds.{Bounds, Within}
use Rattle.num_bounds.specs.Operations.{corners}

-- v lies between u and w, whichever is the smaller
abbrev pub IsBetween : ℤ → ℤ → ℤ → Type 0
IsBetween u v w = ((u ≤ℤ v) × (v ≤ℤ w)) ⊎ ((w ≤ℤ v) × (v ≤ℤ u))

between-ends : (u v w : ℤ) → IsBetween u v w → (int_min u w ≤ℤ v) × (v ≤ℤ int_max u w)
between-ends u v w h = elim h [
  | inl k ↦ (omega (arith, ints, clamps, k.0, k.1), omega (arith, ints, clamps, k.0, k.1))
  | inr k ↦ (omega (arith, ints, clamps, k.0, k.1), omega (arith, ints, clamps, k.0, k.1))
]

outer : (p q r s u v z : ℤ) → (int_min u v ≤ℤ z) × (z ≤ℤ int_max u v) → (int_min p q ≤ℤ u) × (u ≤ℤ int_max p q) → (int_min r s ≤ℤ v) × (v ≤ℤ int_max r s) → (int_min (int_min p q) (int_min r s) ≤ℤ z) × (z ≤ℤ int_max (int_max p q) (int_max r s))
outer p q r s u v z a b c =
    (omega (arith, ints, clamps, a.0, b.0, c.0), omega (arith, ints, clamps, a.1, b.1, c.1))

pub corners-hold : (f : ℤ → ℤ → ℤ) (a b : Bounds) (x y : ℤ) → IsBetween (f a.lo y) (f x y) (f a.hi y) → IsBetween (f a.lo b.lo) (f a.lo y) (f a.lo b.hi) → IsBetween (f a.hi b.lo) (f a.hi y) (f a.hi b.hi) → Within (f x y) (corners f a b)
corners-hold f a b x y h k l = outer (f a.lo b.lo) (f a.lo b.hi) (f a.hi b.lo) (f a.hi b.hi) (f a.lo y) (f a.hi y) (f x y) (between-ends (f a.lo y) (f x y) (f a.hi y) h) (between-ends (f a.lo b.lo) (f a.lo y) (f a.lo b.hi) k) (between-ends (f a.hi b.lo) (f a.hi y) (f a.hi b.hi) l)

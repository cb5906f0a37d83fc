-- The hull is a join and the cut a meet.
use Rattle.std.proofs.Common.{◌≡◌, ℤ, ◌≤ℤ◌, Some, refl, arith}
use Rattle.std.proofs.lemmas.Int.{ints, clamps}
use Rattle.std.specs.Int.{int_max, int_min}
use Rattle.num_bounds.specs.Bounds.{Bounds}
use Rattle.num_bounds.specs.Meaning.{IsJoin, AreLattice}
use Rattle.num_bounds.specs.Operations.{range_between, hull_of}
use Rattle.num_bounds.proofs.Ends.{same_ends, between-some, true-le}

pub hull-join : (a b : Bounds) → IsJoin a b (hull_of a b)
hull-join a b = record {
  left = (omega (arith, ints, clamps), omega (arith, ints, clamps));
  right = (omega (arith, ints, clamps), omega (arith, ints, clamps));
  within = λ c p q. (omega (arith, ints, clamps, p.0, q.0), omega (arith, ints, clamps, p.1, q.1));
}

int_max-comm : (x y : ℤ) → int_max x y ≡ int_max y x
int_max-comm x y = omega (arith, ints, clamps)

int_min-comm : (x y : ℤ) → int_min x y ≡ int_min y x
int_min-comm x y = omega (arith, ints, clamps)

-- a cut that keeps both ends keeps the range
cut-whole : (a : Bounds) (lo hi : ℤ) → lo ≡ a.lo → hi ≡ a.hi → a.lo ≤ℤ a.hi → range_between lo hi ≡ Some a
cut-whole a lo hi p q h = rw (p, q) (between-some a.lo a.hi (true-le a.lo a.hi h))

pub lattice : (a b c : Bounds) → a.lo ≤ℤ a.hi → AreLattice a b c
lattice a b c h = record {
  hull_same = same_ends (omega (arith, ints, clamps)) (omega (arith, ints, clamps));
  hull_either_way = same_ends (int_min-comm a.lo b.lo) (int_max-comm a.hi b.hi);
  hull_of_three = same_ends (omega (arith, ints, clamps)) (omega (arith, ints, clamps));
  cut_same = cut-whole a (int_max a.lo a.lo) (int_min a.hi a.hi) (omega (arith, ints, clamps)) (omega (arith, ints, clamps)) h;
  cut_either_way = rw (int_max-comm a.lo b.lo, int_min-comm a.hi b.hi) refl;
  cut_of_hull = cut-whole a (int_max (int_min a.lo b.lo) a.lo) (int_min (int_max a.hi b.hi) a.hi) (omega (arith, ints, clamps)) (omega (arith, ints, clamps)) h;
}

-- What a range says of an operation's results.
use Rattle.std.specs.Prelude.{◌≡◌, ◌≢◌, ℤ, pos, ◌≤ℤ◌, neg_ℤ, ◌*ℤ◌, int_div, int_rem, ◌↔◌, FitsSigned, Option, Some, None, IfSome}
use Rattle.std.specs.Int.{w64}
use Rattle.num_bounds.specs.Bounds.{Bounds, Within, IsPart}
use Rattle.num_bounds.specs.Operations.{hull_of, cut_of, products}

-- z lies in the range, which is there
abbrev pub Covers : Option Bounds → ℤ → Type 0
Covers None z = ⊥
Covers (Some b) z = Within z b

-- each result at numbers of the two ranges, where it does not overflow, lies in r: where r is none there is no such result
abbrev pub CoversResults : (ℤ → ℤ → ℤ) → Bounds → Bounds → Option Bounds → Type 0
CoversResults f a b r = (x y : ℤ) → Within x a → Within y b → FitsSigned w64 (f x y) → Covers r (f x y)

abbrev pub CoversNegations : Bounds → Option Bounds → Type 0
CoversNegations a r = (x : ℤ) → Within x a → FitsSigned w64 (neg_ℤ x) → Covers r (neg_ℤ x)

-- the same of quotients, of which there is none by 0
abbrev pub CoversQuotients : Bounds → Bounds → Option Bounds → Type 0
CoversQuotients a b r = (x y : ℤ) → Within x a → Within y b → y ≢ pos 0 → FitsSigned w64 (int_div x y) → Covers r (int_div x y)

-- the same of remainders, which never overflow
abbrev pub CoversRemainders : Bounds → Bounds → Option Bounds → Type 0
CoversRemainders a b r = (x y : ℤ) → Within x a → Within y b → y ≢ pos 0 → Covers r (int_rem x y)

-- z is the result at some numbers of the two ranges
abbrev pub IsTaken : (ℤ → ℤ → ℤ) → Bounds → Bounds → ℤ → Type 0
IsTaken f a b z = (x : ℤ) × (y : ℤ) × Within x a × Within y b × (f x y ≡ z)

-- each number of r is a result
abbrev pub IsAllTaken : (ℤ → ℤ → ℤ) → Bounds → Bounds → Option Bounds → Type 0
IsAllTaken f a b r = IfSome r (λ s. (z : ℤ) → Within z s → IsTaken f a b z)

-- each number of r is a negated number of the range
abbrev pub IsAllNegated : Bounds → Option Bounds → Type 0
IsAllNegated a r = IfSome r (λ s. (z : ℤ) → Within z s → (x : ℤ) × Within x a × (neg_ℤ x ≡ z))

-- both ends of the range of products, before the cut, are products
abbrev pub AreEndsTaken : Bounds → Bounds → Type 0
AreEndsTaken a b = IsTaken ◌*ℤ◌ a b (products a b).lo × IsTaken ◌*ℤ◌ a b (products a b).hi

-- neither end is 0; so it is of a part of a range below or above 0
abbrev pub HasNoZero : Bounds → Type 0
HasNoZero b = (b.lo ≢ pos 0) × (b.hi ≢ pos 0)

-- a cut holds exactly the numbers that are in the range and from lo to hi
abbrev pub IsMeet : Bounds → ℤ → ℤ → Option Bounds → Type 0
IsMeet b lo hi r = (z : ℤ) → Covers r z ↔ (Within z b × (lo ≤ℤ z) × (z ≤ℤ hi))

-- r is a range that holds both, and a part of every other that does
pub record IsJoin (a b r : Bounds) : Type 0 where
  pub left : IsPart a r
  pub right : IsPart b r
  pub within : (c : Bounds) → IsPart a c → IsPart b c → IsPart r c

-- the hull as a join, and the cut to another range's ends as a meet
pub record AreLattice (a b c : Bounds) : Type 0 where
  pub hull_same : hull_of a a ≡ a
  pub hull_either_way : hull_of a b ≡ hull_of b a
  pub hull_of_three : hull_of (hull_of a b) c ≡ hull_of a (hull_of b c)
  pub cut_same : cut_of a a.lo a.hi ≡ Some a
  pub cut_either_way : cut_of a b.lo b.hi ≡ cut_of b a.lo a.hi
  pub cut_of_hull : cut_of (hull_of a b) a.lo a.hi ≡ Some a

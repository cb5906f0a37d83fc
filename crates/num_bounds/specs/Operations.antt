-- The range of an operation's results, over the integers, and what is left of it within 64 bits.
use Rattle.std.specs.Prelude.{ℕ, ◌-◌, max, min, if◌then◌else◌, ◌==◌, ℤ, pos, negsuc, ◌+ℤ◌, ◌-ℤ◌, ◌*ℤ◌, neg_ℤ, unsigned_abs, int_le, int_lt, int_div, Option, Some, None}
use Rattle.std.specs.Int.{int_max, int_min}
use Rattle.num_bounds.specs.Bounds.{Bounds, least, greatest}

-- the range from lo to hi, none where it would be empty
abbrev pub range_between : ℤ → ℤ → Option Bounds
range_between lo hi = if int_le lo hi then Some (record { lo = lo; hi = hi }) else None

-- the common part with the range from lo to hi
abbrev pub cut_of : Bounds → ℤ → ℤ → Option Bounds
cut_of b lo hi = range_between (int_max b.lo lo) (int_min b.hi hi)

-- what is left within 64 bits
abbrev pub word : Bounds → Option Bounds
word b = cut_of b least greatest

-- the least range that holds both
abbrev pub hull_of : Bounds → Bounds → Bounds
hull_of a b = record { lo = int_min a.lo b.lo; hi = int_max a.hi b.hi }

-- the range of one number
abbrev pub single : ℤ → Bounds
single z = record { lo = z; hi = z }

-- the least and the greatest result at the four corners: each operand one of its range's ends
abbrev pub corners : (ℤ → ℤ → ℤ) → Bounds → Bounds → Bounds
corners f a b = hull_of (hull_of (single (f a.lo b.lo)) (single (f a.lo b.hi))) (hull_of (single (f a.hi b.lo)) (single (f a.hi b.hi)))

abbrev pub sums : Bounds → Bounds → Bounds
sums a b = record { lo = a.lo +ℤ b.lo; hi = a.hi +ℤ b.hi }

abbrev pub differences : Bounds → Bounds → Bounds
differences a b = record { lo = a.lo -ℤ b.hi; hi = a.hi -ℤ b.lo }

abbrev pub negations : Bounds → Bounds
negations a = record { lo = neg_ℤ a.hi; hi = neg_ℤ a.lo }

abbrev pub products : Bounds → Bounds → Bounds
products a b = corners ◌*ℤ◌ a b

-- the parts of a divisor's range below 0 and above 0
abbrev pub below_zero : Bounds → Option Bounds
below_zero b = range_between b.lo (int_min b.hi (negsuc 0))

abbrev pub above_zero : Bounds → Option Bounds
above_zero b = range_between (int_max b.lo (pos 1)) b.hi

-- the quotients, rounded towards 0, by one of these parts, if it is there
abbrev pub part_quotients : Bounds → Option Bounds → Option Bounds
part_quotients a None = None
part_quotients a (Some part) = Some (corners int_div a part)

-- the least range that holds those of the two that are there
abbrev pub either_hull : Option Bounds → Option Bounds → Option Bounds
either_hull None b = b
either_hull (Some a) None = Some a
either_hull (Some a) (Some b) = Some (hull_of a b)

abbrev pub quotients : Bounds → Bounds → Option Bounds
quotients a b = either_hull (part_quotients a (below_zero b)) (part_quotients a (above_zero b))

-- what is left within 64 bits of a range, if there is one
abbrev pub word_if : Option Bounds → Option Bounds
word_if None = None
word_if (Some b) = word b

-- the greatest distance from 0
abbrev pub magnitude : Bounds → ℕ
magnitude b = max (unsigned_abs b.lo) (unsigned_abs b.hi)

-- no remainder is farther from 0: it is no farther than the dividend, and nearer than the divisor
abbrev pub remainder_limit : Bounds → Bounds → ℕ
remainder_limit a b = min (magnitude a) (magnitude b - 1)

-- remainders have the dividend's sign: below 0 only by a dividend below 0, above 0 only by one above 0
abbrev pub least_remainder : ℤ → ℕ → ℤ
least_remainder lo limit = if int_lt lo (pos 0) then neg_ℤ (pos limit) else pos 0

abbrev pub greatest_remainder : ℤ → ℕ → ℤ
greatest_remainder hi limit = if int_lt (pos 0) hi then pos limit else pos 0

-- the remainders: none where the divisor's range is 0 alone
abbrev pub remainders : Bounds → Bounds → Option Bounds
remainders a b = if magnitude b == 0 then None else Some (record { lo = least_remainder a.lo (remainder_limit a b); hi = greatest_remainder a.hi (remainder_limit a b) })

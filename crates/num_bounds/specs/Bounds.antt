-- Ranges of integers.
use Rattle.std.specs.Prelude.{◌-◌, ◌^◌, ℤ, pos, negsuc, ◌≤ℤ◌}

-- a range, by its least and its greatest number
pub record Bounds : Type 0 where
  pub lo : ℤ
  pub hi : ℤ

-- z lies in the range
abbrev pub Within : ℤ → Bounds → Type 0
Within z b = (b.lo ≤ℤ z) × (z ≤ℤ b.hi)

-- each number of the one range lies in the other
abbrev pub IsPart : Bounds → Bounds → Type 0
IsPart a b = (b.lo ≤ℤ a.lo) × (a.hi ≤ℤ b.hi)

-- the least and the greatest integer of 64 bits
abbrev pub least : ℤ
least = negsuc (2 ^ 63 - 1)

abbrev pub greatest : ℤ
greatest = pos (2 ^ 63 - 1)

-- a range that is not empty, of integers of 64 bits
pub record IsRange (b : Bounds) : Type 0 where
  pub low : least ≤ℤ b.lo
  pub ordered : b.lo ≤ℤ b.hi
  pub high : b.hi ≤ℤ greatest

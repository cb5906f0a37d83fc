-- Steps 2 to 6 of closing, at one entry each.
use Rattle.std.specs.Prelude.{ℕ, ◌^◌, ◌-◌, ℤ, pos, ◌-ℤ◌, neg_ℤ, Option, Some, None, Bool, cond, int_lt}
use Rattle.std.specs.Int.{int_div_euclid, int_rem_euclid, int_min, int_max}
use Rattle.dbm_core.specs.Nodes.{flip, is_single}
use Rattle.dbm_core.specs.Weights.{add_weight, least}

-- step 2: the greatest even number that is not above the bound
abbrev pub even_down : Option ℤ → Option ℤ
even_down None = None
even_down (Some x) = Some (x -ℤ int_rem_euclid x (pos 2))

-- the bounds on twice a slot's value made even downwards
abbrev pub tightened : (ℕ → ℕ → Option ℤ) → ℕ → ℕ → Option ℤ
tightened s i j = cond (is_single i j) (even_down (s i j)) (s i j)

-- half of a bound, rounded down
abbrev pub half : Option ℤ → Option ℤ
half None = None
half (Some x) = Some (int_div_euclid x (pos 2))

-- step 4: each bound is at most half the sum of its two nodes' own
abbrev pub strengthened : (ℕ → ℕ → Option ℤ) → ℕ → ℕ → Option ℤ
strengthened t i j = least (t i j) (half (add_weight (t i (flip i)) (t (flip j) j)))

-- step 5: a bound of 2^64 or more becomes none
abbrev pub cut : Option ℤ → Option ℤ
cut None = None
cut (Some x) = cond (int_lt x (pos (2 ^ 64))) (Some x) None

-- step 6: the least value of a slot, of an array's length or of an int
abbrev pub extreme_low : Bool → ℤ
extreme_low array = cond array (pos 0) (neg_ℤ (pos (2 ^ 63)))

-- the greatest value
abbrev pub extreme_high : Bool → ℤ
extreme_high array = cond array (pos 1000000) (pos (2 ^ 63 - 1))

-- the low end of a slot's range, by the bound on -2x: the extreme, or what the bound leaves
abbrev pub range_low : Bool → Option ℤ → ℤ
range_low array None = extreme_low array
range_low array (Some x) = int_max (extreme_low array) (neg_ℤ (int_div_euclid x (pos 2)))

-- the high end, by the bound on 2x
abbrev pub range_high : Bool → Option ℤ → ℤ
range_high array None = extreme_high array
range_high array (Some x) = int_min (extreme_high array) (int_div_euclid x (pos 2))

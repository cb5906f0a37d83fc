-- Bounds: an integer, or None for no bound, which is greater than all.
use Rattle.std.specs.Prelude.{ℤ, ◌+ℤ◌, ◌≤ℤ◌, Option, Some, None}
use Rattle.std.specs.Int.{int_min, int_max}

-- the sum; none where a part is none
abbrev pub add_weight : Option ℤ → Option ℤ → Option ℤ
add_weight None b = None
add_weight (Some x) None = None
add_weight (Some x) (Some y) = Some (x +ℤ y)

-- the smaller; none is greater than all
abbrev pub least : Option ℤ → Option ℤ → Option ℤ
least None b = b
least (Some x) None = Some x
least (Some x) (Some y) = Some (int_min x y)

-- the greater
abbrev pub greatest : Option ℤ → Option ℤ → Option ℤ
greatest None b = None
greatest (Some x) None = None
greatest (Some x) (Some y) = Some (int_max x y)

-- a is at most b
abbrev pub AtMost : Option ℤ → Option ℤ → Type 0
AtMost a None = Unit {0}
AtMost None (Some y) = ⊥
AtMost (Some x) (Some y) = x ≤ℤ y

-- What matrices feed a hasher: a number for each kept bound.
use Rattle.std.specs.Prelude.{ℕ, ◌^◌, ℤ, pos, neg_ℤ, int_lt, cond, Option, Some, None, List}
use Rattle.std.specs.Hash as fed
use Rattle.std.specs.List.{flat_map}
use Rattle.dbm_core.specs.Half.{HalfMatrix}
use Rattle.dbm_narrow.specs.Widths.{fed_number}

-- the bound as a number of 64 bits: 0 for one that has more, 2^29 for none
abbrev pub bound_number : Option ℤ → ℤ
bound_number None = pos (2 ^ 29)
bound_number (Some x) = cond (int_lt x (neg_ℤ (pos (2 ^ 63)))) (pos 0) (cond (int_lt x (pos (2 ^ 63))) x (pos 0))

-- what bounds feed
abbrev pub bounds_fed : List (Option ℤ) → List (List ℕ)
bounds_fed bs = flat_map (λ b. fed.i64 (bound_number b)) bs

-- what entries feed
abbrev pub entries_fed : ℕ → List ℤ → List (List ℕ)
entries_fed h xs = flat_map (λ x. fed.i64 (fed_number h x)) xs

-- what a matrix feeds
abbrev pub matrix_fed : HalfMatrix → List (List ℕ)
matrix_fed m = bounds_fed m.kept

-- How often the bounds of a matrix can still rise by widening.
use Rattle.std.specs.Prelude.{ℕ, ◌+◌, ℤ, Option, Some, None, Bool, List, int_lt, count_by}
use Rattle.std.proofs.Common.{suc, zero}
use Rattle.dbm_core.specs.Half.{HalfMatrix, entry, nodes}
use Rattle.dbm_core.specs.Nodes.{is_single}
use Rattle.dbm_core.specs.Operations.{threshold_value}

-- the sum of f over the numbers below n
abbrev pub sum_below : ℕ → (ℕ → ℕ) → ℕ
sum_below zero f = 0
sum_below (suc n) f = sum_below n f + f n

-- how often a bound can rise: to each threshold above it, and then to none
abbrev pub bound_rises : List ℤ → Bool → Option ℤ → ℕ
bound_rises thresholds doubled None = 0
bound_rises thresholds doubled (Some x) = 1 + count_by (λ m. int_lt x (threshold_value doubled m)) thresholds

-- the sum of that over the n * n pairs of nodes
abbrev pub rises : List ℤ → HalfMatrix → ℕ
rises thresholds m = sum_below (nodes m) (λ i. sum_below (nodes m) (λ j. bound_rises thresholds (is_single i j) (entry m i j)))

-- Entries of 2^63 or more: a closed matrix without them obeys the triangle law.
use Rattle.std.specs.Prelude.{ℕ, ◌<◌, ◌^◌, ℤ, pos, ◌<ℤ◌, ◌≤ℤ◌, Option, Some, None}
use Rattle.dbm_core.specs.Half.{HalfMatrix, entry, nodes}
use Rattle.dbm_incremental.specs.ClosedMatrices.{IsClosed, IsWhole}

-- a bound of 2^63 or more
abbrev pub IsFar : Option ℤ → Type 0
IsFar None = ⊥
IsFar (Some x) = pos (2 ^ 63) ≤ℤ x

-- none, or a bound below that
abbrev pub IsBelowHalf : Option ℤ → Type 0
IsBelowHalf None = Unit {0}
IsBelowHalf (Some x) = x <ℤ pos (2 ^ 63)

abbrev pub HasFarEntry : ℕ → (ℕ → ℕ → Option ℤ) → Type 0
HasFarEntry n d = (i j : ℕ) × ((i < n) × (j < n) × IsFar (d i j))

abbrev pub HasNoFarEntry : ℕ → (ℕ → ℕ → Option ℤ) → Type 0
HasNoFarEntry n d = (i j : ℕ) → i < n → j < n → IsBelowHalf (d i j)

-- a closed matrix without far entries is whole
abbrev pub SmallIsWhole : Type 0
SmallIsWhole = (m : HalfMatrix) → IsClosed m → HasNoFarEntry (nodes m) (entry m) → IsWhole m

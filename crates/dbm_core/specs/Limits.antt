-- Small bounds, and the diagonal: what closing asks of a matrix, and what the operations keep.
use Rattle.std.specs.Prelude.{◌≡◌, ℕ, ◌<◌, ℤ, pos, neg_ℤ, ◌≤ℤ◌, Option, Some, None}
use Rattle.dbm_core.specs.Half.{HalfMatrix, entry, nodes}
use Rattle.dbm_core.specs.Weights.{AtMost}

-- a bound is none, or from -b to b
abbrev pub IsWithin : ℕ → Option ℤ → Type 0
IsWithin b None = Unit {0}
IsWithin b (Some x) = (neg_ℤ (pos b) ≤ℤ x) × (x ≤ℤ pos b)

-- each of the bounds at the n nodes is
abbrev pub AreWithin : ℕ → ℕ → (ℕ → ℕ → Option ℤ) → Type 0
AreWithin n b d = (i j : ℕ) → i < n → j < n → IsWithin b (d i j)

-- the bounds of the diagonal are 0 or less
abbrev pub IsZeroAtMost : ℕ → (ℕ → ℕ → Option ℤ) → Type 0
IsZeroAtMost n d = (i : ℕ) → i < n → AtMost (d i i) (Some (pos 0))

-- the bounds of the diagonal are 0
abbrev pub HasZeroDiagonal : ℕ → (ℕ → ℕ → Option ℤ) → Type 0
HasZeroDiagonal n d = (i : ℕ) → i < n → d i i ≡ Some (pos 0)

-- the diagonal is 0, and each bound is none or from -b to b
pub record IsLimited (b : ℕ) (m : HalfMatrix) : Type 0 where
  pub diagonal : HasZeroDiagonal (nodes m) (entry m)
  pub within : AreWithin (nodes m) b (entry m)

-- every bound of d is at most that of e, so that what meets d meets e
abbrev pub AreAtMost : ℕ → (ℕ → ℕ → Option ℤ) → (ℕ → ℕ → Option ℤ) → Type 0
AreAtMost n d e = (i j : ℕ) → i < n → j < n → AtMost (d i j) (e i j)

-- What code knows of the numbers of a matrix: so closing is asked of small bounds alone, and no sum leaves 128 bits.
use Rattle.std.specs.Prelude.{ℕ, ◌<◌, ◌^◌, ℤ, pos, neg_ℤ, ◌≤ℤ◌, ◌<ℤ◌, List, length, slice_index_or}
use Rattle.dbm_core.specs.Half.{HalfMatrix, entry, nodes}
use Rattle.dbm_core.specs.Limits.{AreWithin, HasZeroDiagonal, IsLimited, IsZeroAtMost}
use Rattle.dbm_close.specs.Close.{HasNoEmptyRange}
use Rattle.dbm_incremental.specs.ClosedMatrices.{IsClosed, IsWhole}

-- a closed matrix: the diagonal is 0, each bound is none or from -2^64 to 2^64, and no slot's range is empty
pub record IsTight (m : HalfMatrix) : Type 0 where
  pub closed : IsClosed m
  pub limited : IsLimited (2 ^ 64) m
  pub ranges : HasNoEmptyRange m.kinds (entry m)

-- a matrix within the limits of states
abbrev pub IsInLimits : HalfMatrix → Type 0
IsInLimits m = IsLimited (2 ^ 64) m

-- a matrix that obeys the triangle law, and whose diagonal is 0
pub record ObeysTriangles (m : HalfMatrix) : Type 0 where
  pub diagonal : HasZeroDiagonal (nodes m) (entry m)
  pub whole : IsWhole m

-- a matrix that can be closed
pub record IsReady (m : HalfMatrix) : Type 0 where
  pub diagonal : IsZeroAtMost (nodes m) (entry m)
  pub within : AreWithin (nodes m) (2 ^ 70) (entry m)

-- each is a number of 64 bits
abbrev pub AreWords : List ℤ → Type 0
AreWords xs = (k : ℕ) → k < length xs → (neg_ℤ (pos (2 ^ 63)) ≤ℤ slice_index_or xs k (pos 0)) × (slice_index_or xs k (pos 0) <ℤ pos (2 ^ 63))

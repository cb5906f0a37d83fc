-- What the fast steps answer.
use Rattle.std.specs.Prelude.{ℕ, ℤ, ◌<◌, ◌^◌, Option, Some, List, [], ◌∷◌}
use Rattle.dbm_close.specs.Close.{IsCloseOf}
use Rattle.dbm_close.specs.declared.closed.Closed.{Closed}
use Rattle.dbm_core.specs.Half.{HalfMatrix, HasEntries, entry}
use Rattle.dbm_core.specs.Limits.{IsWithin}
use Rattle.dbm_core.specs.Operations.{lowered}
use Rattle.dbm_incremental.specs.declared.bounds.Bound.{Bound}

-- each of the bounds is of two of the n nodes, and small
abbrev pub AreBounds : ℕ → List Bound → Type 0
AreBounds n [] = Unit {0}
AreBounds n (b ∷ bs) = ((b.row < n) × ((b.column < n) × IsWithin (2 ^ 70) (Some b.bound))) × AreBounds n bs

-- all of them lowered
abbrev pub lowered_all : (ℕ → ℕ → Option ℤ) → List Bound → ℕ → ℕ → Option ℤ
lowered_all w [] = w
lowered_all w (b ∷ bs) = lowered_all (lowered w b.row b.column b.bound) bs

-- c is what closing answers of m with the bounds lowered
abbrev pub ClosesAllLowered : HalfMatrix → List Bound → Closed → Type 0
ClosesAllLowered m bs c = (t : HalfMatrix) → HasEntries m.kinds (lowered_all (entry m) bs) t → IsCloseOf t c

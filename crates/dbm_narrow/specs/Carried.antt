-- What closing a matrix answers in which a slot stands for a node plus a number, its own or another's.
use Rattle.std.specs.Prelude.{◌≡◌, ℕ, ℤ}
use Rattle.dbm_close.specs.CloseOf.{close_of}
use Rattle.dbm_close.specs.declared.closed.Closed.{Closed}
use Rattle.dbm_close.specs.declared.closed.Closed.TheVariants as wide
use Rattle.dbm_core.specs.Half.{HalfMatrix, HasEntries, entry}
use Rattle.dbm_incremental.specs.ClosedMatrices.{IsClosed}
use Rattle.dbm_incremental.specs.Equations.{stood_entry}
use Rattle.dbm_narrow.specs.declared.closed.Closing.{Closing}
use Rattle.dbm_narrow.specs.declared.closed.Closing.TheVariants.{Empty, Matrix, TooWide}

-- a is what closing answers of a matrix that is m with slot q standing for node y plus c
abbrev pub ClosesStood : HalfMatrix → ℕ → ℕ → ℤ → Closed → Type 0
ClosesStood m q y c a = (n : HalfMatrix) × (HasEntries m.kinds (stood_entry (entry m) q y c) n × (a ≡ close_of n))

-- that answer, or nothing where c or a bound has left the limits; a matrix that it gives is closed
abbrev pub IsClosingStood : {W : Type 0} → HalfMatrix → ℕ → ℕ → ℤ → Closing W → Type 0
IsClosingStood m q y c Empty = ClosesStood m q y c wide.Empty
IsClosingStood m q y c (Matrix n) = ClosesStood m q y c (wide.Matrix n) × IsClosed n
IsClosingStood m q y c TooWide = Unit {0}

-- What closing a narrow matrix answers.
use Rattle.std.specs.Prelude.{◌≡◌, Bool, true, List, ℕ, ℤ}
use Rattle.dbm_close.specs.CloseOf.{close_of}
use Rattle.dbm_close.specs.declared.closed.Closed.TheVariants as wide
use Rattle.dbm_core.specs.Half.{HalfMatrix}
use Rattle.dbm_incremental.specs.ClosedMatrices.{IsClosed}
use Rattle.dbm_incremental.specs.declared.bounds.Bound.{Bound}
use Rattle.dbm_incremental.specs.Equations.{ClosesEquated}
use Rattle.dbm_incremental.specs.Steps.{ClosesAllLowered}
use Rattle.dbm_narrow.specs.declared.closed.Closing.{Closing}
use Rattle.dbm_narrow.specs.declared.closed.Closing.TheVariants.{Empty, Matrix, TooWide}

-- the definition's answer, or nothing where a bound has left the limits
abbrev pub IsClosing : {W : Type 0} → HalfMatrix → Closing W → Type 0
IsClosing m Empty = close_of m ≡ wide.Empty
IsClosing m (Matrix n) = close_of m ≡ wide.Matrix n
IsClosing m TooWide = Unit {0}

-- a bound leaves the limits of a width that is checked alone
abbrev pub ClosingLeavesIf : {W : Type 0} → Bool → Closing W → Type 0
ClosingLeavesIf checked Empty = Unit {0}
ClosingLeavesIf checked (Matrix n) = Unit {0}
ClosingLeavesIf checked TooWide = checked ≡ true

-- the same of closing a matrix with bounds lowered; a matrix that it gives is closed
abbrev pub IsClosingLowered : {W : Type 0} → HalfMatrix → List Bound → Closing W → Type 0
IsClosingLowered m bs Empty = ClosesAllLowered m bs wide.Empty
IsClosingLowered m bs (Matrix n) = ClosesAllLowered m bs (wide.Matrix n) × IsClosed n
IsClosingLowered m bs TooWide = Unit {0}

-- the same of closing a matrix with an equation
abbrev pub IsClosingEquated : {W : Type 0} → HalfMatrix → ℕ → ℕ → ℤ → Closing W → Type 0
IsClosingEquated m q y c Empty = ClosesEquated m q y c wide.Empty
IsClosingEquated m q y c (Matrix n) = ClosesEquated m q y c (wide.Matrix n) × IsClosed n
IsClosingEquated m q y c TooWide = Unit {0}

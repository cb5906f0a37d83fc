-- What closing answers, kept closed.
use Rattle.dbm_close.specs.declared.closed.Closed.{Closed}
use Rattle.dbm_close.specs.declared.closed.Closed.TheVariants.{Empty, Matrix}
use Rattle.dbm_incremental.specs.ClosedMatrices.{IsClosed}

-- Empty, or a closed matrix
abbrev pub IsClosedAnswer : Closed → Type 0
IsClosedAnswer Empty = Unit {0}
IsClosedAnswer (Matrix r) = IsClosed r

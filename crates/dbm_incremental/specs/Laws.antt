-- Laws of closed matrices.
use Rattle.std.specs.Prelude.{◌≡◌, ℕ}
use Rattle.dbm_close.specs.CloseOf.{close_of}
use Rattle.dbm_close.specs.declared.closed.Closed.TheVariants.{Matrix}
use Rattle.dbm_core.specs.Half.{HalfMatrix, HasEntries, IsMatrix, entry, nodes}
use Rattle.dbm_core.specs.Limits.{IsZeroAtMost}
use Rattle.dbm_core.specs.Operations.{forgotten, joined}
use Rattle.dbm_incremental.specs.Answers.{IsClosedAnswer}
use Rattle.dbm_incremental.specs.ClosedMatrices.{IsClosed, IsWhole}

-- what closing gives is closed
abbrev pub CloseIsClosed : Type 0
CloseIsClosed = (m : HalfMatrix) → IsMatrix m → IsZeroAtMost (nodes m) (entry m) → IsClosedAnswer (close_of m)

-- closing what is closed gives it again
abbrev pub ClosedIsItsClose : Type 0
ClosedIsItsClose = (m : HalfMatrix) → IsClosed m → close_of m ≡ Matrix m

-- the join of closed matrices is closed
abbrev pub JoinKeepsClosed : Type 0
JoinKeepsClosed = (a b r : HalfMatrix) → b.kinds ≡ a.kinds → IsClosed a → IsClosed b → HasEntries a.kinds (joined a b) r → IsClosed r

-- and obeys the triangle law where both do
abbrev pub JoinKeepsWhole : Type 0
JoinKeepsWhole = (a b r : HalfMatrix) → b.kinds ≡ a.kinds → IsWhole a → IsWhole b → HasEntries a.kinds (joined a b) r → IsWhole r

-- a closed matrix without the bounds on a slot is closed
abbrev pub ForgetKeepsClosed : Type 0
ForgetKeepsClosed = (m r : HalfMatrix) (q : ℕ) → IsClosed m → HasEntries m.kinds (forgotten (entry m) q) r → IsClosed r

-- and obeys the triangle law where it did
abbrev pub ForgetKeepsWhole : Type 0
ForgetKeepsWhole = (m r : HalfMatrix) (q : ℕ) → IsClosed m → IsWhole m → HasEntries m.kinds (forgotten (entry m) q) r → IsWhole r

-- Closed matrices and the function of closing.
use Rattle.std.specs.Prelude.{◌^◌}
use Rattle.std.proofs.Common.{sym, subst}
use Rattle.dbm_close.proofs.CloseOfLemmas.{close_of-is, close_of-keeps, close_of-only}
use Rattle.dbm_close.specs.Close.{IsCloseOf}
use Rattle.dbm_close.specs.CloseOf.{close_of}
use Rattle.dbm_close.specs.Laws.{IsLimitedAnswer}
use Rattle.dbm_close.specs.declared.closed.Closed.{Closed}
use Rattle.dbm_close.specs.declared.closed.Closed.TheVariants.{Empty, Matrix}
use Rattle.dbm_core.proofs.LimitLemmas.{zero-at_most}
use Rattle.dbm_core.specs.Half.{HalfMatrix, IsMatrix, entry, nodes}
use Rattle.dbm_core.specs.Limits.{IsLimited, IsZeroAtMost}
use Rattle.dbm_incremental.proofs.ClosedLemmas.{close-closed, closed-close}
use Rattle.dbm_incremental.proofs.KeepLemmas.{closed-diagonal}
use Rattle.dbm_incremental.specs.Answers.{IsClosedAnswer}
use Rattle.dbm_incremental.specs.ClosedMatrices.{IsClosed}
use Rattle.dbm_incremental.specs.Laws.{CloseIsClosed, ClosedIsItsClose}

answer-closed : (m : HalfMatrix) (c : Closed) → IsMatrix m → IsCloseOf m c → IsClosedAnswer c
answer-closed m Empty t p = tt
answer-closed m (Matrix r) t p = close-closed m r t p

pub close_of-closed : CloseIsClosed
close_of-closed m t z = answer-closed m (close_of m) t (close_of-is m t z)

pub closed-zero : (m : HalfMatrix) → IsClosed m → IsZeroAtMost (nodes m) (entry m)
closed-zero m c = zero-at_most (nodes m) (entry m) (closed-diagonal m c)

pub closed-same : ClosedIsItsClose
closed-same m c = sym (close_of-only m (Matrix m) c.1.matrix (closed-zero m c) (closed-close m c))

-- a closed matrix has a diagonal of 0 and bounds from -2^64 to 2^64
pub closed_limited : (m : HalfMatrix) → IsClosed m → IsLimited (2 ^ 64) m
closed_limited m c = subst IsLimitedAnswer (closed-same m c) (close_of-keeps m c.1.matrix (closed-zero m c)).limited

-- Closed states.
use Rattle.std.specs.Prelude.{◌≡◌, ◌^◌, Option, Some, None, IfSome, refl}
use Rattle.std.proofs.Common.{arith, sym, subst}
use Rattle.dbm_core.proofs.LimitLemmas.{zero-at_most}
use Rattle.dbm_core.specs.Half.{HalfMatrix, IsMatrix, entry, nodes}
use Rattle.dbm_core.specs.Limits.{IsLimited, IsZeroAtMost}
use Rattle.dbm_close.proofs.RoundLemmas.{AreWithin-more}
use Rattle.dbm_close.specs.CloseOf.{close_of}
use Rattle.dbm_close.specs.declared.closed.Closed.{Closed}
use Rattle.dbm_incremental.proofs.LawLemmas.{close_of-closed, closed_limited, closed-same}
use Rattle.dbm_incremental.specs.Answers.{IsClosedAnswer}
use Rattle.dbm_incremental.specs.ClosedMatrices.{IsClosed}
use Rattle.dom_octagon_meaning.specs.States.{closed}
use Rattle.dom_octagon_states.specs.Kept.{bounded_if}
use Rattle.dom_octagon_states.specs.Limits.{IsReady, IsTight}

pub closed_tight : (m : HalfMatrix) → IsClosed m → IsTight m
closed_tight m c = record { closed = c; limited = closed_limited m c; ranges = c.1.ranges }

-- what closing answers is closed
pub answer_closed : (m : HalfMatrix) (c : Closed) → IsMatrix m → IsZeroAtMost (nodes m) (entry m) → c ≡ close_of m → IsClosedAnswer c
answer_closed m c t z e = subst IsClosedAnswer (sym e) (close_of-closed m t z)

pub limited_closed : (m : HalfMatrix) (c : Closed) → IsMatrix m → IsLimited (2 ^ 64) m → c ≡ close_of m → IsClosedAnswer c
limited_closed m c t l e = answer_closed m c t (zero-at_most (nodes m) (entry m) l.diagonal) e

pub tight_if : (o : Option HalfMatrix) (c : Closed) → bounded_if o ≡ c → IsClosedAnswer c → IfSome o IsTight
tight_if None c e p = tt
tight_if (Some m) c e p = closed_tight m (subst IsClosedAnswer (sym e) p)

-- closing twice is closing once
pub closed_again : (o : Option HalfMatrix) (s : Closed) → bounded_if o ≡ closed s → IfSome o IsTight → closed (closed s) ≡ closed s
closed_again o s e t = subst (λ c. closed c ≡ c) e (by o t)
  where
    by : (o : Option HalfMatrix) → IfSome o IsTight → closed (bounded_if o) ≡ bounded_if o
    by None t = refl
    by (Some m) t = closed-same m t.closed

-- the limits of states are small
pub limited_ready : (m : HalfMatrix) → IsLimited (2 ^ 64) m → IsReady m
limited_ready m h = record { diagonal = zero-at_most (nodes m) (entry m) h.diagonal; within = AreWithin-more (nodes m) (2 ^ 64) (2 ^ 70) (entry m) (omega arith) h.within }

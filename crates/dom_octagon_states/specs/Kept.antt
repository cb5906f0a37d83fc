-- What is kept of a state, and which state that is.
use Rattle.std.specs.Prelude.{◌≡◌, ◌^◌, Option, Some, None}
use Rattle.dbm_core.specs.Half.{HalfMatrix}
use Rattle.dbm_core.specs.Limits.{IsLimited}
use Rattle.dbm_close.specs.CloseOf.{close_of}
use Rattle.dbm_close.specs.declared.closed.Closed.{Closed}
use Rattle.dbm_close.specs.declared.closed.Closed.TheVariants.{Empty, Matrix}
use Rattle.dbm_incremental.specs.ClosedMatrices.{IsClosed}
use Rattle.dom_octagon_states.specs.declared.kept.Kept.{Kept}
use Rattle.dom_octagon_states.specs.declared.kept.Kept.TheVariants.{Bounded, Nothing, Widened}

-- the state: the matrix, whatever else is kept
abbrev pub state_of : Kept → Closed
state_of Nothing = Empty
state_of (Bounded m) = Matrix m
state_of (Widened m c) = Matrix m

-- the state of a matrix, if there is one
abbrev pub bounded_if : Option HalfMatrix → Closed
bounded_if None = Empty
bounded_if (Some m) = Matrix m

-- a closed matrix, or one within the limits and what closing it answers
abbrev pub IsKept : Kept → Type 0
IsKept Nothing = Unit {0}
IsKept (Bounded m) = IsClosed m
IsKept (Widened m c) = IsLimited (2 ^ 64) m × (bounded_if c ≡ close_of m)

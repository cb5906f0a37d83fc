-- What a check leaves of a state.
use Rattle.std.specs.Prelude.{Option, Some, None}
use Rattle.dbm_close.specs.declared.closed.Closed.{Closed}
use Rattle.dom_octagon_meaning.specs.States.{closed}

-- the closed state of the other, if there is one, else of this one
abbrev pub closed_if : Option Closed → Closed → Closed
closed_if None s = closed s
closed_if (Some t) s = closed t

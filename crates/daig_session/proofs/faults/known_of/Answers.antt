use Rattle.std.proofs.Common.{subst}
use Rattle.daig_session.specs.Places.{Tells}
use Rattle.daig_session.proofs.faults.known_of.Goals as goal

pub returns-in-Ok : goal.returns-in-Ok
returns-in-Ok g c = record { known = λ a t. c.known_in.ensures.known a (subst (Tells a) c.in-Ok.is t) }

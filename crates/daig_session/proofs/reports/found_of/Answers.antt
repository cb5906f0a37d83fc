use Rattle.std.proofs.Common.{subst}
use Rattle.daig_session.specs.Places.{Tells}
use Rattle.daig_session.proofs.reports.found_of.Goals as goal

pub returns-in-Ok : goal.returns-in-Ok
returns-in-Ok g c = record { verdict = λ dom engine a e t. c.found_in.ensures.verdict dom engine a e (subst (Tells a) c.in-Ok.is t) }

use Rattle.std.proofs.Common.{subst}
use Rattle.daig_tickets.specs.Tickets.{IsPlaced}
use Rattle.daig_tickets.proofs.Closing.{placed}
use Rattle.daig_tickets.proofs.tickets.Tickets.place_of.Goals as goal

pub returns : goal.returns
returns g c = record { is = placed c.args.self.now c.args.number c.place_in.result (subst (λ os. IsPlaced c.args.number os c.place_in.result) c.as_slice.ensures.value c.place_in.ensures.is) }

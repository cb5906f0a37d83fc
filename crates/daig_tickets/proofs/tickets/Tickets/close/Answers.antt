use Rattle.std.proofs.Common.{refl}
use Rattle.daig_tickets.proofs.Closing.{closes, closed_is}
use Rattle.daig_tickets.proofs.tickets.Tickets.close.Goals as goal

pub returns-clause-tickets : goal.returns-clause-tickets
returns-clause-tickets g c = closes c.args.self.now _ c.args.place c.requires.tickets c.remove.ensures.items refl

pub returns-clause-closed : goal.returns-clause-closed
returns-clause-closed g c = λ n at. closed_is c.args.self.now (record { open_ones = c.remove.new.self; next = c.args.self.now.next }) c.args.place n c.requires.tickets c.remove.ensures.items at

use Rattle.std.proofs.Common.{refl}
use Rattle.daig_tickets.proofs.Opening.{opens}
use Rattle.daig_tickets.proofs.tickets.Tickets.add.Goals as goal

pub returns-clause-tickets : goal.returns-clause-tickets
returns-clause-tickets g c = opens c.args.self.now _ _ c.requires.tickets c.requires.few (c.in_ok-push.ensures {u = tt}).items refl refl

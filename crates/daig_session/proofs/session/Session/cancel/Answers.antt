use Rattle.std.proofs.Common.{Ok, Err, sym, subst}
use Rattle.std.proofs.lemmas.Option.{slice_get_within}
use Rattle.daig_session.specs.Holds.{Holds}
use Rattle.daig_session.specs.Turns.{Cancels}
use Rattle.daig_session.proofs.Ticketed.{closed_holds, closed_ready, no_ticket, ticket_here}
use Rattle.daig_session.proofs.session.Session.cancel.Goals as goal

pub returns-in-None-clause-cancels : goal.returns-in-None-clause-cancels
returns-in-None-clause-cancels g c = rw (← c.self.view_is) (λ m h.
    let s = c.self.inside.parts in
    let dom = g.D.Domain.operations s.engine.domain in
    subst (λ o. Cancels m (Holds dom s.engine.store s.book) c.args.ticket o (Err _)) (sym (no_ticket dom s.engine.store s.book m c.args.ticket h c.in-None.ensures.is)) h)

pub close-requires-clause-tickets : goal.close-requires-clause-tickets
close-requires-clause-tickets g c = c.self.invariant.order.are_open

pub close-requires-clause-there : goal.close-requires-clause-there
close-requires-clause-there g c = slice_get_within c.self.inside.parts.book.tickets.open_ones.items c.in-Some.place c.in-Some.ensures.is.one c.in-Some.ensures.is.there

pub invariant_of-self : goal.invariant_of-self
invariant_of-self g c =
    let s = c.self.inside.parts in
    closed_ready (g.D.Domain.operations s.engine.domain) s.book s.engine.store c.close.new.self c.in-Some.place c.self.invariant c.close.ensures.tickets c.close.ensures.rest

pub returns-in-Some-clause-cancels : goal.returns-in-Some-clause-cancels
returns-in-Some-clause-cancels g c = rw (← c.self.view_is) (λ m h.
    let s = c.self.inside.parts in
    let dom = g.D.Domain.operations s.engine.domain in
    let at = c.in-Some.ensures.is in
    subst (λ o. Cancels m (Holds dom s.engine.store (record s.book { tickets = c.close.new.self })) c.args.ticket o (Ok _)) (sym (ticket_here dom s.engine.store s.book m c.args.ticket c.in-Some.place at.one h c.self.invariant.order.are_open at.there at.same)) (
    closed_holds dom s.book s.engine.store c.close.new.self c.args.ticket m h (c.close.ensures.closed c.args.ticket at) c.close.ensures.next))

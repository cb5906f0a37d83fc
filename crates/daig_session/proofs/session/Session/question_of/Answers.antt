use Rattle.std.proofs.Common.{Some, sym, ap, ◌∙◌, arith}
use Rattle.std.proofs.lemmas.Option.{slice_get_within}
use Rattle.std.specs.Option.{option_map}
use Rattle.daig_machine.specs.Machine.{Ticket}
use Rattle.daig_tickets.specs.declared.tickets.OpenTicket.{OpenTicket}
use Rattle.daig_session.specs.declared.course.Course.{Course}
use Rattle.daig_session.proofs.TicketLemmas.{read_is}
use Rattle.daig_session.proofs.Ticketed.{no_ticket, ticket_here}
use Rattle.daig_session.proofs.session.Session.question_of.Goals as goal

pub returns-in-None : goal.returns-in-None
returns-in-None g c =
    rw (← c.self.view_is) (
    let s = c.self.inside.parts in
    record { is = λ m h. sym (ap (option_map (λ (t : Ticket). t.question)) (no_ticket (g.D.Domain.operations s.engine.domain) s.engine.store s.book m c.args.ticket h c.in-None.ensures.is)) })

pub index-one-requires : goal.index-one-requires
index-one-requires g c =
    let os = c.self.inside.parts.book.tickets.open_ones in
    let at = c.in-Some.ensures.is in
    let within = slice_get_within os.items c.in-Some.place at.one at.there in
    omega (arith, within, os.ok.0)

pub returns-in-Some : goal.returns-in-Some
returns-in-Some g c =
    rw (← c.self.view_is) (
    let s = c.self.inside.parts in
    let at = c.in-Some.ensures.is in
    let is = read_is s.book.tickets.open_ones.items c.in-Some.place c.index-one.result.now at.one c.index-one.ensures at.there in
    record { is = λ m h. ap (λ (o : OpenTicket Course). Some o.question) is ∙ sym (ap (option_map (λ (t : Ticket). t.question)) (ticket_here (g.D.Domain.operations s.engine.domain) s.engine.store s.book m c.args.ticket c.in-Some.place at.one h c.self.invariant.order.are_open at.there at.same)) })

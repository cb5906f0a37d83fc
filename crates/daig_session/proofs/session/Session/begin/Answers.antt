use Rattle.std.proofs.Common.{◌≡◌, Err, map, rules, sym, ap, subst, ◌∙◌, arith}
use Rattle.std.proofs.lemmas.Result.{err_from_is_err_and}
use Rattle.daig_machine.specs.Machine.{Machine}
use Rattle.daig_tickets.specs.Tickets.{ticket}
use Rattle.daig_session.specs.Books.{flow_in}
use Rattle.daig_session.specs.Going.{AreWaiting}
use Rattle.daig_session.specs.Holds.{Holds}
use Rattle.daig_session.specs.Turns.{Opens}
use Rattle.daig_session.proofs.Ticketed.{opened_holds, opened_ready, retold_holds, ticketed_ready, tickets_count}
use Rattle.daig_session.proofs.session.Session.begin.Goals as goal

pub returns-in_err-course-clause-opens : goal.returns-in_err-course-clause-opens
returns-in_err-course-clause-opens g c = rw (← c.self.view_is) (λ m h.
    let s = c.self.inside.parts in
    let dom = g.D.Domain.operations s.engine.domain in
    let stands = Holds dom s.engine.store s.book in
    let e : c.from_residual.result ≡ Err c.in_err-course.field-0.0 = search rules in
    subst (Opens dom m stands c.args.question) (sym e) (c.in_err-course.ensures.unopened m h))

pub add-requires-clause-tickets : goal.add-requires-clause-tickets
add-requires-clause-tickets g c = c.self.invariant.order.are_open

pub add-requires-clause-few : goal.add-requires-clause-few
add-requires-clause-few g c = c.in_ok-course.ensures.not_full

pub invariant_of-self : goal.invariant_of-self
invariant_of-self g c =
    let s = c.self.inside.parts in
    let dom = g.D.Domain.operations s.engine.domain in
    ticketed_ready dom s.engine.store s.book c.add.new.self c.self.invariant c.add.ensures.tickets (subst (AreWaiting dom (flow_in s.book) s.engine.store) (sym c.in_err-number.ensures.unchanged) c.self.invariant.waiting)

pub returns-in_err-number-clause-opens : goal.returns-in_err-number-clause-opens
returns-in_err-number-clause-opens g c = rw (← c.self.view_is) (λ m h.
    let s = c.self.inside.parts in
    let dom = g.D.Domain.operations s.engine.domain in
    let p = err_from_is_err_and c.from_residual-in_err-number.result c.from_residual-in_err-number.ensures.1 in
    rw (p.1, p.2) (retold_holds dom s.engine.store s.book c.add.new.self m h (ap (map ticket) c.in_err-number.ensures.unchanged) c.in_err-number.ensures.same_next))

pub invariant_of-self-2 : goal.invariant_of-self-2
invariant_of-self-2 g c =
    let s = c.self.inside.parts in
    let dom = g.D.Domain.operations s.engine.domain in
    opened_ready dom s.book s.engine.store c.add.new.self c.args.question c.in_ok-course.course c.self.invariant c.add.ensures.tickets c.in_ok-course.ensures.course c.in_ok-number.ensures.added

pub returns-clause-opens : goal.returns-clause-opens
returns-clause-opens g c = rw (← c.self.view_is) (λ m h.
    let s = c.self.inside.parts in
    let dom = g.D.Domain.operations s.engine.domain in
    let n = tickets_count dom s.engine.store s.book m h in (
      c.in_ok-number.ensures.number ∙ ap (λ (z : Machine). z.next_ticket) h.is,
      omega (arith, c.in_ok-course.ensures.not_full, n),
      c.in_ok-course.ensures.answered m h,
      opened_holds dom s.book s.engine.store c.add.new.self c.args.question c.in_ok-course.course m h c.in_ok-number.ensures.added c.in_ok-number.ensures.next,
    ))

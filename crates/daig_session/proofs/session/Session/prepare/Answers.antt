use Rattle.std.proofs.Common.{◌≡◌, refl, ap}
use Rattle.daig_tickets.specs.declared.tickets.Tickets.{Tickets}
use Rattle.daig_session.specs.declared.course.Course.{Course}
use Rattle.daig_session.proofs.Unchanged.{parts_hold, parts_ready}
use Rattle.daig_session.proofs.session.Session.prepare.Goals as goal

pub invariant_of-self : goal.invariant_of-self
invariant_of-self g c = parts_ready g.D.Domain.operations c.self.inside.parts c.planned.new.self c.planned.ensures.engine c.planned.ensures.same c.self.invariant

pub invariant_of-self-2 : goal.invariant_of-self-2
invariant_of-self-2 g c = parts_ready g.D.Domain.operations c.self.inside.parts c.planned.new.self c.planned.ensures.engine c.planned.ensures.same c.self.invariant

pub returns : goal.returns
returns g c =
    rw (← c.self.view_is) (
    let old = c.self.inside.parts in
    let new = c.planned.new.self in
    let same = c.planned.ensures.same in (
      (refl, λ w. refl, tt),
      record {
        rests = tt;
        same_reference = refl;
        planned = c.in_ok-planned.ensures.planned;
        holds = parts_hold g.D.Domain.operations old new c.planned.ensures.engine same;
        setup = (λ i. (c.planned.ensures.engine i).domain, λ i. (c.planned.ensures.engine i).spare);
        unmoved = λ i. (c.planned.ensures.engine i).store;
        next_ticket = ap (λ (t : Tickets Course). t.next) same.tickets_are;
        accepted = c.in_ok-planned.ensures.accepted;
        refused = tt;
      },
    ))

use Rattle.std.proofs.Common.{rules, ◌≡◌, ◌*◌, ◌+◌, ◌≤◌, suc, length, Err, Ok, None, refl, sym, ap, subst, ◌∙◌, arith}
use Rattle.std.proofs.lemmas.Option.{slice_get_within}
use Rattle.std.specs.Prelude.{IfOk, IfSome, MatchOption}
use Rattle.edit_history.specs.History.{Times}
use Rattle.imp_flow.specs.Plans.{Plan}
use Rattle.daig_machine.specs.Machine.{Machine, ticket_of}
use Rattle.daig_query.specs.Filled.{cells_added}
use Rattle.daig_query.proofs.Sweeps.{few-none, filled-bounded, swept-bounded}
use Rattle.daig_machine.specs.Turns.{missing_asked, refusal_asked}
use Rattle.daig_tickets.specs.Tickets.{anew, ticket, tickets, IsAt}
use Rattle.daig_session.specs.declared.course.Course.TheVariants.{Along, Place}
use Rattle.daig_session.specs.declared.error.StepError.TheVariants.{Gone, Memory, NoTicket}
use Rattle.daig_session.specs.declared.stepping.Stepped.TheVariants as stepped
use Rattle.daig_session.specs.Books.{flow_in}
use Rattle.daig_session.specs.Going.{HasComeFar}
use Rattle.daig_session.specs.Holds.{Holds}
use Rattle.daig_session.specs.Turns.{chains_read, work_until, IsSteppedOf, SoundUntil}
use Rattle.daig_session.proofs.Answering.{between_none, work_first}
use Rattle.daig_session.proofs.Ticketed.{closed_holds, closed_ready, no_ticket, ticket_here, without_flow, without_holds, without_ready, without_there}
use Rattle.daig_session.proofs.parts.Parts.step_until.Goals as goal

-- no such ticket is open
pub returns-in_default-clause-steps : goal.returns-in_default-clause-steps
returns-in_default-clause-steps g c = λ m h.
    let s = c.args.self.now in
    let dom = g.D.Domain.operations s.engine.domain in
    let none = subst (λ r. MatchOption r (ticket_of c.args.ticket (tickets s.book.tickets) ≡ None) (IsAt s.book.tickets c.args.ticket)) c.in_default.is c.place_of.ensures.is in
    subst (λ o. IsSteppedOf dom m (Holds dom s.engine.store s.book) c.args.ticket c.args.most o (Err NoTicket)) (sym (no_ticket dom s.engine.store s.book m c.args.ticket h none)) (refl, h)

pub returns-in_default-clause-ticked_filled : goal.returns-in_default-clause-ticked_filled
returns-in_default-clause-ticked_filled g c = λ m h.
    let s = c.args.self.now in
    let dom = g.D.Domain.operations s.engine.domain in
    let each = g.D.Domain.counted s.engine.domain in
    let steps = c.args.steps.now in
    let none = subst (λ r. MatchOption r (ticket_of c.args.ticket (tickets s.book.tickets) ≡ None) (IsAt s.book.tickets c.args.ticket)) c.in_default.is c.place_of.ensures.is in
    subst (λ o. MatchOption o (steps ≡ steps) (λ t. steps ≤ steps + each * suc (cells_added s.engine.store s.engine.store + 2 * chains_read m t.question))) (sym (no_ticket dom s.engine.store s.book m c.args.ticket h none)) refl

pub returns-in_default-clause-bounded : goal.returns-in_default-clause-bounded
returns-in_default-clause-bounded g c = λ b. swept-bounded c.args.self.now.engine.spare c.args.self.now.engine.store b

pub resumed-requires-clause-there : goal.resumed-requires-clause-there
resumed-requires-clause-there g c = slice_get_within c.args.self.now.book.tickets.open_ones.items c.in-Some.place c.in-Some.ensures.is.one c.in-Some.ensures.is.there

pub step_on-requires-clause-ready : goal.step_on-requires-clause-ready
step_on-requires-clause-ready g c =
    let s = c.args.self.now in
    let dom = g.D.Domain.operations s.engine.domain in
    let at = c.in-Some.ensures.is in
    let w = c.resumed.ensures.left in
    let there = without_there dom s.engine.store c.in-Some.place s.book c.resumed.new.book w at.one at.there in
    let here = λ (m : Machine) (h : Holds dom s.engine.store s.book m). sym (ticket_here dom s.engine.store s.book m c.args.ticket c.in-Some.place at.one h c.requires.ready.order.are_open at.there at.same) in
    let stood = λ (m : Machine) (h : Holds dom s.engine.store s.book m). without_holds dom s.engine.store c.in-Some.place s.book c.resumed.new.book w at.one at.there m h in
    without_ready dom s.engine.store c.in-Some.place s.book c.resumed.new.book w at.one at.there c.requires.ready

pub step_on-requires-clause-there : goal.step_on-requires-clause-there
step_on-requires-clause-there g c =
    let s = c.args.self.now in
    let dom = g.D.Domain.operations s.engine.domain in
    let at = c.in-Some.ensures.is in
    let w = c.resumed.ensures.left in
    let there = without_there dom s.engine.store c.in-Some.place s.book c.resumed.new.book w at.one at.there in
    let here = λ (m : Machine) (h : Holds dom s.engine.store s.book m). sym (ticket_here dom s.engine.store s.book m c.args.ticket c.in-Some.place at.one h c.requires.ready.order.are_open at.there at.same) in
    let stood = λ (m : Machine) (h : Holds dom s.engine.store s.book m). without_holds dom s.engine.store c.in-Some.place s.book c.resumed.new.book w at.one at.there m h in
    record {
      one = anew at.one;
      there = there;
      course =
          subst (λ (p : Plan). HasComeFar dom p s.engine.store at.one.question (Place c.in-Ok-Place.going)) (sym (without_flow dom s.engine.store c.in-Some.place s.book c.resumed.new.book w)) (
          subst (HasComeFar dom (flow_in s.book) s.engine.store at.one.question) c.in-Ok-Place.field-0-is (c.in-Ok-Place.ensures.going at.one at.there));
    }

pub step_along-requires-clause-ready : goal.step_along-requires-clause-ready
step_along-requires-clause-ready g c =
    let s = c.args.self.now in
    let dom = g.D.Domain.operations s.engine.domain in
    let at = c.in-Some.ensures.is in
    let w = c.resumed.ensures.left in
    let there = without_there dom s.engine.store c.in-Some.place s.book c.resumed.new.book w at.one at.there in
    let here = λ (m : Machine) (h : Holds dom s.engine.store s.book m). sym (ticket_here dom s.engine.store s.book m c.args.ticket c.in-Some.place at.one h c.requires.ready.order.are_open at.there at.same) in
    let stood = λ (m : Machine) (h : Holds dom s.engine.store s.book m). without_holds dom s.engine.store c.in-Some.place s.book c.resumed.new.book w at.one at.there m h in
    without_ready dom s.engine.store c.in-Some.place s.book c.resumed.new.book w at.one at.there c.requires.ready

pub step_along-requires-clause-there : goal.step_along-requires-clause-there
step_along-requires-clause-there g c =
    let s = c.args.self.now in
    let dom = g.D.Domain.operations s.engine.domain in
    let at = c.in-Some.ensures.is in
    let w = c.resumed.ensures.left in
    let there = without_there dom s.engine.store c.in-Some.place s.book c.resumed.new.book w at.one at.there in
    let here = λ (m : Machine) (h : Holds dom s.engine.store s.book m). sym (ticket_here dom s.engine.store s.book m c.args.ticket c.in-Some.place at.one h c.requires.ready.order.are_open at.there at.same) in
    let stood = λ (m : Machine) (h : Holds dom s.engine.store s.book m). without_holds dom s.engine.store c.in-Some.place s.book c.resumed.new.book w at.one at.there m h in
    record {
      one = anew at.one;
      there = there;
      course =
          subst (λ (p : Plan). HasComeFar dom p s.engine.store at.one.question (Along c.in-Ok-Along.tour)) (sym (without_flow dom s.engine.store c.in-Some.place s.book c.resumed.new.book w)) (
          subst (HasComeFar dom (flow_in s.book) s.engine.store at.one.question) c.in-Ok-Along.field-0-is (c.in-Ok-Along.ensures.going at.one at.there));
    }

pub close-requires-clause-tickets : goal.close-requires-clause-tickets
close-requires-clause-tickets g c =
    let s = c.args.self.now in
    let dom = g.D.Domain.operations s.engine.domain in
    let at = c.in-Some.ensures.is in
    let w = c.resumed.ensures.left in
    let there = without_there dom s.engine.store c.in-Some.place s.book c.resumed.new.book w at.one at.there in
    let here = λ (m : Machine) (h : Holds dom s.engine.store s.book m). sym (ticket_here dom s.engine.store s.book m c.args.ticket c.in-Some.place at.one h c.requires.ready.order.are_open at.there at.same) in
    let stood = λ (m : Machine) (h : Holds dom s.engine.store s.book m). without_holds dom s.engine.store c.in-Some.place s.book c.resumed.new.book w at.one at.there m h in
    (without_ready dom s.engine.store c.in-Some.place s.book c.resumed.new.book w at.one at.there c.requires.ready).order.are_open

pub close-requires-clause-there : goal.close-requires-clause-there
close-requires-clause-there g c =
    let s = c.args.self.now in
    let dom = g.D.Domain.operations s.engine.domain in
    let at = c.in-Some.ensures.is in
    let w = c.resumed.ensures.left in
    let there = without_there dom s.engine.store c.in-Some.place s.book c.resumed.new.book w at.one at.there in
    let here = λ (m : Machine) (h : Holds dom s.engine.store s.book m). sym (ticket_here dom s.engine.store s.book m c.args.ticket c.in-Some.place at.one h c.requires.ready.order.are_open at.there at.same) in
    let stood = λ (m : Machine) (h : Holds dom s.engine.store s.book m). without_holds dom s.engine.store c.in-Some.place s.book c.resumed.new.book w at.one at.there m h in
    slice_get_within c.resumed.new.book.tickets.open_ones.items c.in-Some.place (anew at.one) there

pub returns-in-Err-Refused-clause-ready : goal.returns-in-Err-Refused-clause-ready
returns-in-Err-Refused-clause-ready g c =
    let s = c.args.self.now in
    let dom = g.D.Domain.operations s.engine.domain in
    let at = c.in-Some.ensures.is in
    let w = c.resumed.ensures.left in
    let there = without_there dom s.engine.store c.in-Some.place s.book c.resumed.new.book w at.one at.there in
    let here = λ (m : Machine) (h : Holds dom s.engine.store s.book m). sym (ticket_here dom s.engine.store s.book m c.args.ticket c.in-Some.place at.one h c.requires.ready.order.are_open at.there at.same) in
    let stood = λ (m : Machine) (h : Holds dom s.engine.store s.book m). without_holds dom s.engine.store c.in-Some.place s.book c.resumed.new.book w at.one at.there m h in
    closed_ready dom c.resumed.new.book s.engine.store c.close.new.self c.in-Some.place (without_ready dom s.engine.store c.in-Some.place s.book c.resumed.new.book w at.one at.there c.requires.ready) c.close.ensures.tickets c.close.ensures.rest

pub returns-in-Err-Refused-clause-bounded : goal.returns-in-Err-Refused-clause-bounded
returns-in-Err-Refused-clause-bounded g c = λ b. swept-bounded c.args.self.now.engine.spare c.args.self.now.engine.store b

pub returns-in-Err-Refused-clause-steps : goal.returns-in-Err-Refused-clause-steps
returns-in-Err-Refused-clause-steps g c = λ m h.
    let s = c.args.self.now in
    let dom = g.D.Domain.operations s.engine.domain in
    let at = c.in-Some.ensures.is in
    let w = c.resumed.ensures.left in
    let there = without_there dom s.engine.store c.in-Some.place s.book c.resumed.new.book w at.one at.there in
    let here = λ (m : Machine) (h : Holds dom s.engine.store s.book m). sym (ticket_here dom s.engine.store s.book m c.args.ticket c.in-Some.place at.one h c.requires.ready.order.are_open at.there at.same) in
    let stood = λ (m : Machine) (h : Holds dom s.engine.store s.book m). without_holds dom s.engine.store c.in-Some.place s.book c.resumed.new.book w at.one at.there m h in
    let refusal = ap (λ (z : Machine). refusal_asked dom at.one.question z) h.is in
    subst (λ o. IsSteppedOf dom m (Holds dom s.engine.store (record c.resumed.new.book { tickets = c.close.new.self })) c.args.ticket c.args.most o (Err Gone)) (here m h) (
      at.same,
      record {
        why = c.in-Err-Refused._why;
        refused = sym refusal ∙ (rw c.in-Err-Refused.field-0-is at (c.in-Err-Refused.ensures.refused at.one at.there));
        after = closed_holds dom c.resumed.new.book s.engine.store c.close.new.self at.one.number m (stood m h) (c.close.ensures.closed at.one.number (record { one = anew at.one; there = there; same = refl })) c.close.ensures.next;
      },
    )

pub returns-in-Err-Refused-clause-ticked_filled : goal.returns-in-Err-Refused-clause-ticked_filled
returns-in-Err-Refused-clause-ticked_filled g c = λ m h.
    let s = c.args.self.now in
    let dom = g.D.Domain.operations s.engine.domain in
    let at = c.in-Some.ensures.is in
    let w = c.resumed.ensures.left in
    let there = without_there dom s.engine.store c.in-Some.place s.book c.resumed.new.book w at.one at.there in
    let here = λ (m : Machine) (h : Holds dom s.engine.store s.book m). sym (ticket_here dom s.engine.store s.book m c.args.ticket c.in-Some.place at.one h c.requires.ready.order.are_open at.there at.same) in
    let stood = λ (m : Machine) (h : Holds dom s.engine.store s.book m). without_holds dom s.engine.store c.in-Some.place s.book c.resumed.new.book w at.one at.there m h in
    let each = g.D.Domain.counted s.engine.domain in
    let steps = c.args.steps.now in
    subst (λ o. MatchOption o (steps ≡ steps) (λ t. steps ≤ steps + each * suc (cells_added s.engine.store s.engine.store + 2 * chains_read m t.question))) (here m h) (omega arith)

pub returns-in-Err-Memory-clause-ready : goal.returns-in-Err-Memory-clause-ready
returns-in-Err-Memory-clause-ready g c =
    let s = c.args.self.now in
    let dom = g.D.Domain.operations s.engine.domain in
    let at = c.in-Some.ensures.is in
    let w = c.resumed.ensures.left in
    let there = without_there dom s.engine.store c.in-Some.place s.book c.resumed.new.book w at.one at.there in
    let here = λ (m : Machine) (h : Holds dom s.engine.store s.book m). sym (ticket_here dom s.engine.store s.book m c.args.ticket c.in-Some.place at.one h c.requires.ready.order.are_open at.there at.same) in
    let stood = λ (m : Machine) (h : Holds dom s.engine.store s.book m). without_holds dom s.engine.store c.in-Some.place s.book c.resumed.new.book w at.one at.there m h in
    without_ready dom s.engine.store c.in-Some.place s.book c.resumed.new.book w at.one at.there c.requires.ready

pub returns-in-Err-Memory-clause-bounded : goal.returns-in-Err-Memory-clause-bounded
returns-in-Err-Memory-clause-bounded g c = λ b. swept-bounded c.args.self.now.engine.spare c.args.self.now.engine.store b

pub returns-in-Err-Memory-clause-steps : goal.returns-in-Err-Memory-clause-steps
returns-in-Err-Memory-clause-steps g c = λ m h.
    let s = c.args.self.now in
    let dom = g.D.Domain.operations s.engine.domain in
    let at = c.in-Some.ensures.is in
    let w = c.resumed.ensures.left in
    let there = without_there dom s.engine.store c.in-Some.place s.book c.resumed.new.book w at.one at.there in
    let here = λ (m : Machine) (h : Holds dom s.engine.store s.book m). sym (ticket_here dom s.engine.store s.book m c.args.ticket c.in-Some.place at.one h c.requires.ready.order.are_open at.there at.same) in
    let stood = λ (m : Machine) (h : Holds dom s.engine.store s.book m). without_holds dom s.engine.store c.in-Some.place s.book c.resumed.new.book w at.one at.there m h in
    subst (λ o. IsSteppedOf dom m (Holds dom s.engine.store c.resumed.new.book) c.args.ticket c.args.most o (Err Memory)) (here m h) (
      at.same,
      between_none (missing_asked dom at.one.question m) m (Holds dom s.engine.store c.resumed.new.book) (stood m h),
    )

pub returns-in-Err-Memory-clause-ticked_filled : goal.returns-in-Err-Memory-clause-ticked_filled
returns-in-Err-Memory-clause-ticked_filled g c = λ m h.
    let s = c.args.self.now in
    let dom = g.D.Domain.operations s.engine.domain in
    let at = c.in-Some.ensures.is in
    let w = c.resumed.ensures.left in
    let there = without_there dom s.engine.store c.in-Some.place s.book c.resumed.new.book w at.one at.there in
    let here = λ (m : Machine) (h : Holds dom s.engine.store s.book m). sym (ticket_here dom s.engine.store s.book m c.args.ticket c.in-Some.place at.one h c.requires.ready.order.are_open at.there at.same) in
    let stood = λ (m : Machine) (h : Holds dom s.engine.store s.book m). without_holds dom s.engine.store c.in-Some.place s.book c.resumed.new.book w at.one at.there m h in
    let each = g.D.Domain.counted s.engine.domain in
    let steps = c.args.steps.now in
    subst (λ o. MatchOption o (steps ≡ steps) (λ t. steps ≤ steps + each * suc (cells_added s.engine.store s.engine.store + 2 * chains_read m t.question))) (here m h) (omega arith)

pub returns-in_err-turn-in-Ok-Place-clause-ticked_filled : goal.returns-in_err-turn-in-Ok-Place-clause-ticked_filled
returns-in_err-turn-in-Ok-Place-clause-ticked_filled g c = λ m h.
    let s = c.args.self.now in
    let dom = g.D.Domain.operations s.engine.domain in
    let at = c.in-Some.ensures.is in
    let w = c.resumed.ensures.left in
    let there = without_there dom s.engine.store c.in-Some.place s.book c.resumed.new.book w at.one at.there in
    let here = λ (m : Machine) (h : Holds dom s.engine.store s.book m). sym (ticket_here dom s.engine.store s.book m c.args.ticket c.in-Some.place at.one h c.requires.ready.order.are_open at.there at.same) in
    let stood = λ (m : Machine) (h : Holds dom s.engine.store s.book m). without_holds dom s.engine.store c.in-Some.place s.book c.resumed.new.book w at.one at.there m h in
    let covers = g.D.Domain.covers s.engine.domain in
    let each = g.D.Domain.counted s.engine.domain in
    subst (λ o. MatchOption o (c.step_on.new.steps ≡ c.args.steps.now) (λ t. c.step_on.new.steps ≤ c.args.steps.now + each * suc (cells_added s.engine.store c.step_on.new.self.engine.store + 2 * chains_read m t.question))) (here m h) (c.step_on.ensures.ticked_filled m (anew at.one) (stood m h) there)

pub returns-in_err-turn-in-Ok-Place-clause-steps : goal.returns-in_err-turn-in-Ok-Place-clause-steps
returns-in_err-turn-in-Ok-Place-clause-steps g c = λ m h.
    let s = c.args.self.now in
    let dom = g.D.Domain.operations s.engine.domain in
    let at = c.in-Some.ensures.is in
    let w = c.resumed.ensures.left in
    let there = without_there dom s.engine.store c.in-Some.place s.book c.resumed.new.book w at.one at.there in
    let here = λ (m : Machine) (h : Holds dom s.engine.store s.book m). sym (ticket_here dom s.engine.store s.book m c.args.ticket c.in-Some.place at.one h c.requires.ready.order.are_open at.there at.same) in
    let stood = λ (m : Machine) (h : Holds dom s.engine.store s.book m). without_holds dom s.engine.store c.in-Some.place s.book c.resumed.new.book w at.one at.there m h in
    let new = c.step_on.new.self in
    let e : c.from_residual.result ≡ Err c.in_err-turn-in-Ok-Place.field-0.0 = search rules in
    subst (λ r. IsSteppedOf dom m (Holds (g.D.Domain.operations new.engine.domain) new.engine.store new.book) c.args.ticket c.args.most (ticket_of c.args.ticket m.tickets) r) (sym e) (
    subst (λ o. IsSteppedOf dom m (Holds (g.D.Domain.operations new.engine.domain) new.engine.store new.book) c.args.ticket c.args.most o (Err c.in_err-turn-in-Ok-Place.field-0.0)) (here m h) (
      at.same,
      c.in_err-turn-in-Ok-Place.ensures.steps m (anew at.one) (stood m h) there,
    ))

pub returns-in_ok-turn-in-Ok-Place-clause-steps : goal.returns-in_ok-turn-in-Ok-Place-clause-steps
returns-in_ok-turn-in-Ok-Place-clause-steps g c = λ m h.
    let s = c.args.self.now in
    let dom = g.D.Domain.operations s.engine.domain in
    let at = c.in-Some.ensures.is in
    let w = c.resumed.ensures.left in
    let there = without_there dom s.engine.store c.in-Some.place s.book c.resumed.new.book w at.one at.there in
    let here = λ (m : Machine) (h : Holds dom s.engine.store s.book m). sym (ticket_here dom s.engine.store s.book m c.args.ticket c.in-Some.place at.one h c.requires.ready.order.are_open at.there at.same) in
    let stood = λ (m : Machine) (h : Holds dom s.engine.store s.book m). without_holds dom s.engine.store c.in-Some.place s.book c.resumed.new.book w at.one at.there m h in
    let covers = g.D.Domain.covers s.engine.domain in
    let each = g.D.Domain.counted s.engine.domain in
    let new = c.step_on.new.self in
    subst (λ o. IsSteppedOf dom m (Holds (g.D.Domain.operations new.engine.domain) new.engine.store new.book) c.args.ticket c.args.most o (Ok (stepped.Told c.in_ok-turn-in-Ok-Place.turn))) (here m h) (at.same, c.in_ok-turn-in-Ok-Place.ensures.steps m (anew at.one) (stood m h) there)

pub returns-in_ok-turn-in-Ok-Place-clause-sound : goal.returns-in_ok-turn-in-Ok-Place-clause-sound
returns-in_ok-turn-in-Ok-Place-clause-sound g c = λ m h.
    let s = c.args.self.now in
    let dom = g.D.Domain.operations s.engine.domain in
    let at = c.in-Some.ensures.is in
    let w = c.resumed.ensures.left in
    let there = without_there dom s.engine.store c.in-Some.place s.book c.resumed.new.book w at.one at.there in
    let here = λ (m : Machine) (h : Holds dom s.engine.store s.book m). sym (ticket_here dom s.engine.store s.book m c.args.ticket c.in-Some.place at.one h c.requires.ready.order.are_open at.there at.same) in
    let stood = λ (m : Machine) (h : Holds dom s.engine.store s.book m). without_holds dom s.engine.store c.in-Some.place s.book c.resumed.new.book w at.one at.there m h in
    let covers = g.D.Domain.covers s.engine.domain in
    let each = g.D.Domain.counted s.engine.domain in
    subst (λ o. IfSome o (λ t. SoundUntil dom covers m.engine m.program t.question (stepped.Told c.in_ok-turn-in-Ok-Place.turn))) (here m h) (c.in_ok-turn-in-Ok-Place.ensures.sound m (anew at.one) (stood m h) there)

pub returns-in_ok-turn-in-Ok-Place-clause-ticked : goal.returns-in_ok-turn-in-Ok-Place-clause-ticked
returns-in_ok-turn-in-Ok-Place-clause-ticked g c = λ m h.
    let s = c.args.self.now in
    let dom = g.D.Domain.operations s.engine.domain in
    let at = c.in-Some.ensures.is in
    let w = c.resumed.ensures.left in
    let there = without_there dom s.engine.store c.in-Some.place s.book c.resumed.new.book w at.one at.there in
    let here = λ (m : Machine) (h : Holds dom s.engine.store s.book m). sym (ticket_here dom s.engine.store s.book m c.args.ticket c.in-Some.place at.one h c.requires.ready.order.are_open at.there at.same) in
    let stood = λ (m : Machine) (h : Holds dom s.engine.store s.book m). without_holds dom s.engine.store c.in-Some.place s.book c.resumed.new.book w at.one at.there m h in
    let covers = g.D.Domain.covers s.engine.domain in
    let each = g.D.Domain.counted s.engine.domain in
    subst (λ o. IfSome o (λ t. c.step_on.new.steps ≤ c.args.steps.now + each * work_until dom m t.question (stepped.Told c.in_ok-turn-in-Ok-Place.turn))) (here m h) (c.in_ok-turn-in-Ok-Place.ensures.ticked m (anew at.one) (stood m h) there)

pub returns-in_ok-turn-in-Ok-Place-clause-ticked_filled : goal.returns-in_ok-turn-in-Ok-Place-clause-ticked_filled
returns-in_ok-turn-in-Ok-Place-clause-ticked_filled g c = λ m h.
    let s = c.args.self.now in
    let dom = g.D.Domain.operations s.engine.domain in
    let at = c.in-Some.ensures.is in
    let w = c.resumed.ensures.left in
    let there = without_there dom s.engine.store c.in-Some.place s.book c.resumed.new.book w at.one at.there in
    let here = λ (m : Machine) (h : Holds dom s.engine.store s.book m). sym (ticket_here dom s.engine.store s.book m c.args.ticket c.in-Some.place at.one h c.requires.ready.order.are_open at.there at.same) in
    let stood = λ (m : Machine) (h : Holds dom s.engine.store s.book m). without_holds dom s.engine.store c.in-Some.place s.book c.resumed.new.book w at.one at.there m h in
    let covers = g.D.Domain.covers s.engine.domain in
    let each = g.D.Domain.counted s.engine.domain in
    subst (λ o. MatchOption o (c.step_on.new.steps ≡ c.args.steps.now) (λ t. c.step_on.new.steps ≤ c.args.steps.now + each * suc (cells_added s.engine.store c.step_on.new.self.engine.store + 2 * chains_read m t.question))) (here m h) (c.step_on.ensures.ticked_filled m (anew at.one) (stood m h) there)

pub returns-in-Ok-Along-clause-steps : goal.returns-in-Ok-Along-clause-steps
returns-in-Ok-Along-clause-steps g c = λ m h.
    let s = c.args.self.now in
    let dom = g.D.Domain.operations s.engine.domain in
    let at = c.in-Some.ensures.is in
    let w = c.resumed.ensures.left in
    let there = without_there dom s.engine.store c.in-Some.place s.book c.resumed.new.book w at.one at.there in
    let here = λ (m : Machine) (h : Holds dom s.engine.store s.book m). sym (ticket_here dom s.engine.store s.book m c.args.ticket c.in-Some.place at.one h c.requires.ready.order.are_open at.there at.same) in
    let stood = λ (m : Machine) (h : Holds dom s.engine.store s.book m). without_holds dom s.engine.store c.in-Some.place s.book c.resumed.new.book w at.one at.there m h in
    let covers = g.D.Domain.covers s.engine.domain in
    let each = g.D.Domain.counted s.engine.domain in
    let new = c.step_along.new.self in
    subst (λ o. IsSteppedOf dom m (Holds (g.D.Domain.operations new.engine.domain) new.engine.store new.book) c.args.ticket c.args.most o c.step_along.result) (here m h) (at.same, c.step_along.ensures.steps m (anew at.one) (stood m h) there)

pub returns-in-Ok-Along-clause-sound : goal.returns-in-Ok-Along-clause-sound
returns-in-Ok-Along-clause-sound g c = λ m h.
    let s = c.args.self.now in
    let dom = g.D.Domain.operations s.engine.domain in
    let at = c.in-Some.ensures.is in
    let w = c.resumed.ensures.left in
    let there = without_there dom s.engine.store c.in-Some.place s.book c.resumed.new.book w at.one at.there in
    let here = λ (m : Machine) (h : Holds dom s.engine.store s.book m). sym (ticket_here dom s.engine.store s.book m c.args.ticket c.in-Some.place at.one h c.requires.ready.order.are_open at.there at.same) in
    let stood = λ (m : Machine) (h : Holds dom s.engine.store s.book m). without_holds dom s.engine.store c.in-Some.place s.book c.resumed.new.book w at.one at.there m h in
    let covers = g.D.Domain.covers s.engine.domain in
    let each = g.D.Domain.counted s.engine.domain in
    subst (λ o. IfOk c.step_along.result (λ turn. IfSome o (λ t. SoundUntil dom covers m.engine m.program t.question turn))) (here m h) (c.step_along.ensures.sound m (anew at.one) (stood m h) there)

pub returns-in-Ok-Along-clause-ticked : goal.returns-in-Ok-Along-clause-ticked
returns-in-Ok-Along-clause-ticked g c = λ m h.
    let s = c.args.self.now in
    let dom = g.D.Domain.operations s.engine.domain in
    let at = c.in-Some.ensures.is in
    let w = c.resumed.ensures.left in
    let there = without_there dom s.engine.store c.in-Some.place s.book c.resumed.new.book w at.one at.there in
    let here = λ (m : Machine) (h : Holds dom s.engine.store s.book m). sym (ticket_here dom s.engine.store s.book m c.args.ticket c.in-Some.place at.one h c.requires.ready.order.are_open at.there at.same) in
    let stood = λ (m : Machine) (h : Holds dom s.engine.store s.book m). without_holds dom s.engine.store c.in-Some.place s.book c.resumed.new.book w at.one at.there m h in
    let covers = g.D.Domain.covers s.engine.domain in
    let each = g.D.Domain.counted s.engine.domain in
    subst (λ o. IfOk c.step_along.result (λ turn. IfSome o (λ t. c.step_along.new.steps ≤ c.args.steps.now + each * work_until dom m t.question turn))) (here m h) (c.step_along.ensures.ticked m (anew at.one) (stood m h) there)

pub returns-in-Ok-Along-clause-ticked_filled : goal.returns-in-Ok-Along-clause-ticked_filled
returns-in-Ok-Along-clause-ticked_filled g c = λ m h.
    let s = c.args.self.now in
    let dom = g.D.Domain.operations s.engine.domain in
    let at = c.in-Some.ensures.is in
    let w = c.resumed.ensures.left in
    let there = without_there dom s.engine.store c.in-Some.place s.book c.resumed.new.book w at.one at.there in
    let here = λ (m : Machine) (h : Holds dom s.engine.store s.book m). sym (ticket_here dom s.engine.store s.book m c.args.ticket c.in-Some.place at.one h c.requires.ready.order.are_open at.there at.same) in
    let stood = λ (m : Machine) (h : Holds dom s.engine.store s.book m). without_holds dom s.engine.store c.in-Some.place s.book c.resumed.new.book w at.one at.there m h in
    let covers = g.D.Domain.covers s.engine.domain in
    let each = g.D.Domain.counted s.engine.domain in
    let k = cells_added s.engine.store c.step_along.new.self.engine.store in
    subst (λ o. MatchOption o (c.step_along.new.steps ≡ c.args.steps.now) (λ t. c.step_along.new.steps ≤ c.args.steps.now + each * suc (k + 2 * chains_read m t.question))) (here m h) (work_first c.args.steps.now c.step_along.new.steps each k (2 * chains_read m at.one.question) c.step_along.ensures.ticked_filled)

use Rattle.std.proofs.Common.{◌≡◌, List, ℕ, Some, slice_get, sym, subst, ◌∙◌, arith}
use Rattle.std.proofs.lemmas.Option.{slice_get_within}
use Rattle.std.specs.Prelude.{IfErr, IfOk, IfSome}
use Rattle.imp_flow.specs.Plans.{Plan}
use Rattle.daig_query.specs.Right.{IsRight}
use Rattle.daig_machine.specs.Turns.{refusal_by}
use Rattle.daig_tickets.specs.declared.tickets.OpenTicket.{OpenTicket}
use Rattle.daig_tickets.specs.Tickets.{anew}
use Rattle.daig_session.specs.declared.course.Course.{Course}
use Rattle.daig_session.specs.Books.{flow_in}
use Rattle.daig_session.specs.Going.{HasComeFar, TellsRefusal}
use Rattle.daig_session.proofs.TicketLemmas.{read_is, set_there}
use Rattle.daig_session.proofs.Waiting.{waiting_get}
use Rattle.daig_session.proofs.stepping.resumed.Goals as goal
use Rattle.base_values.proofs.Lists.{get_some}

pub index-one-requires : goal.index-one-requires
index-one-requires g c =
    let os = c.args.book.now.tickets.open_ones.items in
    let p = get_some os c.args.place c.requires.there in
    let there = subst (λ us. slice_get us c.args.place ≡ Some (anew p.0)) (sym (c.take_going.ensures.left p.0 p.1)) (set_there os c.args.place p.0 (anew p.0) p.1) in
    let within = slice_get_within c.take_going.new.open_ones.items c.args.place (anew p.0) there in
    omega (arith, within, c.take_going.new.open_ones.ok.0)

pub returns-in-Some-clause-going : goal.returns-in-Some-clause-going
returns-in-Some-clause-going g c = λ o e.
    let dom = g.D.Domain.operations c.args.engine.now.domain in
    let book = c.args.book.now in
    let store = c.args.engine.now.store in
    let waits = waiting_get dom (flow_in book) store book.tickets.open_ones.items c.args.place o c.requires.ready.waiting e in
    subst (λ x. IfSome x (HasComeFar dom (flow_in book) store o.question)) (sym (c.take_going.ensures.taken o e) ∙ c.in-Some.is) waits

pub begun_course-requires : goal.begun_course-requires
begun_course-requires g c = record { right = subst (λ (p : Plan). IsRight (g.D.Domain.operations c.args.engine.now.domain) p c.args.engine.now.store) (sym c.flow-flow.ensures.is) c.requires.ready.right }

pub returns-in-None-clause-going : goal.returns-in-None-clause-going
returns-in-None-clause-going g c = λ o e.
    let dom = g.D.Domain.operations c.args.engine.now.domain in
    let book = c.args.book.now in
    let store = c.args.engine.now.store in
    let one = c.index-one.result.now in
    let there = subst (λ us. slice_get us c.args.place ≡ Some (anew o)) (sym (c.take_going.ensures.left o e)) (set_there book.tickets.open_ones.items c.args.place o (anew o) e) in
    let is = read_is c.take_going.new.open_ones.items c.args.place one (anew o) c.index-one.ensures there in
    subst (λ (x : OpenTicket Course). IfOk c.begun_course.result (HasComeFar dom (flow_in book) store x.question)) is (
    subst (λ (p : Plan). IfOk c.begun_course.result (HasComeFar dom p store one.question)) c.flow-flow.ensures.is c.begun_course.ensures.course)

pub returns-in-None-clause-refused : goal.returns-in-None-clause-refused
returns-in-None-clause-refused g c = λ o e.
    let dom = g.D.Domain.operations c.args.engine.now.domain in
    let book = c.args.book.now in
    let one = c.index-one.result.now in
    let there = subst (λ us. slice_get us c.args.place ≡ Some (anew o)) (sym (c.take_going.ensures.left o e)) (set_there book.tickets.open_ones.items c.args.place o (anew o) e) in
    let is = read_is c.take_going.new.open_ones.items c.args.place one (anew o) c.index-one.ensures there in
    subst (λ (x : OpenTicket Course). IfErr c.begun_course.result (TellsRefusal (refusal_by dom (flow_in book).engine (flow_in book).program x.question))) is (
    subst (λ (p : Plan). IfErr c.begun_course.result (TellsRefusal (refusal_by dom p.engine p.program one.question))) c.flow-flow.ensures.is c.begun_course.ensures.refused)

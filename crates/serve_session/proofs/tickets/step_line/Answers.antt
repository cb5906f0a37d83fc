use Rattle.std.proofs.Common.{◌≡◌, Option, Some, option_map, subst, sym, ◌∙◌}
use Rattle.fault_words.specs.declared.finding.FaultVerdict.{FaultVerdict}
use Rattle.imp_syntax.specs.declared.edit.Location.{Location}
use Rattle.daig_machine.specs.Machine.{Ticket, ticket_of}
use Rattle.daig_session.specs.Holds.{Holds}
use Rattle.request_json.specs.declared.reply.Refusal.{Refusal}
use Rattle.serve_session.specs.Followed.{told_at, told_only, Tells, TellsTurn}
use Rattle.serve_session.proofs.Turned.{step_follows, step_halts, unstepped_follows, unstepped_halts}
use Rattle.serve_session.proofs.tickets.step_line.Goals as goal

pub returns-in-Ok-clause-turn : goal.returns-in-Ok-clause-turn
returns-in-Ok-clause-turn g c = λ m h.
    let now = c.args.session.now in
    let dom = g.D.Domain.operations now.engine.domain in
    let new = c.step.new.self in
    let stands = Holds (g.D.Domain.operations new.engine.domain) new.engine.store new.book in
    let q = c.in-Some.question.now in
    let tells =
    subst (λ (d : g.row.D.Denot). TellsTurn c.turn_line.result (λ v. v.items) (g.D.Domain.operations d) stands c.in_ok-at.at c.told_only-only.result c.in-Ok.turn) c.step.ensures.setup.0 c.turn_line.ensures.tells in
    step_follows dom m stands c.args.n c.turn_line.result (λ v. v.items) (ticket_of c.args.ticket m.tickets) q (c.in-Some.ensures.is m h) c.in-Ok.turn (c.in-Ok.ensures.steps m h)
    (subst (λ (at : Location). TellsTurn c.turn_line.result (λ v. v.items) dom stands at (told_only q) c.in-Ok.turn) c.in_ok-at.ensures.is
    (subst (λ (only : Option FaultVerdict). TellsTurn c.turn_line.result (λ v. v.items) dom stands c.in_ok-at.at only c.in-Ok.turn) c.told_only-only.ensures.is tells))

pub returns-in-Ok-clause-between : goal.returns-in-Ok-clause-between
returns-in-Ok-clause-between g c = λ m h.
    let dom = g.D.Domain.operations c.args.session.now.engine.domain in
    let new = c.step.new.self in
    let stands = Holds (g.D.Domain.operations new.engine.domain) new.engine.store new.book in
    step_halts dom m stands c.args.n c.turn_line.result (ticket_of c.args.ticket m.tickets) c.in-Ok.turn (c.in-Ok.ensures.steps m h)

pub returns-clause-turn : goal.returns-clause-turn
returns-clause-turn g c = λ m h.
    let dom = g.D.Domain.operations c.args.session.now.engine.domain in
    let new = c.step.new.self in
    let stands = Holds (g.D.Domain.operations new.engine.domain) new.engine.store new.book in
    unstepped_follows dom m stands c.args.n c.refused_if.result (λ v. v.items) (ticket_of c.args.ticket m.tickets) c.in-Err.error (c.in-Err.ensures.steps m h)
    (subst (λ (why : Option Refusal). Tells c.refused_if.result (λ v. v.items) why) c.step_refusal.ensures.is c.refused_if.ensures.tells)

pub returns-clause-between : goal.returns-clause-between
returns-clause-between g c = λ m h.
    let dom = g.D.Domain.operations c.args.session.now.engine.domain in
    let new = c.step.new.self in
    let stands = Holds (g.D.Domain.operations new.engine.domain) new.engine.store new.book in
    unstepped_halts dom m stands c.args.n c.refused_if.result (ticket_of c.args.ticket m.tickets) c.in-Err.error (c.in-Err.ensures.steps m h)

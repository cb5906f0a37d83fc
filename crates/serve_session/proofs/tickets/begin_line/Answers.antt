use Rattle.std.proofs.Common.{ℕ, Option, Ok, Err, ap, subst, ◌∙◌}
use Rattle.daig_machine.specs.declared.question.Question.{Question}
use Rattle.daig_session.specs.Holds.{Holds}
use Rattle.daig_session.specs.Turns.{Opens}
use Rattle.request_json.specs.declared.reply.Reply.TheVariants as r
use Rattle.request_json.specs.declared.reply.Refusal.{Refusal}
use Rattle.request_json.specs.Replies.{reply_text}
use Rattle.serve_answers.specs.Turns.{begin_turn, question_of}
use Rattle.serve_session.specs.Followed.{Tells}
use Rattle.serve_session.proofs.Replied.{line_follows, on_error}
use Rattle.serve_session.proofs.Turned.{opened, unopened_follows, unopened_stays}
use Rattle.serve_session.proofs.tickets.begin_line.Goals as goal

pub returns-in-Ok-clause-turn : goal.returns-in-Ok-clause-turn
returns-in-Ok-clause-turn g c = λ m h.
    let dom = g.D.Domain.operations c.args.session.now.engine.domain in
    let stands = Holds (g.D.Domain.operations c.begin.new.self.engine.domain) c.begin.new.self.engine.store c.begin.new.self.book in
    let q = question_of c.args.task in
    let opens : Opens dom m stands q (Ok c.in-Ok.field-0) = subst (λ (asked : Question). Opens dom m stands asked (Ok c.in-Ok.field-0)) c.in_ok-question.ensures.is (c.in-Ok.ensures.opens m h) in
    line_follows (begin_turn dom q m) stands (r.Ticket m.next_ticket) c.in_ok-line.line.items (opened dom m q stands c.in-Ok.field-0 opens)
    (c.in_ok-line.ensures.line ∙ ap (λ (n : ℕ). reply_text (r.Ticket n)) (c.next_ticket.ensures.is m h))

pub returns-in-Err-clause-turn : goal.returns-in-Err-clause-turn
returns-in-Err-clause-turn g c = λ m h.
    let dom = g.D.Domain.operations c.args.session.now.engine.domain in
    let stands = Holds (g.D.Domain.operations c.begin.new.self.engine.domain) c.begin.new.self.engine.store c.begin.new.self.book in
    let q = question_of c.args.task in
    let opens : Opens dom m stands q (Err c.in-Err.error) = subst (λ (asked : Question). Opens dom m stands asked (Err c.in-Err.error)) c.in_ok-question.ensures.is (c.in-Err.ensures.opens m h) in
    unopened_follows dom m q stands c.refused_if.result (λ v. v.items) c.in-Err.error opens
    (subst (λ (why : Option Refusal). Tells c.refused_if.result (λ v. v.items) why) c.ask_refusal.ensures.is c.refused_if.ensures.tells)

pub returns-in-Err-clause-unchanged : goal.returns-in-Err-clause-unchanged
returns-in-Err-clause-unchanged g c = λ m h.
    let dom = g.D.Domain.operations c.args.session.now.engine.domain in
    let stands = Holds (g.D.Domain.operations c.begin.new.self.engine.domain) c.begin.new.self.engine.store c.begin.new.self.book in
    let q = question_of c.args.task in
    let opens : Opens dom m stands q (Err c.in-Err.error) = subst (λ (asked : Question). Opens dom m stands asked (Err c.in-Err.error)) c.in_ok-question.ensures.is (c.in-Err.ensures.opens m h) in
    on_error c.refused_if.result (stands m) (unopened_stays dom m q stands c.in-Err.error opens)

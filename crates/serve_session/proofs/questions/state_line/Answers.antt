use Rattle.std.proofs.Common.{◌≡◌, ℕ, List, Option, Ok, ap, subst, ◌∙◌}
use Rattle.imp_check.specs.Slots.{routines_of}
use Rattle.daig_machine.specs.Turns.{answer_at, after_question}
use Rattle.daig_session.specs.Holds.{Holds}
use Rattle.daig_session.specs.Turns.{Fails, Questions}
use Rattle.request_json.specs.declared.reply.Refusal.{Refusal}
use Rattle.serve_replies.specs.States.{answer_reply, layout_at}
use Rattle.serve_answers.specs.Turns.{state_by, state_turn}
use Rattle.serve_session.specs.Followed.{Tells}
use Rattle.serve_session.proofs.Replied.{Writes, follows}
use Rattle.serve_session.proofs.Turned.{state_answered, unanswered_follows, unanswered_halts}
use Rattle.serve_session.proofs.questions.state_line.Goals as goal

pub returns-in-Ok-clause-turn : goal.returns-in-Ok-clause-turn
returns-in-Ok-clause-turn g c = λ m h.
    let dom = g.D.Domain.operations c.args.session.now.engine.domain in
    let at = c.args.query.now.at in
    let stands = Holds (g.D.Domain.operations c.query.new.self.engine.domain) c.query.new.self.engine.store c.query.new.self.book in
    let string : c.as_slice.result.now ≡ c.args.query.now.string = c.as_slice.ensures.same ∙ c.in_ok-string.ensures.numbers in
    let is : Questions dom m stands at c.args.query.now.string (Ok c.in-Ok.value) = subst (λ (s : List ℕ). Questions dom m stands at s (Ok c.in-Ok.value)) string (c.in-Ok.ensures.answers m h) in
    let a = answer_at dom at c.args.query.now.string m in
    follows c.value_line.result (λ v. v.items) (state_turn dom c.args.query.now m) stands (answer_reply dom (layout_at (routines_of m.program) at) a) (state_answered dom m stands c.args.query.now c.in-Ok.value is)
    (subst (λ (d : g.row.D.Denot). Writes c.value_line.result (λ v. v.items) (answer_reply (g.D.Domain.operations d) (layout_at (routines_of m.program) at) a)) c.query.ensures.setup.0
    (c.value_line.ensures.line (after_question dom at c.args.query.now.string m) a is.1 is.0))

pub returns-clause-turn : goal.returns-clause-turn
returns-clause-turn g c = λ m h.
    let dom = g.D.Domain.operations c.args.session.now.engine.domain in
    let query = c.args.query.now in
    let stands = Holds (g.D.Domain.operations c.query.new.self.engine.domain) c.query.new.self.engine.store c.query.new.self.book in
    let string : c.as_slice.result.now ≡ query.string = c.as_slice.ensures.same ∙ c.in_ok-string.ensures.numbers in
    let fails : Fails dom m stands query.at query.string c.in-Err.error = subst (λ (s : List ℕ). Fails dom m stands query.at s c.in-Err.error) string (c.in-Err.ensures.answers m h) in
    unanswered_follows dom m stands query (state_turn dom query m) (λ why is. ap (λ a. state_by dom query a m) is) c.refused_if.result (λ v. v.items) c.in-Err.error fails
    (subst (λ (why : Option Refusal). Tells c.refused_if.result (λ v. v.items) why) c.query_refusal.ensures.is c.refused_if.ensures.tells)

pub returns-clause-between : goal.returns-clause-between
returns-clause-between g c = λ m h.
    let dom = g.D.Domain.operations c.args.session.now.engine.domain in
    let query = c.args.query.now in
    let stands = Holds (g.D.Domain.operations c.query.new.self.engine.domain) c.query.new.self.engine.store c.query.new.self.book in
    let string : c.as_slice.result.now ≡ query.string = c.as_slice.ensures.same ∙ c.in_ok-string.ensures.numbers in
    let fails : Fails dom m stands query.at query.string c.in-Err.error = subst (λ (s : List ℕ). Fails dom m stands query.at s c.in-Err.error) string (c.in-Err.ensures.answers m h) in
    unanswered_halts dom m stands query (state_turn dom query m) (λ why is. ap (λ a. state_by dom query a m) is) c.refused_if.result (λ v. v.items) c.in-Err.error fails

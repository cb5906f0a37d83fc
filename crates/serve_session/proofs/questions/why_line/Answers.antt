use Rattle.std.proofs.Common.{◌≡◌, ℕ, List, Option, Ok, ap, subst, ◌∙◌}
use Rattle.daig_machine.specs.Turns.{missing_at}
use Rattle.daig_session.specs.Holds.{Holds}
use Rattle.daig_session.specs.Turns.{Explains, Fails}
use Rattle.request_json.specs.declared.reply.Reply.TheVariants as r
use Rattle.request_json.specs.declared.reply.Refusal.{Refusal}
use Rattle.serve_answers.specs.Turns.{why_by, why_turn}
use Rattle.serve_session.specs.Followed.{Tells}
use Rattle.serve_session.proofs.Replied.{follows, halted_after}
use Rattle.serve_session.proofs.Turned.{why_answered, unanswered_follows, unanswered_halts}
use Rattle.serve_session.proofs.questions.why_line.Goals as goal

pub returns-in-Ok-clause-turn : goal.returns-in-Ok-clause-turn
returns-in-Ok-clause-turn g c = λ m h.
    let dom = g.D.Domain.operations c.args.session.now.engine.domain in
    let at = c.args.query.now.at in
    let stands = Holds (g.D.Domain.operations c.why.new.self.engine.domain) c.why.new.self.engine.store c.why.new.self.book in
    let string : c.as_slice.result.now ≡ c.args.query.now.string = c.as_slice.ensures.same ∙ c.in_ok-string.ensures.numbers in
    let is : Explains dom m stands at c.args.query.now.string (Ok c.in-Ok.stmts) = subst (λ (s : List ℕ). Explains dom m stands at s (Ok c.in-Ok.stmts)) string (c.in-Ok.ensures.explains m h) in
    follows c.line_of.result (λ v. v.items) (why_turn dom c.args.query.now m) stands (r.Why c.in-Ok.stmts) (why_answered dom m stands c.args.query.now c.in-Ok.stmts is) c.line_of.ensures.line

pub returns-in-Ok-clause-between : goal.returns-in-Ok-clause-between
returns-in-Ok-clause-between g c = λ m h.
    let dom = g.D.Domain.operations c.args.session.now.engine.domain in
    let at = c.args.query.now.at in
    let stands = Holds (g.D.Domain.operations c.why.new.self.engine.domain) c.why.new.self.engine.store c.why.new.self.book in
    let string : c.as_slice.result.now ≡ c.args.query.now.string = c.as_slice.ensures.same ∙ c.in_ok-string.ensures.numbers in
    let is : Explains dom m stands at c.args.query.now.string (Ok c.in-Ok.stmts) = subst (λ (s : List ℕ). Explains dom m stands at s (Ok c.in-Ok.stmts)) string (c.in-Ok.ensures.explains m h) in
    halted_after c.line_of.result (missing_at dom at c.args.query.now.string m) (why_turn dom c.args.query.now m) m stands (r.Why c.in-Ok.stmts) (why_answered dom m stands c.args.query.now c.in-Ok.stmts is)

pub returns-clause-turn : goal.returns-clause-turn
returns-clause-turn g c = λ m h.
    let dom = g.D.Domain.operations c.args.session.now.engine.domain in
    let query = c.args.query.now in
    let stands = Holds (g.D.Domain.operations c.why.new.self.engine.domain) c.why.new.self.engine.store c.why.new.self.book in
    let string : c.as_slice.result.now ≡ query.string = c.as_slice.ensures.same ∙ c.in_ok-string.ensures.numbers in
    let fails : Fails dom m stands query.at query.string c.in-Err.error = subst (λ (s : List ℕ). Fails dom m stands query.at s c.in-Err.error) string (c.in-Err.ensures.explains m h) in
    unanswered_follows dom m stands query (why_turn dom query m) (λ why is. ap (λ a. why_by dom query a m) is) c.refused_if.result (λ v. v.items) c.in-Err.error fails
    (subst (λ (why : Option Refusal). Tells c.refused_if.result (λ v. v.items) why) c.query_refusal.ensures.is c.refused_if.ensures.tells)

pub returns-clause-between : goal.returns-clause-between
returns-clause-between g c = λ m h.
    let dom = g.D.Domain.operations c.args.session.now.engine.domain in
    let query = c.args.query.now in
    let stands = Holds (g.D.Domain.operations c.why.new.self.engine.domain) c.why.new.self.engine.store c.why.new.self.book in
    let string : c.as_slice.result.now ≡ query.string = c.as_slice.ensures.same ∙ c.in_ok-string.ensures.numbers in
    let fails : Fails dom m stands query.at query.string c.in-Err.error = subst (λ (s : List ℕ). Fails dom m stands query.at s c.in-Err.error) string (c.in-Err.ensures.explains m h) in
    unanswered_halts dom m stands query (why_turn dom query m) (λ why is. ap (λ a. why_by dom query a m) is) c.refused_if.result (λ v. v.items) c.in-Err.error fails

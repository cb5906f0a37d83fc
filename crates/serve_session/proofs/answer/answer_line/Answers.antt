use Rattle.std.proofs.Common.{◌≡◌, Result, IfOk, IfErr, refl, sym, subst}
use Rattle.daig_session.specs.Holds.{Holds}
use Rattle.request_json.specs.declared.error.ReadError.{ReadError}
use Rattle.request_json.specs.declared.error.ReadError.TheVariants as error
use Rattle.request_json.specs.declared.request.Request.{Request}
use Rattle.request_json.specs.declared.reply.Reply.TheVariants as r
use Rattle.request_json.specs.Requests.{request_of}
use Rattle.serve_replies.specs.Refusals.{line_refusal}
use Rattle.serve_answers.specs.Lines.{line_turn, read_turn}
use Rattle.serve_session.specs.Followed.{missing_of, Fills, Follows, IsHalted}
use Rattle.serve_session.proofs.Replied.{IsReplied, follows_where, halted_before, on_error}
use Rattle.serve_session.proofs.answer.answer_line.Goals as goal

pub returns-in-Ok-clause-turn : goal.returns-in-Ok-clause-turn
returns-in-Ok-clause-turn g c = λ readings m h.
    let dom = g.D.Domain.operations c.args.session.now.engine.domain in
    let new = c.request_line.new.session in
    let stands = Holds (g.D.Domain.operations new.engine.domain) new.engine.store new.book in
    subst (λ (q : Result Request ReadError). IfOk c.request_line.result (λ v. Follows (read_turn readings dom q m) stands v.items)) (sym c.in-Ok.ensures.request) (c.request_line.ensures.turn readings m h)

pub returns-in-Ok-clause-between : goal.returns-in-Ok-clause-between
returns-in-Ok-clause-between g c = λ readings m fills h.
    let dom = g.D.Domain.operations c.args.session.now.engine.domain in
    let new = c.request_line.new.session in
    let stands = Holds (g.D.Domain.operations new.engine.domain) new.engine.store new.book in
    subst (λ (q : Result Request ReadError). IfErr c.request_line.result (λ _. IsHalted (missing_of dom q m) (read_turn readings dom q m) m stands)) (sym c.in-Ok.ensures.request)
    (c.request_line.ensures.between readings m (subst Fills c.in-Ok.ensures.request fills) h)

pub returns-in-Ok-clause-unchanged : goal.returns-in-Ok-clause-unchanged
returns-in-Ok-clause-unchanged g c = λ m h other. c.request_line.ensures.unchanged m h (λ fills. other (subst Fills (sym c.in-Ok.ensures.request) fills))

pub returns-in-Err-clause-turn : goal.returns-in-Err-clause-turn
returns-in-Err-clause-turn g c = λ readings m h.
    let now = c.args.session.now in
    let dom = g.D.Domain.operations now.engine.domain in
    let stands = Holds dom now.engine.store now.book in
    let reply = r.Refused (line_refusal c.in-Err.error) in
    follows_where c.unread_line.result (λ v. v.items) (line_turn readings dom c.args.line.now m) stands reply (c.in-Err.error ≡ error.Memory → ⊥) c.unread_line.ensures.no_memory
    (λ other. subst (λ (q : Result Request ReadError). IsReplied (read_turn readings dom q m) stands reply) (sym (c.in-Err.ensures.refused other)) (record { is = refl; after = h }))
    c.unread_line.ensures.line

pub returns-in-Err-clause-between : goal.returns-in-Err-clause-between
returns-in-Err-clause-between g c = λ readings m fills h.
    let now = c.args.session.now in
    let dom = g.D.Domain.operations now.engine.domain in
    let stands = Holds dom now.engine.store now.book in
    let xs = missing_of dom (request_of c.args.line.now) m in
    let turn = line_turn readings dom c.args.line.now m in
    on_error c.unread_line.result (IsHalted xs turn m stands) (halted_before xs turn m stands h)

use Rattle.std.proofs.Common.{◌≡◌, Ok, sym, subst, rules}
use Rattle.std.specs.Result.{OnErr}
use Rattle.imp_edit.specs.declared.error.EditError.TheVariants as error
use Rattle.daig_session.specs.declared.session.Session.{Session}
use Rattle.daig_session.specs.Books.{IsSame}
use Rattle.daig_session.specs.Holds.{Holds}
use Rattle.request_json.specs.declared.reply.Reply.TheVariants as r
use Rattle.serve_answers.specs.Refusals.{refusal_of}
use Rattle.serve_answers.specs.Turns.{edit_turn}
use Rattle.serve_session.proofs.Edited.{edit_follows, edit_refused, rest_holds}
use Rattle.serve_session.proofs.Replied.{follows_where}
use Rattle.serve_session.proofs.edits.edit_line.Goals as goal

pub returns-in-Ok-line_of-clause-turn : goal.returns-in-Ok-line_of-clause-turn
returns-in-Ok-line_of-clause-turn g c = λ m h.
    let now = c.args.session.now in
    let then = c.in-Ok.prepared.session.now in
    let planned = c.in-Ok.ensures.planned in
    let held = c.in-Ok.ensures.holds m h in
    let made = c.commit.ensures.committed c.args.edit.now m planned held in
    edit_follows g.D.Domain.operations now.engine.domain now.engine.store now.book c.args.edit.now m h _ then.engine.domain then.engine.store then.book c.next.result _
    held c.in-Ok.ensures.setup.0 c.in-Ok.ensures.accepted (c.next.ensures.is c.args.edit.now planned) (search rules) c.in-Ok-line_of.ensures.line

pub returns-in-Err-line_of-clause-unchanged : goal.returns-in-Err-line_of-clause-unchanged
returns-in-Err-line_of-clause-unchanged g c = λ m h.
    let held = subst (λ (s : Session _ _). Holds (g.D.Domain.operations s.engine.domain) s.engine.store s.book m) (sym c.give_up.ensures.same) (c.in-Ok.ensures.holds m h) in
    search rules

pub returns-in-Err-clause-turn : goal.returns-in-Err-clause-turn
returns-in-Err-clause-turn g c = λ m h.
    let ops = g.D.Domain.operations in
    let now = c.args.session.now in
    let then = c.prepare.follows.lender-at-none in
    let e = c.args.edit.now in
    let rest : (then.engine ≡ now.engine) × IsSame now.book then.book = subst (λ r. OnErr r ((then.engine ≡ now.engine) × IsSame now.book then.book)) c.in-Err.is c.prepare.follows.holds-at-none in
    let held : Holds (ops then.engine.domain) then.engine.store then.book m =
    rest_holds ops now.engine.domain then.engine.domain now.engine.store then.engine.store now.book then.book (λ i. (rest.0 i).domain) (λ i. (rest.0 i).store) rest.1 m h in
    follows_where c.refusal_line.result (λ v. v.items) (edit_turn (ops now.engine.domain) (Ok e) m) (Holds (ops then.engine.domain) then.engine.store then.book) (r.Refused (refusal_of m.program e c.in-Err.error)) (c.in-Err.error ≡ error.Memory → ⊥) c.refusal_line.ensures.no_memory
    (λ other. edit_refused (ops now.engine.domain) now.engine.store now.book e m h (Holds (ops then.engine.domain) then.engine.store then.book) c.in-Err.error c.in-Err.ensures.refused other held)
    (c.refusal_line.ensures.line m held)

use Rattle.std.proofs.Common.{ℕ, Ok, Err, sym, subst, ◌≤◌}
use Rattle.imp_edit.specs.Edited.{Continues}
use Rattle.daig_session.specs.Holds.{Holds}
use Rattle.serve_answers.specs.declared.edits.TextError.{TextError}
use Rattle.serve_session.specs.Followed.{edit_asked, Makes}
use Rattle.serve_session.proofs.Requested.{made_follows, unmade_follows}
use Rattle.serve_session.proofs.edits.edit_request.Goals as goal

pub edit_asked-requires : goal.edit_asked-requires
edit_asked-requires g c = record { low = subst (λ (n : ℕ). n ≤ 1000001) (sym c.next-next.ensures.same) c.ready.ensures.ready.order.low }

pub edit_line-requires : goal.edit_line-requires
edit_line-requires g c = record { continues = subst (Continues c.in-Ok.edit) c.next-next.ensures.same c.in-Ok.ensures.continues }

pub returns-in-Ok-clause-turn : goal.returns-in-Ok-clause-turn
returns-in-Ok-clause-turn g c = λ readings m edits h.
    let dom = g.D.Domain.operations c.args.session.now.engine.domain in
    let new = c.edit_line.new.session in
    let stands = Holds (g.D.Domain.operations new.engine.domain) new.engine.store new.book in
    made_follows dom readings m c.edit_line.result (λ v. v.items) stands c.args.request edits c.next-next.result (c.next-next.ensures.is m h) (Ok c.in-Ok.edit) (c.in-Ok.ensures.makes readings) (c.edit_line.ensures.turn m h)

pub returns-in-Err-Refused-clause-turn : goal.returns-in-Err-Refused-clause-turn
returns-in-Err-Refused-clause-turn g c = λ readings m edits h.
    let now = c.args.session.now in
    let dom = g.D.Domain.operations now.engine.domain in
    let n = c.next-next.result in
    let is = subst (λ (e : TextError). Makes (edit_asked readings n c.args.request) (Err e)) c.in-Err-Refused.field-0-is (c.in-Err-Refused.ensures.makes readings) in
    unmade_follows dom readings m c.refused.result (λ v. v.items) (Holds dom now.engine.store now.book) c.args.request edits n (c.next-next.ensures.is m h) c.in-Err-Refused.why is h c.refused.ensures.line

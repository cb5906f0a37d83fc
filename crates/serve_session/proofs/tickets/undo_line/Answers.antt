use Rattle.std.proofs.Common.{Option, subst}
use Rattle.daig_machine.specs.Turns.{undone}
use Rattle.daig_session.specs.Holds.{Holds}
use Rattle.request_json.specs.declared.reply.Refusal.{Refusal}
use Rattle.request_json.specs.declared.reply.Refusal.TheVariants as refusal
use Rattle.serve_session.specs.Followed.{Tells}
use Rattle.serve_session.proofs.Replied.{on_error}
use Rattle.serve_session.proofs.Turned.{unmoved_follows, unmoved_stays}
use Rattle.serve_session.proofs.tickets.undo_line.Goals as goal

pub returns-in-Err-clause-turn : goal.returns-in-Err-clause-turn
returns-in-Err-clause-turn g c = λ m h.
    let dom = g.D.Domain.operations c.args.session.now.engine.domain in
    let stands = Holds (g.D.Domain.operations c.undo.new.self.engine.domain) c.undo.new.self.engine.store c.undo.new.self.book in
    unmoved_follows m stands c.refused_if.result (λ v. v.items) m.past refusal.NothingToUndo (undone dom m) c.in-Err.error (c.in-Err.ensures.goes m h)
    (subst (λ (why : Option Refusal). Tells c.refused_if.result (λ v. v.items) why) c.move_refusal.ensures.is c.refused_if.ensures.tells)

pub returns-in-Err-clause-unchanged : goal.returns-in-Err-clause-unchanged
returns-in-Err-clause-unchanged g c = λ m h.
    let dom = g.D.Domain.operations c.args.session.now.engine.domain in
    let stands = Holds (g.D.Domain.operations c.undo.new.self.engine.domain) c.undo.new.self.engine.store c.undo.new.self.book in
    on_error c.refused_if.result (stands m) (unmoved_stays m stands m.past (undone dom m) c.in-Err.error (c.in-Err.ensures.goes m h))

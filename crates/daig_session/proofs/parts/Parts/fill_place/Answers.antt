use Rattle.std.proofs.Common.{[], Option, Some, None, sym, ap, subst}
use Rattle.std.specs.Prelude.{IfSome}
use Rattle.daig_query.proofs.Sweeps.{filled-bounded, right-in-tables, swept-lasts}
use Rattle.daig_query.specs.Swept.{IsBounded}
use Rattle.daig_session.specs.declared.course.Going.{Going}
use Rattle.daig_session.specs.Books.{flow_in}
use Rattle.daig_session.specs.Going.{IsGoing}
use Rattle.daig_session.proofs.Swept.{behind-holds, behind-ready, swept-added}
use Rattle.daig_session.proofs.Waiting.{next_stays}
use Rattle.daig_session.proofs.parts.Parts.fill_place.Goals as goal

pub fill_there-requires-clause-ready : goal.fill_there-requires-clause-ready
fill_there-requires-clause-ready g c =
    let s = c.args.self.now in
    let ops = g.D.Domain.operations in
    let mid = c.sweep.new.self in
    behind-ready (ops s.engine.domain) (ops mid.domain) (ap ops c.sweep.ensures.domain) s.engine.store mid.store c.sweep.ensures.swept s.book c.sweep.ensures.right c.requires.ready

pub fill_there-requires-clause-next : goal.fill_there-requires-clause-next
fill_there-requires-clause-next g c =
    let s = c.args.self.now in
    let ops = g.D.Domain.operations in
    let dom = ops s.engine.domain in
    let mid = c.sweep.new.self in
    subst (λ d. IfSome c.args.next.now (IsGoing (ops d) (flow_in s.book) mid.store c.args.at.now [])) (sym c.sweep.ensures.domain) (
    next_stays dom (flow_in s.book) s.engine.store mid.store (c.sweep.ensures.right (flow_in s.book) c.requires.ready.right) (swept-lasts s.engine.store mid.store c.sweep.ensures.swept) c.args.at.now c.args.next.now c.requires.next)

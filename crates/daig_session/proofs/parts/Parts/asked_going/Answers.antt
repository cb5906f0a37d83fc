use Rattle.std.proofs.Common.{◌≡◌, ◌<◌, ◌≤◌, true, false, length, map, inl, refl, sym, ap, subst, ◌∙◌, arith}
use Rattle.std.specs.Prelude.{nat_lt}
use Rattle.std.proofs.lemmas.Bool.Decides.{nat_tests}
use Rattle.std.proofs.lemmas.Result.{err_from_is_err_and}
use Rattle.imp_flow.specs.Plans.{Plan}
use Rattle.batch_meaning.specs.Answers.{answer}
use Rattle.daig_machine.specs.Turns.{refusal_in}
use Rattle.daig_query.specs.Right.{IsRight}
use Rattle.daig_session.specs.Books.{flow_in}
use Rattle.imp_flow.specs.Reached.{target_of}
use Rattle.daig_session.specs.Going.{IsAnswered, IsGoing, IsRefused}
use Rattle.daig_session.proofs.Answering.{answer_here}
use Rattle.daig_session.proofs.Asked.{asked_answered, too_long}
use Rattle.daig_session.proofs.Ticketed.{ask_refused, tickets_count}
use Rattle.daig_session.proofs.parts.Parts.asked_going.Goals as goal

pub returns-then-string-gt2-clause-unopened : goal.returns-then-string-gt2-clause-unopened
returns-then-string-gt2-clause-unopened g c = λ m h.
    let s = c.args.self.now in
    let dom = g.D.Domain.operations s.engine.domain in
    let flow = flow_in s.book in
    let long : nat_lt 2 (length c.args.string.now) ≡ true = grind (arith, nat_tests, c.if-string-gt2.true) in
    (ap refusal_in (sym (answer_here dom s.book s.engine.store m c.args.at.now c.args.string.now h) ∙ too_long dom flow.engine flow.program c.args.at.now c.args.string.now long), inl refl, h)

pub returns-then-is_full-clause-unopened : goal.returns-then-is_full-clause-unopened
returns-then-is_full-clause-unopened g c = λ m h.
    let s = c.args.self.now in
    let dom = g.D.Domain.operations s.engine.domain in
    let short : nat_lt 2 (length c.args.string.now) ≡ false = grind (arith, nat_tests, c.if-string-gt2.false) in
    let full : 16 ≤ length s.book.tickets.open_ones.items = grind (arith, nat_tests, c.if-is_full.true, c.is_full.ensures.is) in
    let n = tickets_count dom s.engine.store s.book m h in
    (short, omega (arith, full, n), h)

pub begun-requires : goal.begun-requires
begun-requires g c =
    let s = c.args.self.now in
    record { right = subst (λ (p : Plan). IsRight (g.D.Domain.operations s.engine.domain) p s.engine.store) (sym c.flow-flow.ensures.is) c.requires.ready.right }

pub returns-in_err-going-clause-unopened : goal.returns-in_err-going-clause-unopened
returns-in_err-going-clause-unopened g c = λ m h.
    let s = c.args.self.now in
    let dom = g.D.Domain.operations s.engine.domain in
    let few : length s.book.tickets.open_ones.items < 16 = grind (arith, nat_tests, c.if-is_full.false, c.is_full.ensures.is) in
    let is = subst (λ (p : Plan). IsRefused (answer dom p.engine p.program c.args.at.now c.args.string.now) c.in_err-going.field-0.0) c.flow-flow.ensures.is c.in_err-going.ensures.refused in
    let p = err_from_is_err_and c.from_residual.result c.from_residual.ensures.1 in
    rw (p.1, p.2) (ask_refused dom s.book s.engine.store m c.args.at.now c.args.string.now c.in_err-going.field-0.0 h few is)

pub returns-clause-not_full : goal.returns-clause-not_full
returns-clause-not_full g c = grind (arith, nat_tests, c.if-is_full.false, c.is_full.ensures.is)

pub returns-clause-going : goal.returns-clause-going
returns-clause-going g c =
    let s = c.args.self.now in
    subst (λ (p : Plan). IsGoing (g.D.Domain.operations s.engine.domain) p s.engine.store c.args.at.now c.args.string.now c.in_ok-going.going) c.flow-flow.ensures.is c.in_ok-going.ensures.going

pub returns-clause-answered : goal.returns-clause-answered
returns-clause-answered g c = λ m h.
    let s = c.args.self.now in
    let dom = g.D.Domain.operations s.engine.domain in
    let flow = flow_in s.book in
    let going = subst (λ (p : Plan). IsGoing dom p s.engine.store c.args.at.now c.args.string.now c.in_ok-going.going) c.flow-flow.ensures.is c.in_ok-going.ensures.going in
    let answered = subst IsAnswered (answer_here dom s.book s.engine.store m c.args.at.now c.args.string.now h) (asked_answered dom flow.engine flow.program c.args.at.now c.args.string.now (map target_of c.in_ok-going.going.targets) c.requires.ready.right.checked going.asked) in
    ap refusal_in answered.1

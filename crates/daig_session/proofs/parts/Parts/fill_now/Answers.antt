use Rattle.std.proofs.Common.{◌≡◌, length, map, Err, rules, sym, ap, subst, ◌∙◌}
use Rattle.std.specs.Prelude.{IfErr}
use Rattle.std.proofs.lemmas.Result.{err_from_is_err_and}
use Rattle.imp_flow.specs.Plans.{Plan}
use Rattle.imp_flow.specs.Reached.{target_of}
use Rattle.batch_meaning.specs.Answers.{answer}
use Rattle.daig_query.specs.Answered.{AreFilled}
use Rattle.daig_query.specs.Filled.{cells_added}
use Rattle.daig_query.specs.Right.{IsRight}
use Rattle.daig_query.proofs.Sweeps.{few-none}
use Rattle.daig_machine.specs.Turns.{missing_at, IsBetween}
use Rattle.daig_session.specs.Books.{flow_in}
use Rattle.daig_session.specs.Going.{IsAsked, IsGoing, IsRefused}
use Rattle.daig_session.specs.Holds.{Holds, IsReady}
use Rattle.daig_session.specs.Places.{IsUnticked}
use Rattle.daig_session.specs.Turns.{Fails}
use Rattle.daig_session.proofs.Answering.{between_some, fails_refused, no_steps}
use Rattle.daig_session.proofs.Filled.{asked_holds, fills_ready, missing_here}
use Rattle.daig_session.proofs.parts.Parts.fill_now.Goals as goal

pub begun-requires : goal.begun-requires
begun-requires g c =
    let s = c.args.self.now in
    record { right = subst (λ (p : Plan). IsRight (g.D.Domain.operations s.engine.domain) p s.engine.store) (sym c.flow-flow.ensures.is) c.requires.ready.right }

pub fill_all-requires-clause-going : goal.fill_all-requires-clause-going
fill_all-requires-clause-going g c =
    let s = c.args.self.now in
    (c.args.at.now, c.args.string.now, subst (λ (p : Plan). IsGoing (g.D.Domain.operations s.engine.domain) p s.engine.store c.args.at.now c.args.string.now c.in_ok-going.going) c.flow-flow.ensures.is c.in_ok-going.ensures.going)

pub returns-in_err-going-clause-fails : goal.returns-in_err-going-clause-fails
returns-in_err-going-clause-fails g c = λ m h.
    let s = c.args.self.now in
    let dom = g.D.Domain.operations s.engine.domain in
    let is = subst (λ (p : Plan). IsRefused (answer dom p.engine p.program c.args.at.now c.args.string.now) c.in_err-going.field-0.0) c.flow-flow.ensures.is c.in_err-going.ensures.refused in
    let e : c.from_residual.result ≡ Err c.in_err-going.field-0.0 = search rules in
    subst (λ r. IfErr r (Fails dom m (Holds dom s.engine.store s.book) c.args.at.now c.args.string.now)) (sym e) (fails_refused dom s.book s.engine.store m c.args.at.now c.args.string.now c.in_err-going.field-0.0 h is)

pub returns-in_err-going-clause-unticked_refusal : goal.returns-in_err-going-clause-unticked_refusal
returns-in_err-going-clause-unticked_refusal g c =
    let n = c.args.steps.now in
    let e : c.from_residual.result ≡ Err c.in_err-going.field-0.0 = search rules in
    subst (λ r. IfErr r (IsUnticked n n)) (sym e) (no_steps n c.in_err-going.field-0.0)

pub returns-in_err-going-clause-adds_few : goal.returns-in_err-going-clause-adds_few
returns-in_err-going-clause-adds_few g c = few-none c.args.self.now.engine.store

pub returns-in_err-count-clause-ready : goal.returns-in_err-count-clause-ready
returns-in_err-count-clause-ready g c =
    let s = c.args.self.now in
    let ops = g.D.Domain.operations in
    let new = c.fill_all.new.engine.store in
    let ts = map target_of c.in_ok-going.going.targets in
    subst (λ d. IsReady (ops d) new s.book) (sym c.fill_all.ensures.setup.0) (fills_ready (ops s.engine.domain) s.book s.engine.store new ts (cells_added s.engine.store new) c.requires.ready c.fill_all.ensures.fills)

pub returns-in_err-count-clause-fails : goal.returns-in_err-count-clause-fails
returns-in_err-count-clause-fails g c = λ m h.
    let s = c.args.self.now in
    let ops = g.D.Domain.operations in
    let dom = ops s.engine.domain in
    let new = c.fill_all.new.engine.store in
    let l = c.args.at.now in
    let string = c.args.string.now in
    let ts = map target_of c.in_ok-going.going.targets in
    let going = subst (λ (p : Plan). IsGoing dom p s.engine.store l string c.in_ok-going.going) c.flow-flow.ensures.is c.in_ok-going.ensures.going in
    let p = err_from_is_err_and c.from_residual-in_err-count.result c.from_residual-in_err-count.ensures.1 in
    rw (p.1, p.2) (subst (λ d. IsBetween (missing_at dom l string m) m (Holds (ops d) new s.book)) (sym c.fill_all.ensures.setup.0) (
    between_some dom s.book s.engine.store new l string ts (cells_added s.engine.store new) c.requires.ready.right.checked going.asked c.fill_all.ensures.fills (c.questions_keep_cells.ensures.question s.engine.domain) m h))

pub returns-clause-ready : goal.returns-clause-ready
returns-clause-ready g c =
    let s = c.args.self.now in
    let ops = g.D.Domain.operations in
    let new = c.fill_all.new.engine.store in
    let ts = map target_of c.in_ok-going.going.targets in
    subst (λ d. IsReady (ops d) new s.book) (sym c.fill_all.ensures.setup.0) (fills_ready (ops s.engine.domain) s.book s.engine.store new ts (cells_added s.engine.store new) c.requires.ready c.fill_all.ensures.fills)

pub returns-clause-targets : goal.returns-clause-targets
returns-clause-targets g c =
    let s = c.args.self.now in
    let dom = g.D.Domain.operations s.engine.domain in
    let l = c.args.at.now in
    let string = c.args.string.now in
    let going = subst (λ (p : Plan). IsGoing dom p s.engine.store l string c.in_ok-going.going) c.flow-flow.ensures.is c.in_ok-going.ensures.going in
    subst (λ ts. IsAsked (flow_in s.book).program l string (map target_of ts)) (sym c.fill_all.ensures.targets) going.asked

pub returns-clause-filled : goal.returns-clause-filled
returns-clause-filled g c =
    let s = c.args.self.now in
    subst (λ ts. AreFilled (g.D.Domain.operations s.engine.domain) c.fill_all.new.engine.store c.fill_all.new.going.walk (flow_in s.book) (map target_of ts)) (sym c.fill_all.ensures.targets) c.in_ok-count.ensures.filled

pub returns-clause-missing : goal.returns-clause-missing
returns-clause-missing g c = λ m h.
    let s = c.args.self.now in
    let dom = g.D.Domain.operations s.engine.domain in
    let l = c.args.at.now in
    let string = c.args.string.now in
    let going = subst (λ (p : Plan). IsGoing dom p s.engine.store l string c.in_ok-going.going) c.flow-flow.ensures.is c.in_ok-going.ensures.going in
    c.in_ok-count.ensures.missing ∙ ap length (missing_here dom s.book s.engine.store c.fill_all.new.engine.store m l string (map target_of c.in_ok-going.going.targets) h going.asked)

pub returns-clause-answered : goal.returns-clause-answered
returns-clause-answered g c = λ m h.
    let s = c.args.self.now in
    let dom = g.D.Domain.operations s.engine.domain in
    let l = c.args.at.now in
    let string = c.args.string.now in
    let going = subst (λ (p : Plan). IsGoing dom p s.engine.store l string c.in_ok-going.going) c.flow-flow.ensures.is c.in_ok-going.ensures.going in
    let new = c.fill_all.new.engine.store in
    let ts = map target_of c.in_ok-going.going.targets in
    let e = c.in_ok-count.ensures.missing ∙ ap length (missing_here dom s.book s.engine.store new m l string ts h going.asked) in
    asked_holds dom s.book s.engine.store new l string ts (cells_added s.engine.store new) c.requires.ready.right.checked going.asked c.fill_all.ensures.fills (c.questions_keep_cells.ensures.question s.engine.domain) m c.in_ok-count.count h e (sym c.in_ok-count.ensures.counted ∙ e)

pub returns-clause-unanswered : goal.returns-clause-unanswered
returns-clause-unanswered g c = λ m h.
    let s = c.args.self.now in
    let dom = g.D.Domain.operations s.engine.domain in
    let l = c.args.at.now in
    let string = c.args.string.now in
    let going = subst (λ (p : Plan). IsGoing dom p s.engine.store l string c.in_ok-going.going) c.flow-flow.ensures.is c.in_ok-going.ensures.going in
    let ops = g.D.Domain.operations in
    let new = c.fill_all.new.engine.store in
    subst (λ d. IsBetween (missing_at dom l string m) m (Holds (ops d) new s.book)) (sym c.fill_all.ensures.setup.0) (
    between_some dom s.book s.engine.store new l string (map target_of c.in_ok-going.going.targets) (cells_added s.engine.store new) c.requires.ready.right.checked going.asked c.fill_all.ensures.fills (c.questions_keep_cells.ensures.question s.engine.domain) m h)

use Rattle.std.proofs.Common.{◌≡◌, ◌*◌, ◌+◌, ◌≤◌, ℕ, List, map, Some, Err, rules, sym, ap, subst, ◌∙◌}
use Rattle.std.specs.Prelude.{IfErr}
use Rattle.std.proofs.lemmas.Result.{err_from_is_err_and}
use Rattle.imp_flow.specs.Plans.{Plan}
use Rattle.imp_flow.specs.Reached.{target_of}
use Rattle.batch_meaning.specs.Answers.{In, procedure_of}
use Rattle.cell_rows.specs.Targets.{Target, targets}
use Rattle.daig_query.specs.Answered.{AreFilled}
use Rattle.cell_graph.specs.Same.{same_name}
use Rattle.cell_graph.proofs.Same.{same_is}
use Rattle.why_slice.specs.Claims.{Suffices}
use Rattle.daig_machine.specs.Turns.{after_question}
use Rattle.daig_session.specs.Books.{flow_in}
use Rattle.daig_session.specs.Holds.{Holds}
use Rattle.daig_session.specs.Places.{IsUnticked}
use Rattle.daig_session.specs.Turns.{Explains}
use Rattle.daig_session.proofs.Explained.{answered_here, listed_is, upstream_here}
use Rattle.daig_session.proofs.Filled.{answered_costing, ready_costing}
use Rattle.daig_session.proofs.session.Session.why.Goals as goal

pub upstream-requires : goal.upstream-requires
upstream-requires g c =
    let s = c.self.inside.parts in
    let ops = g.D.Domain.operations in
    let dom = ops s.engine.domain in
    let new = c.fill_for.new.self in
    let f = c.in_ok-filled.filled in
    let ts = map target_of f.going.targets in
    let l = c.args.at.now in
    let string = c.args.string.now in
    let a = c.in_ok-filled.ensures.targets in
    let filled = subst (λ d. AreFilled (ops d) new.engine.store f.going.walk (flow_in s.book) ts) (sym c.fill_for.ensures.setup.0) c.in_ok-filled.ensures.filled in
    let is : c.flow-flow.result ≡ flow_in s.book = c.flow-flow.ensures.is ∙ ap flow_in c.fill_for.ensures.book in
    record { filled = subst (λ (p : Plan). (q : ℕ) × (us : List Target) × (procedure_of p.program l ≡ In q) × (targets p.program q l string ≡ Some us) × AreFilled (ops new.engine.domain) new.engine.store f.going.walk p us) (sym is) (a.place, ts, a.there, a.are, filled) }

pub returns-in_err-filled-clause-explains : goal.returns-in_err-filled-clause-explains
returns-in_err-filled-clause-explains g c = rw (← c.self.view_is) (λ m h.
    let new = c.fill_for.new.self in
    let ops = g.D.Domain.operations in
    let e : c.from_residual.result ≡ Err c.in_err-filled.field-0.0 = search rules in
    subst (Explains (ops c.self.inside.parts.engine.domain) m (Holds (ops new.engine.domain) new.engine.store new.book) c.args.at.now c.args.string.now) (sym e) (c.in_err-filled.ensures.fails m h))

pub returns-in_err-filled-clause-unticked_refusal : goal.returns-in_err-filled-clause-unticked_refusal
returns-in_err-filled-clause-unticked_refusal g c =
    let e : c.from_residual.result ≡ Err c.in_err-filled.field-0.0 = search rules in
    subst (λ r. IfErr r (IsUnticked c.args.steps.now c.fill_for.new.steps)) (sym e) c.in_err-filled.ensures.unticked_refusal

pub returns-in_err-stmts-clause-explains : goal.returns-in_err-stmts-clause-explains
returns-in_err-stmts-clause-explains g c = rw (← c.self.view_is) (λ m h.
    let p = err_from_is_err_and c.from_residual-in_err-stmts.result c.from_residual-in_err-stmts.ensures.1 in
    rw (p.1, p.2) (c.in_ok-filled.ensures.unanswered m h))

pub returns-clause-explains : goal.returns-clause-explains
returns-clause-explains g c = rw (← c.self.view_is) (λ m h.
    let s = c.self.inside.parts in
    let ops = g.D.Domain.operations in
    let dom = ops s.engine.domain in
    let new = c.fill_for.new.self in
    let f = c.in_ok-filled.filled in
    let ts = map target_of f.going.targets in
    let l = c.args.at.now in
    let string = c.args.string.now in
    let a = c.in_ok-filled.ensures.targets in
    let stmts = listed_is (ops new.engine.domain) dom new.engine.store f.going.walk c.flow-flow.result (flow_in s.book) l string c.in_ok-stmts.stmts ts (ap ops c.fill_for.ensures.setup.0) (c.flow-flow.ensures.is ∙ ap flow_in c.fill_for.ensures.book) c.in_ok-stmts.ensures.is a c.in_ok-filled.ensures.filled in (
      answered_here dom s.book s.engine.store m l string ts c.self.invariant.right.checked h a,
      upstream_here dom s.book s.engine.store m l string ts c.in_ok-stmts.stmts h a stmts,
      answered_costing (ops new.engine.domain) dom new.engine.store s.book new.book f.count (after_question dom l string m) (ap ops c.fill_for.ensures.setup.0) c.fill_for.ensures.book (c.in_ok-filled.ensures.answered m h),
    ))

pub returns-clause-stays : goal.returns-clause-stays
returns-clause-stays g c =
    rw (← c.self.view_is) (
    let s = c.self.inside.parts in
    let ops = g.D.Domain.operations in
    let dom = ops s.engine.domain in
    let new = c.fill_for.new.self in
    let f = c.in_ok-filled.filled in
    let ts = map target_of f.going.targets in
    let l = c.args.at.now in
    let string = c.args.string.now in
    let a = c.in_ok-filled.ensures.targets in
    let stmts = listed_is (ops new.engine.domain) dom new.engine.store f.going.walk c.flow-flow.result (flow_in s.book) l string c.in_ok-stmts.stmts ts (ap ops c.fill_for.ensures.setup.0) (c.flow-flow.ensures.is ∙ ap flow_in c.fill_for.ensures.book) c.in_ok-stmts.ensures.is a c.in_ok-filled.ensures.filled in
    subst (Suffices dom s.book.setting.engine s.book.history.now l string) (sym stmts) (
    c.answers_stay.ensures.listed s.engine.domain s.book.setting.engine same_name s.book.history.now l string a.place ts same_is a.there a.are))

pub returns-clause-ticked : goal.returns-clause-ticked
returns-clause-ticked g c = rw (← c.self.view_is) (λ m h.
    subst (λ n. c.fill_for.new.steps ≤ c.args.steps.now + g.D.Domain.counted c.self.inside.parts.engine.domain * n) (c.in_ok-filled.ensures.missing m h) c.in_ok-filled.ensures.ticked)

use Rattle.std.proofs.Common.{◌≡◌, ◌*◌, ◌+◌, ◌≤◌, length, map, Some, Err, rules, sym, ap, subst}
use Rattle.std.specs.Prelude.{IfErr}
use Rattle.std.proofs.lemmas.Result.{err_from_is_err_and}
use Rattle.imp_check.specs.Slots.{routines_of}
use Rattle.imp_flow.specs.Reached.{target_of}
use Rattle.batch_meaning.specs.Answers.{answer}
use Rattle.daig_query.specs.Answered.{AreFilled, Covers, Says}
use Rattle.daig_query.specs.Filled.{cells_added}
use Rattle.daig_machine.specs.Turns.{after_question, answer_at, targets_of}
use Rattle.daig_session.specs.Books.{flow_in}
use Rattle.daig_session.specs.Holds.{Holds}
use Rattle.daig_session.specs.Places.{IsUnticked}
use Rattle.daig_session.specs.Turns.{Questions}
use Rattle.daig_session.proofs.Answering.{most_here, says_here, work_both, work_first, work_here}
use Rattle.daig_session.proofs.Filled.{answered_costing, ready_costing}
use Rattle.daig_session.proofs.session.Session.query.Goals as goal

pub returns-in_err-filled-clause-answers : goal.returns-in_err-filled-clause-answers
returns-in_err-filled-clause-answers g c = rw (← c.self.view_is) (λ m h.
    let new = c.fill_for.new.self in
    let ops = g.D.Domain.operations in
    let e : c.from_residual.result ≡ Err c.in_err-filled.field-0.0 = search rules in
    subst (Questions (ops c.self.inside.parts.engine.domain) m (Holds (ops new.engine.domain) new.engine.store new.book) c.args.at.now c.args.string.now) (sym e) (c.in_err-filled.ensures.fails m h))

pub returns-in_err-filled-clause-unticked_refusal : goal.returns-in_err-filled-clause-unticked_refusal
returns-in_err-filled-clause-unticked_refusal g c =
    let e : c.from_residual.result ≡ Err c.in_err-filled.field-0.0 = search rules in
    subst (λ r. IfErr r (IsUnticked c.args.steps.now c.fill_for.new.steps)) (sym e) c.in_err-filled.ensures.unticked_refusal

pub returns-in_err-filled-clause-ticked_filled : goal.returns-in_err-filled-clause-ticked_filled
returns-in_err-filled-clause-ticked_filled g c = rw (← c.self.view_is) (λ m h.
    let s = c.self.inside.parts in
    work_first c.args.steps.now c.fill_for.new.steps (g.D.Domain.counted s.engine.domain) (cells_added s.engine.store c.fill_for.new.self.engine.store) (2 * length (targets_of m c.args.at.now c.args.string.now)) c.fill_for.ensures.ticked_filled)

pub read_answer-requires : goal.read_answer-requires
read_answer-requires g c =
    let s = c.self.inside.parts in
    let ops = g.D.Domain.operations in
    let dom = ops s.engine.domain in
    let new = c.fill_for.new.self in
    let f = c.in_ok-filled.filled in
    let ts = map target_of f.going.targets in
    let l = c.args.at.now in
    let string = c.args.string.now in
    let a = c.in_ok-filled.ensures.targets in
    record { filled = (flow_in s.book, l, string, ts, a, subst (λ d. AreFilled (ops d) new.engine.store f.going.walk (flow_in s.book) ts) (sym c.fill_for.ensures.setup.0) c.in_ok-filled.ensures.filled) }

pub returns-in_err-value-clause-answers : goal.returns-in_err-value-clause-answers
returns-in_err-value-clause-answers g c = rw (← c.self.view_is) (λ m h.
    let p = err_from_is_err_and c.from_residual-in_err-value.result c.from_residual-in_err-value.ensures.1 in
    rw (p.1, p.2) (c.in_ok-filled.ensures.unanswered m h))

pub returns-in_err-value-clause-ticked_filled : goal.returns-in_err-value-clause-ticked_filled
returns-in_err-value-clause-ticked_filled g c = rw (← c.self.view_is) (λ m h.
    let s = c.self.inside.parts in
    let ops = g.D.Domain.operations in
    let dom = ops s.engine.domain in
    let new = c.fill_for.new.self in
    let f = c.in_ok-filled.filled in
    let ts = map target_of f.going.targets in
    let l = c.args.at.now in
    let string = c.args.string.now in
    let a = c.in_ok-filled.ensures.targets in
    let each = g.D.Domain.counted s.engine.domain in
    let filled = subst (λ d. AreFilled (ops d) new.engine.store f.going.walk (flow_in s.book) ts) (sym c.fill_for.ensures.setup.0) c.in_ok-filled.ensures.filled in
    let read = subst (λ d. c.read_answer.new.steps ≤ c.fill_for.new.steps + g.D.Domain.counted d * (2 * length ts)) c.fill_for.ensures.setup.0 (c.read_answer.ensures.ticked (flow_in s.book) ts filled) in
    most_here dom s.book s.engine.store m l string ts c.args.steps.now c.fill_for.new.steps c.read_answer.new.steps each f.count (cells_added s.engine.store new.engine.store) h a c.in_ok-filled.ensures.counted c.in_ok-filled.ensures.ticked read)

pub returns-clause-answers : goal.returns-clause-answers
returns-clause-answers g c = rw (← c.self.view_is) (λ m h.
    let s = c.self.inside.parts in
    let ops = g.D.Domain.operations in
    let dom = ops s.engine.domain in
    let new = c.fill_for.new.self in
    let f = c.in_ok-filled.filled in
    let ts = map target_of f.going.targets in
    let l = c.args.at.now in
    let string = c.args.string.now in
    let a = c.in_ok-filled.ensures.targets in
    let v = c.in_ok-value.value in
    let filled = subst (λ d. AreFilled (ops d) new.engine.store f.going.walk (flow_in s.book) ts) (sym c.fill_for.ensures.setup.0) c.in_ok-filled.ensures.filled in
    let says = subst (λ d. Says (answer (ops d) (flow_in s.book).engine (flow_in s.book).program l string) (Some v)) c.fill_for.ensures.setup.0 (c.in_ok-value.ensures.says (flow_in s.book) l string ts a filled) in (
      subst (λ p. Says (answer_at (ops p.engine.domain) l string m) (Some v)) c.self.view_is (says_here dom s.book s.engine.store m l string v h says),
      answered_costing (ops new.engine.domain) dom new.engine.store s.book new.book f.count (after_question dom l string m) (ap ops c.fill_for.ensures.setup.0) c.fill_for.ensures.book (c.in_ok-filled.ensures.answered m h),
    ))

pub returns-clause-sound : goal.returns-clause-sound
returns-clause-sound g c =
    let s = c.self.inside.parts in
    let ops = g.D.Domain.operations in
    let new = c.fill_for.new.self in
    let f = c.in_ok-filled.filled in
    let ts = map target_of f.going.targets in
    let l = c.args.at.now in
    let string = c.args.string.now in
    let a = c.in_ok-filled.ensures.targets in
    let filled = subst (λ d. AreFilled (ops d) new.engine.store f.going.walk (flow_in s.book) ts) (sym c.fill_for.ensures.setup.0) c.in_ok-filled.ensures.filled in
    subst (λ p. Covers (g.D.Domain.covers p.engine.domain) (routines_of p.book.history.now) l string (Some c.in_ok-value.value)) c.self.view_is
    (subst (λ d. Covers (g.D.Domain.covers d) (routines_of s.book.history.now) l string (Some c.in_ok-value.value)) c.fill_for.ensures.setup.0 (c.in_ok-value.ensures.sound (flow_in s.book) l string ts a filled))

pub returns-clause-ticked : goal.returns-clause-ticked
returns-clause-ticked g c = rw (← c.self.view_is) (λ m h.
    let s = c.self.inside.parts in
    let ops = g.D.Domain.operations in
    let dom = ops s.engine.domain in
    let new = c.fill_for.new.self in
    let f = c.in_ok-filled.filled in
    let ts = map target_of f.going.targets in
    let l = c.args.at.now in
    let string = c.args.string.now in
    let a = c.in_ok-filled.ensures.targets in
    let each = g.D.Domain.counted s.engine.domain in
    let filled = subst (λ d. AreFilled (ops d) new.engine.store f.going.walk (flow_in s.book) ts) (sym c.fill_for.ensures.setup.0) c.in_ok-filled.ensures.filled in
    let read = subst (λ d. c.read_answer.new.steps ≤ c.fill_for.new.steps + g.D.Domain.counted d * (2 * length ts)) c.fill_for.ensures.setup.0 (c.read_answer.ensures.ticked (flow_in s.book) ts filled) in
    work_here dom s.book s.engine.store m l string ts c.args.steps.now c.read_answer.new.steps each f.count h a (c.in_ok-filled.ensures.missing m h) (work_both c.args.steps.now c.fill_for.new.steps c.read_answer.new.steps each f.count (2 * length ts) c.in_ok-filled.ensures.ticked read))

pub returns-clause-ticked_filled : goal.returns-clause-ticked_filled
returns-clause-ticked_filled g c = rw (← c.self.view_is) (λ m h.
    let s = c.self.inside.parts in
    let ops = g.D.Domain.operations in
    let dom = ops s.engine.domain in
    let new = c.fill_for.new.self in
    let f = c.in_ok-filled.filled in
    let ts = map target_of f.going.targets in
    let l = c.args.at.now in
    let string = c.args.string.now in
    let a = c.in_ok-filled.ensures.targets in
    let each = g.D.Domain.counted s.engine.domain in
    let filled = subst (λ d. AreFilled (ops d) new.engine.store f.going.walk (flow_in s.book) ts) (sym c.fill_for.ensures.setup.0) c.in_ok-filled.ensures.filled in
    let read = subst (λ d. c.read_answer.new.steps ≤ c.fill_for.new.steps + g.D.Domain.counted d * (2 * length ts)) c.fill_for.ensures.setup.0 (c.read_answer.ensures.ticked (flow_in s.book) ts filled) in
    most_here dom s.book s.engine.store m l string ts c.args.steps.now c.fill_for.new.steps c.read_answer.new.steps each f.count (cells_added s.engine.store new.engine.store) h a c.in_ok-filled.ensures.counted c.in_ok-filled.ensures.ticked read)

use Rattle.std.proofs.Common.{◌≡◌, Err, rules, sym, subst}
use Rattle.std.specs.Prelude.{IfErr}
use Rattle.daig_machine.specs.Turns.{refusal_asked, string_of}
use Rattle.daig_machine.specs.declared.question.Question.{Question}
use Rattle.daig_machine.specs.declared.question.Question.TheVariants as asks
use Rattle.daig_session.specs.Holds.{Holds}
use Rattle.daig_session.specs.Turns.{StaysUnopened}
use Rattle.daig_session.proofs.parts.Parts.asked_course.Goals as goal

pub returns-in_err-going-in-State-clause-unopened : goal.returns-in_err-going-in-State-clause-unopened
returns-in_err-going-in-State-clause-unopened g c = λ m h.
    let s = c.args.self.now in
    let dom = g.D.Domain.operations s.engine.domain in
    let stands = Holds dom s.engine.store s.book in
    let e : c.from_residual.result ≡ Err c.in_err-going-in-State.field-0.0 = search rules in
    subst (λ (q : Question). IfErr c.from_residual.result (StaysUnopened dom m stands (string_of q) (refusal_asked dom q m))) (sym c.in-State.is) (
    subst (λ r. IfErr r (StaysUnopened dom m stands c.in-State.string (refusal_asked dom (asks.State c.in-State.at c.in-State.string) m))) (sym e) (
    subst (λ xs. StaysUnopened dom m stands xs (refusal_asked dom (asks.State c.in-State.at xs) m) c.in_err-going-in-State.field-0.0) c.as_slice.ensures.same (c.in_err-going-in-State.ensures.unopened m h)))

pub returns-in_err-going-in-Why-clause-unopened : goal.returns-in_err-going-in-Why-clause-unopened
returns-in_err-going-in-Why-clause-unopened g c = λ m h.
    let s = c.args.self.now in
    let dom = g.D.Domain.operations s.engine.domain in
    let stands = Holds dom s.engine.store s.book in
    let e : c.from_residual-in_err-going-in-Why.result ≡ Err c.in_err-going-in-Why.field-0.0 = search rules in
    subst (λ (q : Question). IfErr c.from_residual-in_err-going-in-Why.result (StaysUnopened dom m stands (string_of q) (refusal_asked dom q m))) (sym c.in-Why.is) (
    subst (λ r. IfErr r (StaysUnopened dom m stands c.in-Why.string (refusal_asked dom (asks.Why c.in-Why.at c.in-Why.string) m))) (sym e) (
    subst (λ xs. StaysUnopened dom m stands xs (refusal_asked dom (asks.Why c.in-Why.at xs) m) c.in_err-going-in-Why.field-0.0) c.as_slice-in-Why.ensures.same (c.in_err-going-in-Why.ensures.unopened m h)))

pub returns-in-Report-clause-unopened : goal.returns-in-Report-clause-unopened
returns-in-Report-clause-unopened g c = λ m h.
    let s = c.args.self.now in
    let dom = g.D.Domain.operations s.engine.domain in
    let stands = Holds dom s.engine.store s.book in
    subst (λ (q : Question). IfErr c.asked_report.result (StaysUnopened dom m stands (string_of q) (refusal_asked dom q m))) (sym c.in-Report.is) (c.asked_report.ensures.unopened m h)

pub returns-in-Faults-clause-unopened : goal.returns-in-Faults-clause-unopened
returns-in-Faults-clause-unopened g c = λ m h.
    let s = c.args.self.now in
    let dom = g.D.Domain.operations s.engine.domain in
    let stands = Holds dom s.engine.store s.book in
    subst (λ (q : Question). IfErr c.asked_report-in-Faults.result (StaysUnopened dom m stands (string_of q) (refusal_asked dom q m))) (sym c.in-Faults.is) (c.asked_report-in-Faults.ensures.unopened m h)

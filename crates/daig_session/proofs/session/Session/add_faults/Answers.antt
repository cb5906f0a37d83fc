use Rattle.std.proofs.Common.{◌≡◌, ◌++◌, [], ap, subst, ◌∙◌}
use Rattle.std.specs.Prelude.{OnOk}
use Rattle.imp_syntax.specs.declared.edit.Location.{Location}
use Rattle.fault_verdicts.specs.Statements.{place_of}
use Rattle.fault_verdicts.specs.Report.{findings_by}
use Rattle.daig_machine.specs.Turns.{answer_at}
use Rattle.daig_session.specs.Places.{Tells}
use Rattle.daig_session.proofs.FaultLemmas.{each_fault}
use Rattle.daig_session.proofs.session.Session.add_faults.Goals as goal

pub returns-clause-found : goal.returns-clause-found
returns-clause-found g c =
    let s = c.args.self.now in
    let ops = g.D.Domain.operations in
    let dom = ops s.engine.domain in
    let x = c.args.x.now in
    let before = c.args.found.now in
    let after = c.add_findings.new.found in
    let r = c.add_findings.result in
    each_fault dom s.engine.store s.book r x before after (λ m h. (
    let a = answer_at dom (place_of x) [] m in
    let told = subst (λ (l : Location). Tells (answer_at dom l [] m) c.in_ok-told.told) c.place.ensures.is (c.in_ok-told.ensures.tells m h) in
    subst (λ d. OnOk r (after ≡ before ++ findings_by (ops d) a x)) (c.domain.ensures.is ∙ (ap (λ p. p.engine.domain) c.self.view_is ∙ c.known_at.ensures.setup.0)) (c.add_findings.ensures.added a (c.known_of.ensures.known a told))))

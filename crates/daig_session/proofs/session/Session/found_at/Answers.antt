use Rattle.std.proofs.Common.{◌≡◌, List, ap, subst, ◌∙◌}
use Rattle.std.specs.Prelude.{IfOk}
use Rattle.imp_syntax.specs.Plain.{Procedure}
use Rattle.imp_words.specs.declared.findings.Finding.{Finding}
use Rattle.domain_laws.specs.Checks.{kind_of}
use Rattle.batch_meaning.specs.Report.{verdict_on}
use Rattle.daig_session.specs.Reports.{checked_at}
use Rattle.daig_session.proofs.session.Session.found_at.Goals as goal

pub returns : goal.returns
returns g c = rw (← c.self.view_is) (record {
  is = λ engine a e k t h.
      let n = c.args.id in
      subst (λ d. IfOk c.finding.result (λ (f : Finding). f ≡ record { id = n; check = kind_of k; verdict = verdict_on (g.D.Domain.operations d) engine e a })) c.domain.ensures.is (
      c.finding.ensures.is engine a e k t (c.in-Some.ensures.is ∙ (ap (λ (ps : List Procedure). checked_at ps n) (c.view-view.ensures.is ∙ c.table.ensures.is) ∙ h)));
})

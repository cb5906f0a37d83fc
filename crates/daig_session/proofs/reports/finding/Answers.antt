use Rattle.std.proofs.Common.{◌≡◌, ap, subst, ◌∙◌}
use Rattle.std.specs.Prelude.{IfOk}
use Rattle.imp_slots.specs.ActionViews.{act_of}
use Rattle.imp_words.specs.declared.findings.Finding.{Finding}
use Rattle.domain_laws.specs.Checks.{kind_of}
use Rattle.alarm_report.specs.Reporting.{verdict_for}
use Rattle.daig_session.proofs.CheckLemmas.{is_of, ok_finding}
use Rattle.daig_session.proofs.reports.finding.Goals as goal

pub returns : goal.returns
returns g c = record {
  is = λ engine a e k t h.
      let dom = g.D.Domain.operations c.args.dom.now in
      let n = c.args.id in
      let act = act_of c.args.stmt.now in
      let found = c.found_of.result in
      let i = is_of n act e k h in
      subst (λ v. IfOk c.report.result (λ (f : Finding). f ≡ record { id = n; check = kind_of k; verdict = v })) (ap (λ z. verdict_for dom z found) i.act ∙ c.found_of.ensures.verdict dom engine a e t)
      (ok_finding c.report.result n act e k (verdict_for dom act found) i c.report.ensures.id c.report.ensures.check c.report.ensures.verdict);
}

use Rattle.std.proofs.Common.{suc, ◌≡◌, ◌-◌, ◌<◌, length, map, drop, sym, ap, subst, ◌∙◌, arith}
use Rattle.imp_slots.specs.Fits.{IsChecked}
use Rattle.batch_meaning.specs.Report.{finding, checked_statements}
use Rattle.batch_interp.specs.Frames.{Plan}
use Rattle.batch_interp.specs.Handing.{AreHanded}
use Rattle.batch_interp.proofs.Fronts.{report_next, report_none}
use Rattle.batch_interp.proofs.Lists.{if_ok_along}
use Rattle.batch_interp.proofs.reporting.all_findings.Goals as goal

pub main_handed-requires : goal.main_handed-requires
main_handed-requires g c =
    let few = c.few_routines-count.ensures in
    let checked = subst (λ (p : Plan). IsChecked p.program) (sym c.new-plan.ensures.is) (subst IsChecked few.is few.checked) in
    record { some = checked.some }

pub loop-place-init : goal.loop-place-init
loop-place-init g c =
    let dom = g.D.Domain.operations c.args.dom.now in
    let plan = c.new-plan.result in
    let e : length c.few_routines-count.result.now ≡ length plan.program = ap length (c.few_routines-count.ensures.is ∙ sym (ap (λ (p : Plan). p.program) c.new-plan.ensures.is)) in
    record {
      within = omega (arith, e);
      told = report_none dom plan (length c.few_routines-count.result.now) c.new-parts.result e c.new-parts.ensures.empty;
      calls = subst (λ n. AreHanded dom plan n c.in_ok-calls.calls) (sym e) c.in_ok-calls.ensures.handed;
      right = c.new-remembered.ensures.right dom plan;
    }

pub findings_at-requires-clause-checked : goal.findings_at-requires-clause-checked
findings_at-requires-clause-checked g c =
    let few = c.few_routines-count.ensures in
    subst (λ (p : Plan). IsChecked p.program) (sym c.new-plan.ensures.is) (subst IsChecked few.is few.checked)

pub findings_at-requires-clause-within : goal.findings_at-requires-clause-within
findings_at-requires-clause-within g c = omega (arith, c.loop-place-test.true, c.loop-place.invariant.within)

pub findings_at-requires-clause-handed : goal.findings_at-requires-clause-handed
findings_at-requires-clause-handed g c =
    let next : c.loop-place.place ≡ suc (c.loop-place.place - 1) = omega (arith, c.loop-place-test.true) in
    subst (λ n. AreHanded (g.D.Domain.operations c.args.dom.now) c.new-plan.result n c.loop-place.calls) next c.loop-place.invariant.calls

pub loop-place-preserved : goal.loop-place-preserved
loop-place-preserved g c =
    let dom = g.D.Domain.operations c.args.dom.now in
    let plan = c.new-plan.result in
    let k = c.loop-place.place - 1 in
    let next : c.loop-place.place ≡ suc k = omega (arith, c.loop-place-test.true) in
    let there : k < length plan.program = omega (arith, c.loop-place-test.true, c.loop-place.invariant.within) in
    record {
      within = omega (arith, there);
      told = report_next dom plan k c.loop-place.parts c.push.new.self c.in_ok-walked.walked.findings there c.in_ok-walked.ensures.findings c.in_ok-push.ensures.added (c.loop-place.invariant.told ∙ ap (λ n. map (finding dom plan.engine plan.program) (checked_statements (drop n plan.program))) next);
      calls = c.in_ok-walked.ensures.calls;
      right = c.in_ok-walked.ensures.right;
    }

pub returns : goal.returns
returns g c =
    let dom = g.D.Domain.operations c.args.dom.now in
    let plan = c.new-plan.result in
    let first : c.loop-place.place ≡ 0 = omega (arith, c.loop-place-test.false) in
    let same = c.new-plan.ensures.is in
    record {
      is = if_ok_along c.in_one.result (λ all. all) _ _ c.in_one.ensures.is
          (c.loop-place.invariant.told ∙ ap (λ n. map (finding dom plan.engine plan.program) (checked_statements (drop n plan.program))) first ∙ (λ i. map (finding dom (same i).engine (same i).program) (checked_statements (same i).program)));
    }

use Rattle.std.proofs.Common.{◌∙◌, map}
use Rattle.batch_interp.specs.Answered.{value_of}
use Rattle.batch_interp.proofs.Fronts.{findings_come}
use Rattle.batch_interp.proofs.Handings.{handed_all, handed_down}
use Rattle.batch_interp.proofs.reporting.findings_at.Goals as goal

pub totals-requires-clause-entered : goal.totals-requires-clause-entered
totals-requires-clause-entered g c =
    let dom = g.D.Domain.operations c.args.dom.now in
    handed_all dom c.args.plan.now c.args.place c.args.calls c.as_slice.result.now c.requires.checked c.chains_go_through_callers.ensures.through c.requires.within c.requires.handed (c.as_slice.ensures.same ∙ c.in_ok-entered.ensures.entered)

pub returns : goal.returns
returns g c =
    let dom = g.D.Domain.operations c.args.dom.now in
    let plan = c.args.plan.now in
    record {
      findings = findings_come dom plan c.args.place c.body.result.now (map value_of c.in_ok-known.field-0.known) c.in_ok-findings.findings c.requires.checked c.places_are_found.ensures.found c.requires.within c.body.ensures.is c.in_ok-known.ensures.known (c.in_ok-findings.ensures.are plan.engine);
      calls = handed_down dom plan c.args.place c.args.calls c.in_ok-known.field-0.calls c.in_ok-entered.field-0.others c.append.new.all c.requires.within c.requires.handed c.in_ok-known.ensures.calls c.in_ok-entered.ensures.others c.in_ok-append.ensures.added;
      right = c.in_ok-known.ensures.right;
    }

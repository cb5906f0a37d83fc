use Rattle.std.proofs.Common.{◌∙◌}
use Rattle.std.specs.Option.{option_copied}
use Rattle.batch_interp.proofs.Fronts.{finding_step}
use Rattle.batch_interp.proofs.findings.add_findings.Goals as goal

pub loop-i-preserved : goal.loop-i-preserved
loop-i-preserved g c = λ e.
    finding_step (g.D.Domain.operations c.args.dom.now) e c.loop-i.found c.push.new.self c.args.claims.now c.args.totals.now c.loop-i.i c.index-claims-i.result (option_copied c.get.result) c.in_ok-finding.field-0 c.loop-i-test.true c.index-claims-i.is c.get.ensures.item (c.in_ok-finding.ensures.is e) c.in_ok-push.ensures.added
    ∙ c.loop-i.invariant e

use Rattle.std.proofs.Common.{◌≡◌, true, sym, ◌∙◌}
use Rattle.batch_interp.proofs.Remembering.{gives_along}
use Rattle.batch_interp.proofs.remembered.end_if_same.Goals as goal

pub returns-in_ok-end : goal.returns-in_ok-end
returns-in_ok-end g c =
    let d = c.args.interpreter.now.dom.now in
    let dom = g.D.Domain.operations d in
    let s = c.args.outcome.now.entered in
    let t = c.args.entered.now in
    let same : dom.same s t ≡ true = g.met.D.Domain.tests_equality d s t ∙ sym c.if-eq.ensures in
    record { gives = gives_along dom c.args.interpreter.now.plan.now c.args.outcome.now.place c.args.interpreter.now.frame.now.place s t c.args.outcome.now.end c.in_ok-end.end c.if-outcome-interpreter.true (((g.met.D.Domain.laws d).same s t).0 same) c.in_ok-end.ensures.same c.requires.right }

use Rattle.batch_interp.proofs.Remembering.{gives_always}
use Rattle.batch_interp.proofs.remembered.remember.Goals as goal

pub returns : goal.returns
returns g c =
    let dom = g.D.Domain.operations c.args.interpreter.now.dom.now in
    let plan = c.args.interpreter.now.plan.now in
    let frame = c.args.interpreter.now.frame.now in
    record { right = c.put.ensures.right dom plan c.requires.right (gives_always dom plan frame.place frame.sites c.args.entered c.args.end.now c.in_ok-end.end c.requires.gave c.in_ok-end.ensures.same) }

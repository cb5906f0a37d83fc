use Rattle.std.proofs.Common.{◌∷◌}
use Rattle.batch_interp.specs.Answered.{value_of}
use Rattle.batch_interp.proofs.Walkings.{callee_there, callee_gone}
use Rattle.batch_interp.proofs.walks.enter_callee.Goals as goal

pub returns-in-None : goal.returns-in-None
returns-in-None g c =
    record { is = callee_gone (g.D.Domain.operations c.args.interpreter.now.dom.now) c.args.interpreter.now.plan.now c.args.interpreter.now.frame.now.place c.args.callee c.args.call.now (value_of c.args.before) c.in-None.ensures.is }

pub returns : goal.returns
returns g c =
    record { is = callee_there (g.D.Domain.operations c.args.interpreter.now.dom.now) c.args.interpreter.now.plan.now c.args.interpreter.now.frame.now.place c.args.callee (c.args.site ∷ c.args.interpreter.now.frame.now.sites) c.args.call.now (value_of c.args.before) c.in-Some.field-0.now c.in_ok-entered-in-Some.entered c.in-Some.ensures.is c.in_ok-entered-in-Some.ensures.is }

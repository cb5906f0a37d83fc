use Rattle.std.proofs.Common.{sym, ap, Some, suc}
use Rattle.batch_meaning.specs.Places.{head_value, value_in}
use Rattle.batch_interp.specs.Answered.{value_of}
use Rattle.batch_interp.specs.Frames.{earlier}
use Rattle.batch_interp.proofs.Lists.{if_ok_along}
use Rattle.batch_interp.proofs.Walkings.{told_there}
use Rattle.batch_interp.proofs.values.value_within.Goals as goal

pub returns-in-Before : goal.returns-in-Before
returns-in-Before g c =
    let dom = g.D.Domain.operations c.args.interpreter.now.dom.now in
    let plan = c.args.interpreter.now.plan.now in
    let k = c.args.interpreter.now.frame.now.place in
    let z = c.args.interpreter.now.frame.now.sites in
    let v = value_of c.args.before in
    record { is = told_there dom plan k c.number.result c.in-Before.n z c.args.routine.now c.body-body.result.now v (λ s. Some s.before) c.args.at.now c.before_number.result c.requires.there c.number.ensures.is c.body-body.ensures.same (ap (value_in dom plan.engine (earlier plan.program (suc k)) z v) (sym c.in-Before.is)) c.before_number.ensures.is }

pub returns-in-After : goal.returns-in-After
returns-in-After g c =
    let dom = g.D.Domain.operations c.args.interpreter.now.dom.now in
    let plan = c.args.interpreter.now.plan.now in
    let k = c.args.interpreter.now.frame.now.place in
    let z = c.args.interpreter.now.frame.now.sites in
    let v = value_of c.args.before in
    record { is = told_there dom plan k c.number-in-After.result c.in-After.n z c.args.routine.now c.body-body.result.now v (λ s. Some s.after) c.args.at.now c.after_number.result c.requires.there c.number-in-After.ensures.is c.body-body.ensures.same (ap (value_in dom plan.engine (earlier plan.program (suc k)) z v) (sym c.in-After.is)) c.after_number.ensures.is }

pub returns-in-Head : goal.returns-in-Head
returns-in-Head g c =
    let dom = g.D.Domain.operations c.args.interpreter.now.dom.now in
    let plan = c.args.interpreter.now.plan.now in
    let k = c.args.interpreter.now.frame.now.place in
    let z = c.args.interpreter.now.frame.now.sites in
    let v = value_of c.args.before in
    record { is = told_there dom plan k c.number-in-Head.result c.in-Head.n z c.args.routine.now c.body-body.result.now v head_value c.args.at.now c.head_of_number.result c.requires.there c.number-in-Head.ensures.is c.body-body.ensures.same (ap (value_in dom plan.engine (earlier plan.program (suc k)) z v) (sym c.in-Head.is)) c.head_of_number.ensures.is }

pub returns-in-End : goal.returns-in-End
returns-in-End g c =
    let plan = c.args.interpreter.now.plan.now in
    let k = c.args.interpreter.now.frame.now.place in
    let z = c.args.interpreter.now.frame.now.sites in
    record { is = if_ok_along _ _ _ _ c.end_of.ensures.is (ap (value_in (g.D.Domain.operations c.args.interpreter.now.dom.now) plan.engine (earlier plan.program (suc k)) z (value_of c.args.before)) (sym c.in-End.is)) }

use Rattle.std.proofs.Common.{◌≢◌, ap, sym, ◌∙◌}
use Rattle.imp_slots.specs.BlockViews.{number_of}
use Rattle.batch_meaning.specs.Places.{find}
use Rattle.batch_interp.specs.Answered.{value_of}
use Rattle.batch_interp.specs.Seeking.{places, inner_of}
use Rattle.batch_interp.proofs.Lists.{if_ok_along}
use Rattle.batch_interp.proofs.Seekings.{seek_inner, seek_behind, then_part, else_part, body_part}
use Rattle.batch_interp.proofs.spots.+seeking.Goals as goal

pub seek-returns-then-holds_inside : goal.seek-returns-then-holds_inside
seek-returns-then-holds_inside g t c =
    let dom = g.D.Domain.operations c.args.interpreter.now.dom.now in
    let plan = c.args.interpreter.now.plan.now in
    let place = c.args.interpreter.now.frame.now.place in
    let z = c.args.interpreter.now.frame.now.sites in
    let other : c.args.number ≢ number_of c.node-item.result = λ e. c.if-number.false (e ∙ sym c.number.ensures.same) in
    record {
      is = if_ok_along _ _ _ _ c.seek_inside.ensures.is
          (sym (seek_inner dom plan place z c.args.number c.statements-node-items.result.now c.loop-node.node-index c.node-item.result (value_of c.loop-node.now) c.loop-node-test.true c.node-item.is other (sym c.if-holds_inside.ensures.is))
          ∙ c.loop-node.invariant.told);
      right = c.seek_inside.ensures.right;
    }

pub seek-loop-node-preserved : goal.seek-loop-node-preserved
seek-loop-node-preserved g t c =
    let dom = g.D.Domain.operations c.args.interpreter.now.dom.now in
    let plan = c.args.interpreter.now.plan.now in
    let place = c.args.interpreter.now.frame.now.place in
    let z = c.args.interpreter.now.frame.now.sites in
    let other : c.args.number ≢ number_of c.node-item.result = λ e. c.if-number.false (e ∙ sym c.number.ensures.same) in
    record {
      is = c.loop-node.invariant.is;
      told =
          seek_behind dom plan place z c.args.number c.statements-node-items.result.now c.loop-node.node-index c.node-item.result (value_of c.loop-node.now) (value_of c.in_ok-now.now) c.loop-node-test.true c.node-item.is other (sym c.if-holds_inside.ensures.is) c.in_ok-now.ensures.is
          ∙ c.loop-node.invariant.told;
      right = c.in_ok-now.ensures.right;
    }

pub seek_inside-returns-then-holds : goal.seek_inside-returns-then-holds
seek_inside-returns-then-holds g t c =
    let dom = g.D.Domain.operations c.args.interpreter.now.dom.now in
    let plan = c.args.interpreter.now.plan.now in
    let place = c.args.interpreter.now.frame.now.place in
    let z = c.args.interpreter.now.frame.now.sites in
    record {
      is = if_ok_along _ _ _ _ c.seek_under.ensures.is
          (then_part dom plan place z c.args.number c.in-If.field-0 c.in-If.cond c.in-If.then c.in-If.els (value_of c.args.before) (sym c.if-holds.ensures.is)
          ∙ ap (λ s. find c.args.number (inner_of dom plan place z s (value_of c.args.before))) (sym c.in-If.is));
      right = c.seek_under.ensures.right;
    }

pub seek_inside-returns-else-holds : goal.seek_inside-returns-else-holds
seek_inside-returns-else-holds g t c =
    let dom = g.D.Domain.operations c.args.interpreter.now.dom.now in
    let plan = c.args.interpreter.now.plan.now in
    let place = c.args.interpreter.now.frame.now.place in
    let z = c.args.interpreter.now.frame.now.sites in
    record {
      is = if_ok_along _ _ _ _ c.seek_under-else-holds.ensures.is
          (else_part dom plan place z c.args.number c.in-If.field-0 c.in-If.cond c.in-If.then c.in-If.els (value_of c.args.before) (sym c.if-holds.ensures.is)
          ∙ ap (λ s. find c.args.number (inner_of dom plan place z s (value_of c.args.before))) (sym c.in-If.is));
      right = c.seek_under-else-holds.ensures.right;
    }

pub seek_inside-returns-in_ok-head-in-While : goal.seek_inside-returns-in_ok-head-in-While
seek_inside-returns-in_ok-head-in-While g t c =
    let dom = g.D.Domain.operations c.args.interpreter.now.dom.now in
    let plan = c.args.interpreter.now.plan.now in
    let place = c.args.interpreter.now.frame.now.place in
    let z = c.args.interpreter.now.frame.now.sites in
    record {
      is = if_ok_along _ _ _ _ c.seek_under-in-While.ensures.is
          (body_part dom plan place z c.args.number c.in-While.n c.in-While.cond c.in-While.body (value_of c.args.before) (value_of c.in_ok-head-in-While.head) c.in_ok-head-in-While.ensures.is
          ∙ ap (λ s. find c.args.number (inner_of dom plan place z s (value_of c.args.before))) (sym c.in-While.is));
      right = c.seek_under-in-While.ensures.right;
    }

pub seek_under-returns : goal.seek_under-returns
seek_under-returns g t c =
    let dom = g.D.Domain.operations c.args.interpreter.now.dom.now in
    let plan = c.args.interpreter.now.plan.now in
    let place = c.args.interpreter.now.frame.now.place in
    let z = c.args.interpreter.now.frame.now.sites in
    record { is = if_ok_along _ _ _ _ c.seek.ensures.is (ap (λ v. find c.args.number (places dom plan place z c.args.block.now v)) c.in_ok-inside.ensures.is); right = c.seek.ensures.right }

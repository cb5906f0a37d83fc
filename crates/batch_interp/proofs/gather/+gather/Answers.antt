use Rattle.std.proofs.Common.{◌++◌, map, sym, ap, ◌∙◌}
use Rattle.batch_interp.specs.Answered.{value_of}
use Rattle.batch_interp.specs.Gathered.{gathered, gathered_in, within}
use Rattle.batch_interp.specs.Handing.{told_of, calls_from, calls_inside, of_calls}
use Rattle.batch_interp.proofs.Lists.{on_ok_along, on_ok_behind, part_added, nothing_left}
use Rattle.batch_interp.proofs.GatherLemmas.{gathered_step, gathered_end, if_gathered, loop_gathered}
use Rattle.batch_interp.proofs.gather.+gather.Goals as goal

pub gather_in-returns-in-While : goal.gather_in-returns-in-While
gather_in-returns-in-While g t c =
    let dom = g.D.Domain.operations c.args.interpreter.now.dom.now in
    let plan = c.args.interpreter.now.plan.now in
    let place = c.args.interpreter.now.frame.now.place in
    let z = c.args.interpreter.now.frame.now.sites in
    let v = value_of c.args.before.now in
    record {
      added = on_ok_along _ _ _ _ _ c.gather_loop.ensures.added (ap (λ s. gathered_in (within g.G.Gather.at_simple g.G.Gather.at_head) dom plan place z s v) (sym c.in-While.is));
      calls = on_ok_along _ _ _ _ _ c.gather_loop.ensures.calls (ap (λ s. calls_inside dom plan place z s v) (sym c.in-While.is));
      right = c.gather_loop.ensures.right;
    }

pub gather_in-returns-in_ok-fails-in-If : goal.gather_in-returns-in_ok-fails-in-If
gather_in-returns-in_ok-fails-in-If g t c =
    let dom = g.D.Domain.operations c.args.interpreter.now.dom.now in
    let plan = c.args.interpreter.now.plan.now in
    let place = c.args.interpreter.now.frame.now.place in
    let z = c.args.interpreter.now.frame.now.sites in
    let v = value_of c.args.before.now in
    let a = value_of c.in_ok-holds-in-If.holds in
    let b = value_of c.in_ok-fails-in-If.fails in
    record {
      added = on_ok_behind _ _ _ _ _ _ _ c.gather_from-in-If.ensures.added c.in_ok-gather_from-in-If.ensures.added
          (if_gathered (within g.G.Gather.at_simple g.G.Gather.at_head) dom plan place z c.in-If.field-0 c.in-If.cond c.in-If.then c.in-If.els c.args.node.now v a b c.in-If.is c.in_ok-holds-in-If.ensures.is c.in_ok-fails-in-If.ensures.is);
      calls = on_ok_behind _ _ _ _ _ _ _ c.gather_from-in-If.ensures.calls c.in_ok-gather_from-in-If.ensures.calls
          (if_gathered (of_calls dom z) dom plan place z c.in-If.field-0 c.in-If.cond c.in-If.then c.in-If.els c.args.node.now v a b c.in-If.is c.in_ok-holds-in-If.ensures.is c.in_ok-fails-in-If.ensures.is);
      right = c.gather_from-in-If.ensures.right;
    }

pub gather_loop-returns : goal.gather_loop-returns
gather_loop-returns g t c =
    let dom = g.D.Domain.operations c.args.interpreter.now.dom.now in
    let plan = c.args.interpreter.now.plan.now in
    let place = c.args.interpreter.now.frame.now.place in
    let z = c.args.interpreter.now.frame.now.sites in
    let v = value_of c.args.before.now in
    let h = value_of c.in_ok-head.head in
    let w = value_of c.in_ok-inside.inside in
    record {
      added = on_ok_behind _ _ _ _ _ _ _ c.gather_from.ensures.added c.in_ok-add_head.ensures.added
          (loop_gathered (within g.G.Gather.at_simple g.G.Gather.at_head) dom plan place z c.args.n c.args.cond.now c.args.body.now v h w c.in_ok-head.ensures.is c.in_ok-inside.ensures.is);
      calls = on_ok_along _ _ _ _ _ c.gather_from.ensures.calls (loop_gathered (of_calls dom z) dom plan place z c.args.n c.args.cond.now c.args.body.now v h w c.in_ok-head.ensures.is c.in_ok-inside.ensures.is);
      right = c.gather_from.ensures.right;
    }

pub gather_from-loop-node-init : goal.gather_from-loop-node-init
gather_from-loop-node-init g t c =
    let dom = g.D.Domain.operations c.args.interpreter.now.dom.now in
    let plan = c.args.interpreter.now.plan.now in
    let place = c.args.interpreter.now.frame.now.place in
    let z = c.args.interpreter.now.frame.now.sites in
    let v = value_of c.args.before in
    record {
      is = c.statements-node-items.ensures.same;
      told = ap (λ b. g.G.Gather.told c.args.found.now ++ gathered (within g.G.Gather.at_simple g.G.Gather.at_head) dom plan place z b v) c.statements-node-items.ensures.same;
      calls = ap (λ b. map told_of c.args.calls.now ++ calls_from dom plan place z b v) c.statements-node-items.ensures.same;
      right = c.requires.right;
    }

pub gather_from-loop-node-preserved : goal.gather_from-loop-node-preserved
gather_from-loop-node-preserved g t c =
    let dom = g.D.Domain.operations c.args.interpreter.now.dom.now in
    let plan = c.args.interpreter.now.plan.now in
    let place = c.args.interpreter.now.frame.now.place in
    let z = c.args.interpreter.now.frame.now.sites in
    let ss = c.statements-node-items.result.now in
    let i = c.loop-node.node-index in
    let s = c.node-item.result in
    let v = value_of c.loop-node.now in
    let w = value_of c.in_ok-now.now in
    record {
      is = c.loop-node.invariant.is;
      told =
          part_added _ _ _ _ _ c.in_ok-gather_in.ensures.added
          (gathered_step (within g.G.Gather.at_simple g.G.Gather.at_head) dom plan place z ss i s v w c.loop-node-test.true c.node-item.is c.in_ok-now.ensures.is)
          ∙ c.loop-node.invariant.told;
      calls =
          part_added _ _ _ _ _ c.in_ok-gather_in.ensures.calls
          (gathered_step (of_calls dom z) dom plan place z ss i s v w c.loop-node-test.true c.node-item.is c.in_ok-now.ensures.is)
          ∙ c.loop-node.invariant.calls;
      right = c.in_ok-now.ensures.right;
    }

pub gather_from-returns : goal.gather_from-returns
gather_from-returns g t c =
    let dom = g.D.Domain.operations c.args.interpreter.now.dom.now in
    let plan = c.args.interpreter.now.plan.now in
    let place = c.args.interpreter.now.frame.now.place in
    let z = c.args.interpreter.now.frame.now.sites in
    let ss = c.statements-node-items.result.now in
    let i = c.loop-node.node-index in
    let v = value_of c.loop-node.now in
    record {
      added = sym (nothing_left _ _ (gathered_end (within g.G.Gather.at_simple g.G.Gather.at_head) dom plan place z ss i v c.loop-node-test.false)) ∙ c.loop-node.invariant.told;
      calls = sym (nothing_left _ _ (gathered_end (of_calls dom z) dom plan place z ss i v c.loop-node-test.false)) ∙ c.loop-node.invariant.calls;
      right = c.loop-node.invariant.right;
    }

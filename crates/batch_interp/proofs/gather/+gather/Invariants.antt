use Rattle.std.proofs.Common.{◌≡◌, ◌+◌, ◌*◌, ◌++◌, drop, map}
use Rattle.imp_slots.specs.Sizes.{code_size}
use Rattle.imp_slots.specs.BlockViews.{code_of, node_size}
use Rattle.batch_interp.specs.Answered.{value_of}
use Rattle.batch_interp.specs.Remembering.{AreRight}
use Rattle.batch_interp.specs.Gathered.{gathered, within}
use Rattle.batch_interp.specs.Handing.{told_of, calls_from}
use Rattle.batch_interp.proofs.gather.+gather.Given as goal

abbrev pub decreases-gather_from : goal.decreases-gather_from
decreases-gather_from g l = 2 * code_size l.block.now + 1

abbrev pub decreases-gather_in : goal.decreases-gather_in
decreases-gather_in g l = 2 * node_size l.node.now

abbrev pub decreases-gather_loop : goal.decreases-gather_loop
decreases-gather_loop g l = 2 * code_size l.body.now + 2

-- what is gathered so far, with what is left of the block, is all
abbrev pub invariant-gather_from-loop-node : goal.invariant-gather_from-loop-node
invariant-gather_from-loop-node g l =
    let dom = g.D.Domain.operations l.interpreter.dom.now in
    let rest = gathered (within g.G.Gather.at_simple g.G.Gather.at_head) dom l.interpreter.plan.now l.interpreter.frame.now.place l.interpreter.frame.now.sites in
    let calls = calls_from dom l.interpreter.plan.now l.interpreter.frame.now.place l.interpreter.frame.now.sites in
    record {
      is : code_of l.node-items ≡ l.block;
      told : g.G.Gather.told l.found ++ rest (code_of (drop l.node-index l.node-items)) (value_of l.now) ≡ g.G.Gather.told l.initial.found ++ rest l.block (value_of l.fn.before);
      calls : map told_of l.calls ++ calls (code_of (drop l.node-index l.node-items)) (value_of l.now) ≡ map told_of l.initial.calls ++ calls l.block (value_of l.fn.before);
      right : AreRight dom l.interpreter.plan.now l.remembered;
    }

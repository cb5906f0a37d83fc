use Rattle.std.proofs.Common.{◌≡◌, ◌+◌, ◌*◌, ◌-◌, drop}
use Rattle.imp_slots.specs.Sizes.{code_size}
use Rattle.imp_slots.specs.BlockViews.{code_of, node_size}
use Rattle.batch_meaning.specs.Values as plain
use Rattle.batch_meaning.specs.Batch.{with_leaving, iterate}
use Rattle.batch_meaning.specs.Values.{lift}
use Rattle.std.proofs.Common.{true}
use Rattle.batch_interp.specs.Frames.{passed, thresholds_at}
use Rattle.batch_interp.specs.Passing.{states}
use Rattle.batch_interp.specs.Remembering.{AreRight}
use Rattle.batch_interp.proofs.Weights.{weight}
use Rattle.batch_interp.proofs.blocks.+blocks.Given as goal

abbrev pub decreases-block_answer : goal.decreases-block_answer
decreases-block_answer g l = 4 * (weight l.interpreter.now.plan.now.program l.interpreter.now.frame.now.place + code_size l.block.now) + 3

abbrev pub decreases-node_answer : goal.decreases-node_answer
decreases-node_answer g l = 4 * (weight l.interpreter.now.plan.now.program l.interpreter.now.frame.now.place + node_size l.node.now) + 2

abbrev pub decreases-block_under : goal.decreases-block_under
decreases-block_under g l = 4 * (weight l.interpreter.now.plan.now.program l.interpreter.now.frame.now.place + code_size l.block.now + 1)

abbrev pub decreases-if_answer : goal.decreases-if_answer
decreases-if_answer g l = 4 * (weight l.interpreter.now.plan.now.program l.interpreter.now.frame.now.place + code_size l.then.now + code_size l.els.now + 3) + 1

abbrev pub decreases-while_answer : goal.decreases-while_answer
decreases-while_answer g l = 4 * (weight l.interpreter.now.plan.now.program l.interpreter.now.frame.now.place + code_size l.body.now + 2) + 1

abbrev pub decreases-loop_head : goal.decreases-loop_head
decreases-loop_head g l = 4 * (weight l.interpreter.now.plan.now.program l.interpreter.now.frame.now.place + code_size l.body.now + 2)

abbrev pub decreases-call_answer : goal.decreases-call_answer
decreases-call_answer g l = 4 * (weight l.interpreter.now.plan.now.program l.interpreter.now.frame.now.place) + 5

abbrev pub decreases-callee_answer : goal.decreases-callee_answer
decreases-callee_answer g l = 4 * (weight l.interpreter.now.plan.now.program l.interpreter.now.frame.now.place) + 4

-- what is left of the block, from the state so far, gives what the block gives
abbrev pub invariant-block_answer-loop-node : goal.invariant-block_answer-loop-node
invariant-block_answer-loop-node g l =
    let rest = passed (g.D.Domain.operations l.interpreter.dom.now) l.interpreter.plan.now l.interpreter.frame.now.place l.interpreter.frame.now.sites in
    record {
      is : code_of l.node-items ≡ l.block;
      told : with_leaving (states l.leaving) (rest (code_of (drop l.node-index l.node-items)) (plain.State l.now)) ≡ with_leaving (states l.initial.leaving) (rest l.block (plain.State l.fn.state));
      right : AreRight (g.D.Domain.operations l.interpreter.dom.now) l.interpreter.plan.now l.remembered;
    }

-- the iterates that are left, from the state so far, come to what all do
abbrev pub invariant-loop_head-loop-k : goal.invariant-loop_head-loop-k
invariant-loop_head-loop-k g l =
    let dom = g.D.Domain.operations l.interpreter.dom.now in
    let body = passed dom l.interpreter.plan.now l.interpreter.frame.now.place l.interpreter.frame.now.sites l.body in
    let from = iterate dom l.interpreter.plan.now.engine (thresholds_at l.interpreter.plan.now l.interpreter.frame.now.place) (λ x. (body (lift (dom.assume l.cond true) x)).value) (plain.Over l.n l.interpreter.frame.now.sites) in
    record {
      told : from (l.interpreter.plan.now.engine.budget - l.k) l.k l.now ≡ from l.interpreter.plan.now.engine.budget 0 l.state;
      right : AreRight dom l.interpreter.plan.now l.remembered;
    }

abbrev pub decreases-procedure_answer : goal.decreases-procedure_answer
decreases-procedure_answer g l = 4 * (weight l.interpreter.now.plan.now.program l.interpreter.now.frame.now.place + code_size l.body.now) + 4

use Rattle.std.proofs.Common.{◌≡◌, ◌+◌, ◌*◌, drop}
use Rattle.imp_slots.specs.Sizes.{code_size}
use Rattle.imp_slots.specs.BlockViews.{code_of, node_size}
use Rattle.batch_meaning.specs.Places.{find}
use Rattle.batch_interp.specs.Answered.{value_of}
use Rattle.batch_interp.specs.Remembering.{AreRight}
use Rattle.batch_interp.specs.Seeking.{places}
use Rattle.batch_interp.proofs.spots.+seeking.Given as goal

abbrev pub decreases-seek : goal.decreases-seek
decreases-seek g l = 2 * code_size l.block.now + 1

abbrev pub decreases-seek_inside : goal.decreases-seek_inside
decreases-seek_inside g l = 2 * node_size l.node.now

abbrev pub decreases-seek_under : goal.decreases-seek_under
decreases-seek_under g l = 2 * code_size l.block.now + 2

-- what is left of the block, from what is known so far, has the statement where the block has it
abbrev pub invariant-seek-loop-node : goal.invariant-seek-loop-node
invariant-seek-loop-node g l =
    let all = places (g.D.Domain.operations l.interpreter.dom.now) l.interpreter.plan.now l.interpreter.frame.now.place l.interpreter.frame.now.sites in
    record {
      is : code_of l.node-items ≡ l.block;
      told : find l.number (all (code_of (drop l.node-index l.node-items)) (value_of l.now)) ≡ find l.number (all l.block (value_of l.fn.before));
      right : AreRight (g.D.Domain.operations l.interpreter.dom.now) l.interpreter.plan.now l.remembered;
    }

use Rattle.std.proofs.Common.{◌≡◌, ◌+◌, ◌*◌, drop}
use Rattle.imp_slots.specs.Sizes.{code_size}
use Rattle.imp_slots.specs.BlockViews.{code_of, node_size}
use Rattle.cert_meaning.specs.Followed.{with_leaving}
use Rattle.batch_interp.proofs.Weights.{weight}
use Rattle.cert_check.specs.Following.{followed_in}
use Rattle.cert_check.proofs.following.+following.Given as goal

abbrev pub decreases-follow_block : goal.decreases-follow_block
decreases-follow_block g l = 4 * (weight l.follower.now.routines.now l.follower.now.frame.now.place + code_size l.block.now) + 3

abbrev pub decreases-follow_node : goal.decreases-follow_node
decreases-follow_node g l = 4 * (weight l.follower.now.routines.now l.follower.now.frame.now.place + node_size l.node.now) + 2

abbrev pub decreases-follow_branch : goal.decreases-follow_branch
decreases-follow_branch g l = 4 * (weight l.follower.now.routines.now l.follower.now.frame.now.place + code_size l.block.now) + 4

abbrev pub decreases-follow_if : goal.decreases-follow_if
decreases-follow_if g l = 4 * (weight l.follower.now.routines.now l.follower.now.frame.now.place + code_size l.then.now + code_size l.els.now + 3) + 1

abbrev pub decreases-follow_while : goal.decreases-follow_while
decreases-follow_while g l = 4 * (weight l.follower.now.routines.now l.follower.now.frame.now.place + code_size l.body.now + 2) + 1

abbrev pub decreases-follow_round : goal.decreases-follow_round
decreases-follow_round g l = 4 * (weight l.follower.now.routines.now l.follower.now.frame.now.place + code_size l.body.now + 2)

abbrev pub decreases-follow_call : goal.decreases-follow_call
decreases-follow_call g l = 4 * (weight l.follower.now.routines.now l.follower.now.frame.now.place) + 5

abbrev pub decreases-follow_callee : goal.decreases-follow_callee
decreases-follow_callee g l = 4 * (weight l.follower.now.routines.now l.follower.now.frame.now.place) + 4

-- what is left of the block, from the state so far, comes to what the block does
abbrev pub invariant-follow_block-loop-node : goal.invariant-follow_block-loop-node
invariant-follow_block-loop-node g l =
    let rest = followed_in (g.D.Domain.operations l.follower.dom.now) (g.D.Portable.port l.follower.dom.now).leq l.follower.written.now l.follower.routines.now l.follower.frame.now.place l.follower.frame.now.sites in
    record {
      is : code_of l.node-items ≡ l.block;
      told : with_leaving l.leaving (rest (code_of (drop l.node-index l.node-items)) l.now) ≡ with_leaving l.initial.leaving (rest l.block l.fn.state);
    }

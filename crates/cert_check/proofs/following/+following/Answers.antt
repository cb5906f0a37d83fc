use Rattle.std.proofs.Common.{[], sym, ◌∙◌, reverse}
use Rattle.cert_reading.specs.Table.{state_at}
use Rattle.cert_check.specs.Following.{calls_in, followed_in, why_of}
use Rattle.cert_check.proofs.FollowLemmas.{alone_ends, block_end, block_fails, block_step, break_ends, call_comes, call_gone, if_stops, of_callee, round_ends, simple_ends}
use Rattle.cert_check.proofs.following.+following.Goals as goal

pub follow_block-returns-in-Fails : goal.follow_block-returns-in-Fails
follow_block-returns-in-Fails g t c =
    let dom = g.D.Domain.operations c.args.follower.now.dom.now in
    let leq = (g.D.Portable.port c.args.follower.now.dom.now).leq in
    let table = c.args.follower.now.written.now in
    let z = c.args.follower.now.frame.now.sites in
    let calls = calls_in dom leq table c.args.follower.now.routines.now c.args.follower.now.frame.now.place z in
    let h = rw c.in-Fails.is at c.in_ok-next.ensures.is in
    record {
      is =
          sym c.loop-node.invariant.told
          ∙ block_fails dom leq (state_at table) z calls c.statements-node-items.result.now c.loop-node.node-index c.node-item.result c.loop-node.now c.loop-node.leaving c.in-Fails.at (reverse c.in-Fails.chain) (why_of c.in-Fails.why) c.loop-node-test.true c.node-item.is h;
    }

pub follow_block-loop-node-preserved : goal.follow_block-loop-node-preserved
follow_block-loop-node-preserved g t c =
    let dom = g.D.Domain.operations c.args.follower.now.dom.now in
    let leq = (g.D.Portable.port c.args.follower.now.dom.now).leq in
    let table = c.args.follower.now.written.now in
    let z = c.args.follower.now.frame.now.sites in
    let calls = calls_in dom leq table c.args.follower.now.routines.now c.args.follower.now.frame.now.place z in
    let h = rw c.in-Behind.is at c.in_ok-next.ensures.is in
    record {
      is = c.loop-node.invariant.is;
      told = block_step dom leq (state_at table) z calls c.statements-node-items.result.now c.loop-node.node-index c.node-item.result c.loop-node.now c.in-Behind.next c.loop-node.leaving c.follow_node.new.leaving c.loop-node-test.true c.node-item.is h ∙ c.loop-node.invariant.told;
    }

pub follow_block-returns : goal.follow_block-returns
follow_block-returns g t c =
    let dom = g.D.Domain.operations c.args.follower.now.dom.now in
    let leq = (g.D.Portable.port c.args.follower.now.dom.now).leq in
    let table = c.args.follower.now.written.now in
    let z = c.args.follower.now.frame.now.sites in
    let calls = calls_in dom leq table c.args.follower.now.routines.now c.args.follower.now.frame.now.place z in
    record {
      is = sym c.loop-node.invariant.told ∙ block_end dom leq (state_at table) z calls c.statements-node-items.result.now c.loop-node.node-index c.loop-node.now c.loop-node.leaving c.loop-node-test.false;
    }

pub follow_node-returns-in-Simple : goal.follow_node-returns-in-Simple
follow_node-returns-in-Simple g t c =
    let dom = g.D.Domain.operations c.args.follower.now.dom.now in
    let leq = (g.D.Portable.port c.args.follower.now.dom.now).leq in
    let table = c.args.follower.now.written.now in
    let z = c.args.follower.now.frame.now.sites in
    let calls = calls_in dom leq table c.args.follower.now.routines.now c.args.follower.now.frame.now.place z in
    record { is = rw c.in-Simple.is (simple_ends dom leq (state_at table) z calls c.act.result 0 _ c.args.state.now c.args.leaving.now c.act.ensures.is) }

pub follow_node-returns-in-While : goal.follow_node-returns-in-While
follow_node-returns-in-While g t c =
    let dom = g.D.Domain.operations c.args.follower.now.dom.now in
    let leq = (g.D.Portable.port c.args.follower.now.dom.now).leq in
    let table = c.args.follower.now.written.now in
    let z = c.args.follower.now.frame.now.sites in
    let calls = calls_in dom leq table c.args.follower.now.routines.now c.args.follower.now.frame.now.place z in
    record { is = rw c.in-While.is (alone_ends dom leq (state_at table) z calls c.follow_while.result _ c.args.leaving.now c.follow_while.ensures.is) }

pub follow_node-returns-in-Call : goal.follow_node-returns-in-Call
follow_node-returns-in-Call g t c =
    let dom = g.D.Domain.operations c.args.follower.now.dom.now in
    let leq = (g.D.Portable.port c.args.follower.now.dom.now).leq in
    let table = c.args.follower.now.written.now in
    let z = c.args.follower.now.frame.now.sites in
    let calls = calls_in dom leq table c.args.follower.now.routines.now c.args.follower.now.frame.now.place z in
    record { is = rw c.in-Call.is (alone_ends dom leq (state_at table) z calls c.follow_call.result _ c.args.leaving.now c.follow_call.ensures.is) }

pub follow_node-returns-in-Break : goal.follow_node-returns-in-Break
follow_node-returns-in-Break g t c =
    let dom = g.D.Domain.operations c.args.follower.now.dom.now in
    let leq = (g.D.Portable.port c.args.follower.now.dom.now).leq in
    let table = c.args.follower.now.written.now in
    let z = c.args.follower.now.frame.now.sites in
    let calls = calls_in dom leq table c.args.follower.now.routines.now c.args.follower.now.frame.now.place z in
    record { is = rw c.in-Break.is (break_ends dom leq (state_at table) z calls c.leave_loop.result 0 c.args.state.now c.args.leaving.now c.leave_loop.new.leaving c.leave_loop.ensures.is c.leave_loop.ensures.left) }

pub follow_if-returns-in-Fails : goal.follow_if-returns-in-Fails
follow_if-returns-in-Fails g t c =
    let dom = g.D.Domain.operations c.args.follower.now.dom.now in
    let leq = (g.D.Portable.port c.args.follower.now.dom.now).leq in
    let table = c.args.follower.now.written.now in
    let z = c.args.follower.now.frame.now.sites in
    let calls = calls_in dom leq table c.args.follower.now.routines.now c.args.follower.now.frame.now.place z in
    let h = rw c.in-Fails.is at c.in_ok-left.ensures.is in
    record { is = if_stops dom leq (state_at table) z calls c.args.cond.now c.args.then.now c.args.els.now c.args.state.now c.args.leaving.now c.in-Fails.at (reverse c.in-Fails.chain) (why_of c.in-Fails.why) h }

pub follow_round-returns : goal.follow_round-returns
follow_round-returns g t c =
    let dom = g.D.Domain.operations c.args.follower.now.dom.now in
    let leq = (g.D.Portable.port c.args.follower.now.dom.now).leq in
    let body = followed_in dom leq c.args.follower.now.written.now c.args.follower.now.routines.now c.args.follower.now.frame.now.place c.args.follower.now.frame.now.sites c.args.body.now in
    record {
      is = round_ends dom leq c.args.follower.now.frame.now.sites c.args.n c.args.cond.now body c.end_round.result c.args.head.now c.new-leaving.result c.follow_branch.new.leaving c.as_slice-leaving.result.now c.in_ok-end.end c.new-leaving.ensures.empty c.in_ok-end.ensures.is c.as_slice-leaving.ensures.same c.end_round.ensures.is;
    }

pub follow_call-returns : goal.follow_call-returns
follow_call-returns g t c =
    record {
      is = call_comes (g.D.Domain.operations c.args.follower.now.dom.now) (g.D.Portable.port c.args.follower.now.dom.now).leq c.args.follower.now.written.now c.args.follower.now.routines.now c.leave_call.result c.args.follower.now.frame.now.place c.args.follower.now.frame.now.sites c.args.n c.args.call.now c.args.callee c.args.state.now c.in_ok-entered.entered c.in_ok-done.done c.in_ok-entered.ensures.value c.in_ok-done.ensures.is c.leave_call.ensures.is;
    }

pub follow_callee-returns-in-None : goal.follow_callee-returns-in-None
follow_callee-returns-in-None g t c =
    record { is = ([], call_gone (g.D.Domain.operations c.args.follower.now.dom.now) (g.D.Portable.port c.args.follower.now.dom.now).leq c.args.follower.now.written.now c.args.follower.now.routines.now c.args.follower.now.frame.now.place c.args.follower.now.frame.now.sites c.args.n c.args.callee c.args.entered (sym c.in-None.ensures.is)) }

pub follow_callee-returns-in_ok-inner-in-Some : goal.follow_callee-returns-in_ok-inner-in-Some
follow_callee-returns-in_ok-inner-in-Some g t c =
    record {
      is = of_callee (g.D.Domain.operations c.args.follower.now.dom.now) (g.D.Portable.port c.args.follower.now.dom.now).leq c.args.follower.now.written.now c.args.follower.now.routines.now c.follow_block.result c.new-leaving.result c.follow_block.new.leaving c.args.follower.now.frame.now.place c.args.follower.now.frame.now.sites c.args.n c.args.callee c.in-Some.routine.now c.body.result.now c.in_ok-inner-in-Some.inner c.args.entered c.in-Some.ensures.is c.in_ok-inner-in-Some.ensures.is c.body.ensures.same c.new-leaving.ensures.empty c.follow_block.ensures.is;
    }

use Rattle.imp_flow.proofs.TargetLists.{chain_gone}
use Rattle.imp_flow.proofs.ways.enter_chain.Goals as goal

pub returns-in-None-clause-is : goal.returns-in-None-clause-is
returns-in-None-clause-is c =
    let h = rw c.in-None.is at c.in_ok-enter_call.ensures.is in
    chain_gone c.args.flow.now c.args.chain.now c.loop-site.site-index c.site-item.result c.loop-site.now c.loop-site-test.true c.site-item.is c.loop-site.invariant.along h

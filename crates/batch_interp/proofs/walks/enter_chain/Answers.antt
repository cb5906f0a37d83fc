use Rattle.batch_interp.proofs.Walkings.{chain_gone, chain_on}
use Rattle.batch_interp.proofs.walks.enter_chain.Goals as goal

pub returns-in-None : goal.returns-in-None
returns-in-None g c =
    let h = rw (c.in-None.is, c.number.ensures.is) at c.in_ok-enter_call.ensures.is in
    record { is = chain_gone (g.D.Domain.operations c.args.dom.now) c.args.plan.now c.args.chain.now c.loop-site.site-index c.site-item.result c.loop-site.now.frame.sites c.loop-site.now c.loop-site-test.true c.site-item.is c.loop-site.invariant.sites c.loop-site.invariant.comes h }

pub loop-site-preserved : goal.loop-site-preserved
loop-site-preserved g c =
    let h = rw (c.in-Some.is, c.number.ensures.is) at c.in_ok-enter_call.ensures.is in
    chain_on (g.D.Domain.operations c.args.dom.now) c.args.plan.now c.args.chain.now c.loop-site.site-index c.site-item.result c.loop-site.now c.in-Some.next c.loop-site-test.true c.site-item.is c.loop-site.invariant h

use Rattle.why_slice.proofs.Putting.{put_list}
use Rattle.why_slice.proofs.listing.put_chains.Goals as goal

pub loop-chain-preserved : goal.loop-chain-preserved
loop-chain-preserved c =
    put_list c.args.stmts.now c.loop-chain.stmts c.put_sites.new.stmts c.args.chains.now c.loop-chain.chain-index c.chain-item.result c.loop-chain-test.true c.chain-item.is c.loop-chain.invariant
    c.in_ok-put_sites.ensures.put

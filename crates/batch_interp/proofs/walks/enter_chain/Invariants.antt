use Rattle.batch_interp.proofs.Walkings.{Along}
use Rattle.batch_interp.proofs.walks.enter_chain.Given as goal

abbrev pub invariant-loop-site : goal.invariant-loop-site
invariant-loop-site g l = Along (g.D.Domain.operations l.dom) l.plan l.chain l.site-index l.now

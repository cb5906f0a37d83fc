use Rattle.imp_check.proofs.ChainLemmas.{all_next, added_few}
use Rattle.imp_check.proofs.chains.all_chains.Goals as goal

pub loop-tally-preserved : goal.loop-tally-preserved
loop-tally-preserved c = record {
  known = c.loop-tally.invariant.known;
  few = rw c.added-total.ensures.is (added_few c.loop-tally.total _);
  told =
      all_next c.args.procs.now c.deref-tally-items.result.now c.loop-tally.tally-index _ c.loop-tally.total c.added-total.result _
      c.loop-tally.invariant.known c.loop-tally-test.true c.added-total.ensures.is c.loop-tally.invariant.told;
}

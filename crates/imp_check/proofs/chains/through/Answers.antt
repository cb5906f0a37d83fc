use Rattle.imp_check.proofs.ChainLemmas.{through_next, through_end, added_few}
use Rattle.imp_check.proofs.chains.through.Goals as goal

pub loop-i-preserved : goal.loop-i-preserved
loop-i-preserved c = record {
  known = c.loop-i.invariant.known;
  few = rw c.added-total.ensures.is (added_few c.loop-i.total c.called.result);
  told =
      through_next c.args.name.now c.args.later.now c.args.tallies.now c.loop-i.i c.index-later-i.result _ c.loop-i.total c.called.result c.added-total.result _ c.calls.result
      c.loop-i.invariant.known c.loop-i-test.true c.index-later-i.is (rw c.body.ensures.is at c.calls.ensures.is) c.called.ensures.is c.added-total.ensures.is c.loop-i.invariant.told;
}

pub returns : goal.returns
returns c = record { is = through_end c.args.name.now c.args.later.now c.loop-i.i c.loop-i.total _ c.loop-i-test.false c.loop-i.invariant.few c.loop-i.invariant.told }

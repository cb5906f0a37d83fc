use Rattle.std.proofs.Common.{arith}
use Rattle.fold_laws.specs.Folding.{fold_of}
use Rattle.dom_listseg.proofs.Collected.{put_next}
use Rattle.dom_listseg.proofs.sets.put_all.Goals as goal

pub loop-other-preserved : goal.loop-other-preserved
loop-other-preserved c =
    put_next fold_of c.args.graphs.now c.args.others.now c.loop-other.graphs c.put_folded.new.graphs c.loop-other.other-index c.other-item.result
    (omega arith) c.other-item.is c.loop-other.invariant c.in_ok-put_folded.ensures.put

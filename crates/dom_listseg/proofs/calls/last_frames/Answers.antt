use Rattle.std.proofs.Common.{arith}
use Rattle.shape_steps.specs.Steps.{last_frame_of}
use Rattle.dom_listseg.proofs.Collected.{single_next}
use Rattle.dom_listseg.proofs.calls.last_frames.Goals as goal

pub loop-graph-preserved : goal.loop-graph-preserved
loop-graph-preserved c =
    single_next last_frame_of c.args.graphs.now c.loop-graph.all c.put_last.new.graphs c.loop-graph.graph-index c.graph-item.result
    (omega arith) c.graph-item.is c.loop-graph.invariant c.in_ok-put_last.ensures.put

use Rattle.std.proofs.Common.{arith}
use Rattle.imp_slots.specs.ActionViews.{effect_of}
use Rattle.dom_listseg_meaning.specs.Operations.{stepped}
use Rattle.dom_listseg.proofs.Collected.{step_next}
use Rattle.dom_listseg.proofs.statements.moved_graphs.Goals as goal

pub loop-graph-preserved : goal.loop-graph-preserved
loop-graph-preserved c =
    step_next (stepped (effect_of c.args.action.now)) c.args.graphs.now c.loop-graph.all c.put_moved.new.graphs c.loop-graph.graph-index c.graph-item.result
    (omega arith) c.graph-item.is c.loop-graph.invariant c.in_ok-put_moved.ensures.put

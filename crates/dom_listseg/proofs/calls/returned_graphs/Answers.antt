use Rattle.std.proofs.Common.{arith, ap, ◌∙◌}
use Rattle.imp_slots.specs.CallViews.{taken_of}
use Rattle.dom_listseg_meaning.specs.Operations.{returned}
use Rattle.shape_graph.specs.Shape.{Shape}
use Rattle.fold_laws.specs.Folding.{fold_of}
use Rattle.dom_listseg_meaning.specs.Sets as sets
use Rattle.dom_listseg.proofs.Collected.{single_next}
use Rattle.dom_listseg.proofs.calls.returned_graphs.Goals as goal

pub loop-graph-preserved : goal.loop-graph-preserved
loop-graph-preserved c =
    single_next (λ g. returned (taken_of c.args.returning) g) c.args.graphs.now c.loop-graph.all c.put_folded.new.graphs c.loop-graph.graph-index c.graph-item.result
    (omega arith) c.graph-item.is c.loop-graph.invariant (c.in_ok-put_folded.ensures.put ∙ ap (λ g. sets.put (fold_of g) c.loop-graph.all) c.in_ok-below.ensures.exact
    ∙ ap (λ (g : Shape). sets.put (fold_of (returned (taken_of c.args.returning) g)) c.loop-graph.all) c.as_graph.ensures.same)

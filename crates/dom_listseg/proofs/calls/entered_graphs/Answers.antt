use Rattle.std.proofs.Common.{arith, ap, map, ◌∙◌}
use Rattle.shape_steps.specs.Steps.{push_frame_of, argument_of}
use Rattle.shape_graph.specs.Shape.{Shape}
use Rattle.fold_laws.specs.Folding.{fold_of}
use Rattle.dom_listseg_meaning.specs.Sets as sets
use Rattle.dom_listseg.proofs.Collected.{single_next}
use Rattle.dom_listseg.proofs.calls.entered_graphs.Goals as goal

pub loop-graph-preserved : goal.loop-graph-preserved
loop-graph-preserved c =
    single_next (λ g. push_frame_of g (map (argument_of g.frames) c.in_ok-sides.sides.items)) c.args.graphs.now c.loop-graph.all c.put_folded.new.graphs c.loop-graph.graph-index c.graph-item.result
    (omega arith) c.graph-item.is c.loop-graph.invariant (c.in_ok-put_folded.ensures.put ∙ ap (λ g. sets.put (fold_of g) c.loop-graph.all) c.in_ok-next.ensures.exact
    ∙ ap (λ (g : Shape). sets.put (fold_of (push_frame_of g (map (argument_of g.frames) c.deref.result.now))) c.loop-graph.all) c.as_graph.ensures.same
    ∙ ap (λ xs. sets.put (fold_of (push_frame_of c.graph-item.result (map (argument_of c.graph-item.result.frames) xs))) c.loop-graph.all) c.deref.ensures.value)

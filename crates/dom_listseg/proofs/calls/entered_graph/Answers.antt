use Rattle.std.proofs.Common.{sym, subst, ◌∙◌}
use Rattle.shape_graph.specs.Shape.{nodes}
use Rattle.shape_steps.specs.Steps.{AreTargets}
use Rattle.dom_listseg_meaning.proofs.CallLaws.{argument-node}
use Rattle.dom_listseg.proofs.calls.entered_graph.Goals as goal

pub push_frame-requires : goal.push_frame-requires
push_frame-requires c =
    record {
      targets = subst (AreTargets (nodes c.args.graph.now)) (sym (c.deref.ensures.value ∙ c.in_ok-targets.ensures.exact))
          (λ k i. argument-node c.args.graph.now c.args.sides.now k c.node_count-count.ensures.is_graph i);
    }

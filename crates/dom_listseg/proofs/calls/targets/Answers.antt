use Rattle.std.proofs.Common.{arith, ap, ◌++◌, ◌∷◌, [], ◌∙◌}
use Rattle.shape_steps.specs.Steps.{argument_of}
use Rattle.dom_listseg.proofs.Collected.{map_next}
use Rattle.dom_listseg.proofs.calls.targets.Goals as goal

pub loop-link-preserved : goal.loop-link-preserved
loop-link-preserved c =
    map_next (argument_of c.args.graph.now.frames) c.args.sides.now c.loop-link.targets.items c.push.new.self.items c.loop-link.link-index _ (omega arith) c.loop-link.invariant
    (c.in_ok-push.ensures.items ∙ ap (λ v. c.loop-link.targets.items ++ v ∷ []) c.side.ensures.target)

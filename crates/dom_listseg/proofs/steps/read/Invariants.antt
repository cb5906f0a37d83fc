use Rattle.std.proofs.Common.{◌≡◌, map, take}
use Rattle.shape_graph.specs.Shape.{Shape, target_at}
use Rattle.shape_steps.specs.Steps.{forget_of}
use Rattle.dom_listseg.proofs.steps.read.Given as goal

abbrev pub invariant-loop-one : goal.invariant-loop-one
invariant-loop-one l = l.graphs.items ≡ map (λ (h : Shape). forget_of h l.to (target_at h l.node)) (take l.one-index l.one-items)

use Rattle.std.proofs.Common.{◌≡◌, map, take}
use Rattle.shape_graph.specs.Shape.{Shape}
use Rattle.shape_steps.specs.Steps.{set_next_of, slot_of}
use Rattle.dom_listseg.proofs.steps.write.Given as goal

abbrev pub invariant-loop-one : goal.invariant-loop-one
invariant-loop-one l = l.graphs.items ≡ map (λ (h : Shape). set_next_of h l.node (slot_of h.frames l.from)) (take l.one-index l.one-items)

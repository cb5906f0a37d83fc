use Rattle.std.proofs.Common.{◌≡◌, map, take}
use Rattle.shape_steps.specs.Steps.{argument_of}
use Rattle.dom_listseg.proofs.calls.targets.Given as goal

abbrev pub invariant-loop-link : goal.invariant-loop-link
invariant-loop-link l = l.targets.items ≡ map (argument_of l.graph.frames) (take l.link-index l.sides)

use Rattle.std.proofs.Common.{◌≡◌, take}
use Rattle.dom_shapes_meaning.specs.Sets.{others}
use Rattle.dom_shapes.proofs.sets.others.Given as goal

abbrev pub invariant-loop-other : goal.invariant-loop-other
invariant-loop-other l = l.others.items ≡ others l.graph (take l.other-index l.graphs)

use Rattle.std.proofs.Common.{◌≡◌, take}
use Rattle.dom_shapes.proofs.sets.copied.Given as goal

abbrev pub invariant-loop-graph : goal.invariant-loop-graph
invariant-loop-graph l = l.copies.items ≡ take l.graph-index l.graphs

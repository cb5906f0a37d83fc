use Rattle.std.proofs.Common.{◌≡◌, take}
use Rattle.shape_graph.proofs.graph.ShapeGraph.copied_frames.Given as goal

abbrev pub invariant-loop-row : goal.invariant-loop-row
invariant-loop-row l = l.frames.items ≡ take l.row-index l.row-items

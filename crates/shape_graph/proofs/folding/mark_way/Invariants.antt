use Rattle.std.proofs.Common.{◌≡◌, ℕ, ◌<◌, Bool, List, Option, Some}
use Rattle.shape_graph.specs.Shape.{nodes}
use Rattle.shape_graph.specs.Tables.{marked_at, IsMarking, IsWay}
use Rattle.shape_graph.proofs.Marking.{missing}
use Rattle.shape_graph.proofs.folding.mark_way.Given as goal

abbrev pub invariant-loop-at : goal.invariant-loop-at
invariant-loop-at l = record {
  inside : (k : ℕ) → l.at ≡ Some k → k < nodes l.graph;
  way : (so_far : List (Option ℕ)) (anchors : List Bool) → IsMarking l.graph so_far l.fn.marks anchors
      → IsWay l.graph l.fn.start l.at l.fn.marks l.marks (marked_at anchors l.fn.start);
}

abbrev pub decreases-loop-at : goal.decreases-loop-at
decreases-loop-at l = missing l.marks

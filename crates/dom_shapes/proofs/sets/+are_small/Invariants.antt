use Rattle.std.proofs.Common.{length}
use Rattle.dom_shapes.proofs.sets.+are_small.Given as goal

abbrev pub decreases-are_small : goal.decreases-are_small
decreases-are_small l = length l.graphs.now

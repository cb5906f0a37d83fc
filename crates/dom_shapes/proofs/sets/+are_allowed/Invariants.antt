use Rattle.std.proofs.Common.{length}
use Rattle.dom_shapes.proofs.sets.+are_allowed.Given as goal

abbrev pub decreases-are_allowed : goal.decreases-are_allowed
decreases-are_allowed l = length l.graphs.now

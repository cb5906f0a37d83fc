use Rattle.std.proofs.Common.{length}
use Rattle.dom_shapes.proofs.sets.+is_alone.Given as goal

abbrev pub decreases-is_alone : goal.decreases-is_alone
decreases-is_alone l = length l.graphs.now

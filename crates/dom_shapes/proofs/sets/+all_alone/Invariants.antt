use Rattle.std.proofs.Common.{length}
use Rattle.dom_shapes.proofs.sets.+all_alone.Given as goal

abbrev pub decreases-all_alone : goal.decreases-all_alone
decreases-all_alone l = length l.graphs.now

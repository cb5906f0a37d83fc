use Rattle.std.proofs.Common.{length}
use Rattle.dom_shapes.proofs.graphs.+same_targets.Given as goal

abbrev pub decreases-same_targets : goal.decreases-same_targets
decreases-same_targets l = length l.left.now

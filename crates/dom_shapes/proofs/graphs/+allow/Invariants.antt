use Rattle.std.proofs.Common.{length}
use Rattle.dom_shapes.proofs.graphs.+allow.Given as goal

abbrev pub decreases-allow : goal.decreases-allow
decreases-allow l = length l.left.now

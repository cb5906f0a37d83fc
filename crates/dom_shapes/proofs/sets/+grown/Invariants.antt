use Rattle.std.proofs.Common.{length}
use Rattle.dom_shapes.proofs.sets.+grown.Given as goal

abbrev pub decreases-grown : goal.decreases-grown
decreases-grown l = length l.graphs.now

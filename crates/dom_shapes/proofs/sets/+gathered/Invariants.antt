use Rattle.std.proofs.Common.{length}
use Rattle.dom_shapes.proofs.sets.+gathered.Given as goal

abbrev pub decreases-gathered : goal.decreases-gathered
decreases-gathered l = length l.graphs.now

use Rattle.std.proofs.Common.{length}
use Rattle.dom_shapes.proofs.graphs.+put_either.Given as goal

abbrev pub decreases-put_either : goal.decreases-put_either
decreases-put_either l = length l.left.now

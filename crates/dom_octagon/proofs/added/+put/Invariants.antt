use Rattle.std.proofs.Common.{length}
use Rattle.dom_octagon.proofs.added.+put.Given as goal

abbrev pub decreases-put : goal.decreases-put
decreases-put l = length l.bounds.now

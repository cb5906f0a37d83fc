use Rattle.std.proofs.Common.{length}
use Rattle.dom_octagon.proofs.calls.+ordered.Given as goal

abbrev pub decreases-ordered : goal.decreases-ordered
decreases-ordered l = length l.sources.now

use Rattle.std.proofs.Common.{length}
use Rattle.dom_octagon.proofs.calls.+sources.Given as goal

abbrev pub decreases-sources : goal.decreases-sources
decreases-sources l = length l.arguments.now

use Rattle.std.proofs.Common.{length}
use Rattle.dom_octagon.proofs.calls.+meet_sources.Given as goal

abbrev pub decreases-meet_sources : goal.decreases-meet_sources
decreases-meet_sources l = length l.sources.now

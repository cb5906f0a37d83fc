use Rattle.std.proofs.Common.{length}
use Rattle.dom_interval.proofs.calls.+argument_ranges.Given as goal

abbrev pub decreases-argument_ranges : goal.decreases-argument_ranges
decreases-argument_ranges l = length l.arguments.now

use Rattle.std.proofs.Common.{length}
use Rattle.fault_verdicts.proofs.verdicts.+verdict_of.Given as goal

abbrev pub decreases-verdict_of : goal.decreases-verdict_of
decreases-verdict_of g l = length l.points.now

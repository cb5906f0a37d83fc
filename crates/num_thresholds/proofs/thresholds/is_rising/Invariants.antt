use Rattle.num_thresholds.proofs.NearestLemmas.{AreSeenTo}
use Rattle.num_thresholds.proofs.thresholds.is_rising.Given as goal

abbrev pub invariant-loop-number : goal.invariant-loop-number
invariant-loop-number l = AreSeenTo l.numbers l.number-index l.rising l.last

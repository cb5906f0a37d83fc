use Rattle.std.proofs.Common.{◌≡◌, drop}
use Rattle.num_thresholds.specs.Thresholds.{least_from}
use Rattle.num_thresholds.proofs.NearestLemmas.{lesser_of}
use Rattle.num_thresholds.proofs.nearest.scanned_from.Given as goal

abbrev pub invariant-loop-number : goal.invariant-loop-number
invariant-loop-number l = lesser_of l.least (least_from (drop l.number-index l.numbers) l.z) ≡ least_from l.numbers l.z

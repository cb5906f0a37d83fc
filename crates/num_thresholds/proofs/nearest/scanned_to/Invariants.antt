use Rattle.std.proofs.Common.{◌≡◌, drop}
use Rattle.num_thresholds.specs.Thresholds.{greatest_to}
use Rattle.num_thresholds.proofs.NearestLemmas.{greater_of}
use Rattle.num_thresholds.proofs.nearest.scanned_to.Given as goal

abbrev pub invariant-loop-number : goal.invariant-loop-number
invariant-loop-number l = greater_of l.greatest (greatest_to (drop l.number-index l.numbers) l.z) ≡ greatest_to l.numbers l.z

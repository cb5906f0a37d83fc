use Rattle.std.proofs.Common.{◌≡◌, drop}
use Rattle.fault_verdicts.specs.Verdicts.{kinds_after, kinds_of}
use Rattle.fault_verdicts.proofs.verdicts.kinds_of.Given as goal

abbrev pub invariant-loop-point : goal.invariant-loop-point
invariant-loop-point l = kinds_after l.kinds (drop l.point-index l.points) ≡ kinds_of l.points

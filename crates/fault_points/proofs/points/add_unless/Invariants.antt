use Rattle.std.proofs.Common.{◌≡◌, ◌++◌, map, take}
use Rattle.fault_points.specs.Points.{unless}
use Rattle.fault_points.proofs.points.add_unless.Given as goal

abbrev pub invariant-loop-point : goal.invariant-loop-point
invariant-loop-point l = l.found ≡ l.initial.found ++ map (unless l.c) (take l.point-index l.points)

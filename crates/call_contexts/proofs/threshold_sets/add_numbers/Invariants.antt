use Rattle.std.proofs.Common.{◌≡◌, ◌++◌, take}
use Rattle.call_contexts.specs.Mirrored.{above_one}
use Rattle.call_contexts.proofs.threshold_sets.add_numbers.Given as goal

-- the numbers so far
abbrev pub invariant-loop-i : goal.invariant-loop-i
invariant-loop-i l = l.thresholds ≡ l.initial.thresholds ++ above_one (take l.i l.numbers)

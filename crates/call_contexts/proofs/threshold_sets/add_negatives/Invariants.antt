use Rattle.std.proofs.Common.{◌≡◌, ◌++◌, drop}
use Rattle.call_contexts.specs.Mirrored.{negatives}
use Rattle.call_contexts.proofs.threshold_sets.add_negatives.Given as goal

-- the negatives of the numbers from this one on
abbrev pub invariant-loop-i : goal.invariant-loop-i
invariant-loop-i l = l.thresholds ≡ l.initial.thresholds ++ negatives (drop l.i l.numbers)

use Rattle.std.proofs.Common.{◌≡◌, ◌++◌, drop}
use Rattle.dom_interval_meaning.specs.Operations as operations
use Rattle.dom_interval.proofs.calls.filled.Given as goal

-- what is there and what is still to be done are all
abbrev pub invariant-loop-i : goal.invariant-loop-i
invariant-loop-i l = l.slots.items ++ operations.filled (drop l.i l.numbers) (drop l.i l.ranges) ≡ operations.filled l.numbers l.ranges

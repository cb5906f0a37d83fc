use Rattle.std.proofs.Common.{◌≡◌, take}
use Rattle.call_contexts.proofs.counts.numbers_of.Given as goal

-- the numbers so far
abbrev pub invariant-loop-value : goal.invariant-loop-value
invariant-loop-value l = l.numbers ≡ take l.value-index l.values

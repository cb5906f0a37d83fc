use Rattle.std.proofs.Common.{◌≡◌, drop}
use Rattle.call_contexts.specs.Tallies.{rising}
use Rattle.call_contexts.proofs.counts.rising.Given as goal

abbrev pub invariant-loop-i : goal.invariant-loop-i
invariant-loop-i l = l.found.keys ≡ rising (drop l.i l.numbers)

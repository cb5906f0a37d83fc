use Rattle.std.proofs.Common.{◌≡◌, drop}
use Rattle.imp_check.specs.Tallies.{tallies_of}
use Rattle.imp_check.proofs.chains.tallies.Given as goal

abbrev pub invariant-loop-i : goal.invariant-loop-i
invariant-loop-i l = l.found.items ≡ tallies_of (drop l.i l.procs)

use Rattle.std.proofs.Common.{◌≡◌, ◌+◌, drop}
use Rattle.imp_check.specs.Names.{place_named}
use Rattle.imp_check.proofs.names.place_named.Given as goal

abbrev pub invariant-loop-i : goal.invariant-loop-i
invariant-loop-i l = l.i + place_named (drop l.i l.procs) l.name ≡ place_named l.procs l.name

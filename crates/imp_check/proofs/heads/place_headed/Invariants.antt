use Rattle.std.proofs.Common.{◌≡◌, ◌+◌, drop}
use Rattle.imp_check.specs.Entries.{place_headed}
use Rattle.imp_check.proofs.heads.place_headed.Given as goal

abbrev pub invariant-loop-i : goal.invariant-loop-i
invariant-loop-i l = l.i + place_headed (drop l.i l.heads) l.name ≡ place_headed l.heads l.name

use Rattle.std.proofs.Common.{◌≡◌, ◌++◌, drop, map}
use Rattle.fault_verdicts.specs.Statements.{place_of}
use Rattle.daig_session.proofs.touring.places_of.Given as goal

abbrev pub invariant-loop-x : goal.invariant-loop-x
invariant-loop-x l = l.places ++ map place_of (drop l.x-index l.xs) ≡ map place_of l.xs

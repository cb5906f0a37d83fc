use Rattle.std.proofs.Common.{◌≡◌, ◌++◌, take, drop}
use Rattle.imp_check.specs.Slots.{routines_from, routines_of}
use Rattle.imp_check.proofs.routines.routines_by.Given as goal

-- the procedures so far, and those to come
abbrev pub invariant-loop-i : goal.invariant-loop-i
invariant-loop-i l = l.routines ++ routines_from (take l.i l.procs) (drop l.i l.procs) ≡ routines_of l.procs

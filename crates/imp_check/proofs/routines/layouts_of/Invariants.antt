use Rattle.std.proofs.Common.{◌≡◌, map, take}
use Rattle.imp_check.specs.Slots.{layout_in}
use Rattle.imp_check.proofs.routines.layouts_of.Given as goal

abbrev pub invariant-loop-proc : goal.invariant-loop-proc
invariant-loop-proc l = l.known.items ≡ map layout_in (take l.proc-index l.procs)

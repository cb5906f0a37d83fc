use Rattle.std.proofs.Common.{◌≡◌, ◌++◌, take}
use Rattle.imp_edit.proofs.procedures.add_all.Given as goal

abbrev pub invariant-loop-proc : goal.invariant-loop-proc
invariant-loop-proc l = l.all ≡ l.initial.all ++ take l.proc-index l.procs

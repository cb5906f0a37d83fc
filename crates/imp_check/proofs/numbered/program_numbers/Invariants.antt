use Rattle.std.proofs.Common.{◌≡◌, ◌++◌, drop}
use Rattle.imp_syntax.specs.Plain.{program_numbers}
use Rattle.imp_check.proofs.numbered.program_numbers.Given as goal

abbrev pub invariant-loop-proc : goal.invariant-loop-proc
invariant-loop-proc l = l.all ++ program_numbers (drop l.proc-index l.procs) ≡ l.initial.all ++ program_numbers l.procs

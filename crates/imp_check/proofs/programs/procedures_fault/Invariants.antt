use Rattle.std.proofs.Common.{◌≡◌, [], take, drop}
use Rattle.imp_check.specs.Programs.{procedures_fault}
use Rattle.imp_check.specs.Small.{small_program}
use Rattle.imp_check.proofs.programs.procedures_fault.Given as goal

-- what is left has the answer
abbrev pub invariant-loop-i : goal.invariant-loop-i
invariant-loop-i l = record {
  left : procedures_fault (take l.i l.procs) (drop l.i l.procs) ≡ procedures_fault [] l.procs;
  small : small_program (drop l.i l.procs) ≡ small_program l.procs;
}

use Rattle.std.proofs.Common.{◌≡◌, [], take, drop}
use Rattle.imp_check.specs.Programs.{variables_fault}
use Rattle.imp_check.proofs.programs.variables_fault.Given as goal

-- what is left has the answer
abbrev pub invariant-loop-i : goal.invariant-loop-i
invariant-loop-i l = variables_fault (take l.i l.variables) (drop l.i l.variables) ≡ variables_fault [] l.variables

use Rattle.std.proofs.Common.{◌≡◌, ◌+◌, ◌≤◌, drop}
use Rattle.imp_check.specs.Programs.{count_numeric}
use Rattle.imp_check.proofs.programs.count_numeric.Given as goal

abbrev pub invariant-loop-variable : goal.invariant-loop-variable
invariant-loop-variable l = record {
  told : l.count + count_numeric (drop l.variable-index l.variables) ≡ count_numeric l.variables;
  within : l.count ≤ l.variable-index;
}

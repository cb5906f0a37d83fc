use Rattle.std.proofs.Common.{◌≡◌, ◌+◌, ◌≤◌, drop}
use Rattle.imp_check.specs.Programs.{count_links}
use Rattle.imp_check.proofs.programs.count_links.Given as goal

abbrev pub invariant-loop-variable : goal.invariant-loop-variable
invariant-loop-variable l = record {
  told : l.count + count_links (drop l.variable-index l.variables) ≡ count_links l.variables;
  within : l.count ≤ l.variable-index;
}

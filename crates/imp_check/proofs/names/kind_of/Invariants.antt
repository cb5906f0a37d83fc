use Rattle.std.proofs.Common.{◌≡◌, drop}
use Rattle.imp_check.specs.Names.{kind_of}
use Rattle.imp_check.proofs.names.kind_of.Given as goal

-- what is left has the answer
abbrev pub invariant-loop-variable : goal.invariant-loop-variable
invariant-loop-variable l = kind_of (drop l.variable-index l.variables) l.name ≡ kind_of l.variables l.name

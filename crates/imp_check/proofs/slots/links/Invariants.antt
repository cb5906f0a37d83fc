use Rattle.std.proofs.Common.{◌≡◌, ◌++◌, drop}
use Rattle.imp_check.specs.Slots.{links}
use Rattle.imp_check.proofs.slots.links.Given as goal

abbrev pub invariant-loop-variable : goal.invariant-loop-variable
invariant-loop-variable l = l.found ++ links (drop l.variable-index l.variables) ≡ links l.variables

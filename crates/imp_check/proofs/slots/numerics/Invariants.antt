use Rattle.std.proofs.Common.{◌≡◌, ◌++◌, drop}
use Rattle.imp_check.specs.Slots.{numerics}
use Rattle.imp_check.proofs.slots.numerics.Given as goal

abbrev pub invariant-loop-variable : goal.invariant-loop-variable
invariant-loop-variable l = l.numbers ++ numerics (drop l.variable-index l.variables) ≡ numerics l.variables

use Rattle.std.proofs.Common.{◌≡◌, drop}
use Rattle.imp_syntax.specs.ActionViews.{operands_of}
use Rattle.imp_check.specs.Statements.{fit_parameters}
use Rattle.imp_check.proofs.statements.fit_parameters.Given as goal

-- what is left has the answer
abbrev pub invariant-loop-i : goal.invariant-loop-i
invariant-loop-i l = fit_parameters l.variables (operands_of (drop l.i l.arguments)) (drop l.i l.parameters) ≡ fit_parameters l.variables (operands_of l.arguments) l.parameters

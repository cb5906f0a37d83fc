use Rattle.std.proofs.Common.{◌≡◌, ◌++◌, drop}
use Rattle.fault_verdicts.specs.Statements.{evaluated_statements}
use Rattle.fault_report.proofs.collect.statements_of.Given as goal

abbrev pub invariant-loop-routine : goal.invariant-loop-routine
invariant-loop-routine l = l.found ++ evaluated_statements (drop l.routine-index l.routines) ≡ evaluated_statements l.routines

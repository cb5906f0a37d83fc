use Rattle.std.proofs.Common.{◌≡◌, ◌++◌, take}
use Rattle.daig_session.proofs.checks.add_statements.Given as goal

abbrev pub invariant-loop-stmt : goal.invariant-loop-stmt
invariant-loop-stmt l = l.found ≡ l.initial.found ++ take l.stmt-index l.stmts

use Rattle.std.proofs.Common.{◌≡◌, ◌++◌, take}
use Rattle.imp_syntax.proofs.stmt.append.Given as goal

-- the statements so far are there
abbrev pub invariant-loop-stmt : goal.invariant-loop-stmt
invariant-loop-stmt l = l.all ≡ l.initial.all ++ take l.stmt-index l.stmts

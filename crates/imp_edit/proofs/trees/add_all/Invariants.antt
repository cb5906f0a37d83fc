use Rattle.std.proofs.Common.{◌≡◌, ◌++◌, take}
use Rattle.imp_edit.proofs.trees.add_all.Given as goal

abbrev pub invariant-loop-stmt : goal.invariant-loop-stmt
invariant-loop-stmt l = l.all ≡ l.initial.all ++ take l.stmt-index l.stmts

use Rattle.std.proofs.Common.{◌≡◌, ◌++◌, drop}
use Rattle.daig_session.specs.Faults.{pointed_among}
use Rattle.daig_session.proofs.pointed.pointed_among.Given as goal

abbrev pub invariant-loop-stmt : goal.invariant-loop-stmt
invariant-loop-stmt l = l.found ++ pointed_among l.view (drop l.stmt-index l.stmts) ≡ pointed_among l.view l.stmts

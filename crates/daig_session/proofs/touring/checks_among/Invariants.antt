use Rattle.std.proofs.Common.{◌≡◌, ◌++◌, drop}
use Rattle.daig_session.specs.Reports.{checks_among}
use Rattle.daig_session.proofs.touring.checks_among.Given as goal

abbrev pub invariant-loop-stmt : goal.invariant-loop-stmt
invariant-loop-stmt l = l.places ++ checks_among l.view (drop l.stmt-index l.stmts) ≡ checks_among l.view l.stmts

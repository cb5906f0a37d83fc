use Rattle.std.proofs.Common.{◌≡◌, ◌+◌, drop}
use Rattle.imp_lex.specs.Front.{run, in_line}
use Rattle.imp_lex.proofs.front.line_run.Given as goal

abbrev pub invariant-loop-n : goal.invariant-loop-n
invariant-loop-n l = run in_line (drop l.n l.bytes) + l.n ≡ run in_line l.bytes

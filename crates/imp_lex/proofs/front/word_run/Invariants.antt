use Rattle.std.proofs.Common.{◌≡◌, ◌+◌, drop}
use Rattle.imp_lex.specs.Front.{run, is_word}
use Rattle.imp_lex.proofs.front.word_run.Given as goal

abbrev pub invariant-loop-n : goal.invariant-loop-n
invariant-loop-n l = run is_word (drop l.n l.bytes) + l.n ≡ run is_word l.bytes

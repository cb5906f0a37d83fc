use Rattle.std.proofs.Common.{◌≡◌, ◌++◌, drop}
use Rattle.cert_words.specs.Words.{words_text, more_text}
use Rattle.cert_words.proofs.write.words_text.Given as goal

-- what is written and what is still to be written are the text
abbrev pub invariant-loop-word : goal.invariant-loop-word
invariant-loop-word l = l.text ++ more_text (drop l.word-index l.rest) ≡ words_text l.words

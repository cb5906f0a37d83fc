use Rattle.std.proofs.Common.{◌≡◌, ◌++◌, drop}
use Rattle.cert_words.specs.Words.{words_text, more_text}
use Rattle.dom_interval_meaning.specs.State.{Within}
use Rattle.dom_interval_words.specs.Words.{slots_told, state_words}
use Rattle.dom_interval_words.proofs.write.put_within.Given as goal

-- what is written and what is still to be written are the text
abbrev pub invariant-loop-slot : goal.invariant-loop-slot
invariant-loop-slot l = l.text ++ more_text (slots_told (drop l.slot-index l.slots)) ≡ words_text (state_words (Within l.slots))

use Rattle.std.proofs.Common.{◌≡◌, ◌++◌, drop, map}
use Rattle.dom_listseg_words.specs.Words.{target_word}
use Rattle.dom_listseg_words.proofs.write.put_row.Given as goal

-- what is written and what is still to be written are the words
abbrev pub invariant-loop-target : goal.invariant-loop-target
invariant-loop-target l = l.words.items ++ map target_word (drop l.target-index l.targets) ≡ l.fn.words.items ++ map target_word l.targets

use Rattle.std.proofs.Common.{◌≡◌, ◌++◌, drop, map}
use Rattle.shape_graph.specs.Shape.{all_slots_of}
use Rattle.dom_listseg_words.specs.Words.{target_word}
use Rattle.dom_listseg_words.proofs.write.put_frames.Given as goal

-- what is written and what is still to be written are the words
abbrev pub invariant-loop-row : goal.invariant-loop-row
invariant-loop-row l = l.words.items ++ map target_word (all_slots_of (drop l.row-index l.frames)) ≡ l.fn.words.items ++ map target_word (all_slots_of l.frames)

use Rattle.std.proofs.Common.{◌≡◌, drop}
use Rattle.dom_listseg_words.specs.Words.{after_frames}
use Rattle.dom_listseg_words.proofs.parts.after_frames.Given as goal

-- the words after the other frames
abbrev pub invariant-loop-count : goal.invariant-loop-count
invariant-loop-count l = after_frames (drop l.count-index l.counts) l.words ≡ after_frames l.fn.counts l.fn.words

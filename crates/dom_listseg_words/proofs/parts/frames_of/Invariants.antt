use Rattle.std.proofs.Common.{◌≡◌, ◌++◌, drop}
use Rattle.dom_listseg_words.specs.Words.{frames_of}
use Rattle.dom_listseg_words.proofs.parts.frames_of.Given as goal

-- what is read and what is still to be read are the frames
abbrev pub invariant-loop-count : goal.invariant-loop-count
invariant-loop-count l = l.frames.items ++ frames_of (drop l.count-index l.counts) l.words ≡ frames_of l.fn.counts l.fn.words

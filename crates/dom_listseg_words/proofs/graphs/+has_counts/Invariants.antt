use Rattle.std.proofs.Common.{length}
use Rattle.dom_listseg_words.proofs.graphs.+has_counts.Given as goal

abbrev pub decreases-has_counts : goal.decreases-has_counts
decreases-has_counts l = length l.frames.now

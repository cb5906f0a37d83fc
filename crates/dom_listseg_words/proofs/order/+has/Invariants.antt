use Rattle.std.proofs.Common.{length}
use Rattle.dom_listseg_words.proofs.order.+has.Given as goal

abbrev pub decreases-has : goal.decreases-has
decreases-has l = length l.graphs.now

use Rattle.std.proofs.Common.{length}
use Rattle.dom_listseg_words.proofs.graphs.+rises.Given as goal

abbrev pub decreases-rises : goal.decreases-rises
decreases-rises l = length l.graphs.now

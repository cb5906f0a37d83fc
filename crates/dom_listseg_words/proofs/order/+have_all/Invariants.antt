use Rattle.std.proofs.Common.{length}
use Rattle.dom_listseg_words.proofs.order.+have_all.Given as goal

abbrev pub decreases-have_all : goal.decreases-have_all
decreases-have_all l = length l.others.now

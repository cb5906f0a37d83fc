use Rattle.std.proofs.Common.{length}
use Rattle.dom_interval_words.proofs.read.+slots_of.Given as goal

abbrev pub decreases-slots_of : goal.decreases-slots_of
decreases-slots_of l = length l.numbers.now

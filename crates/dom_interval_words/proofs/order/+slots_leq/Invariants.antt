use Rattle.std.proofs.Common.{length}
use Rattle.dom_interval_words.proofs.order.+slots_leq.Given as goal

abbrev pub decreases-slots_leq : goal.decreases-slots_leq
decreases-slots_leq l = length l.left.now

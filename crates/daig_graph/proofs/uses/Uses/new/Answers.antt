use Rattle.daig_graph.proofs.ThreadingKept.{threaded-none}
use Rattle.daig_graph.proofs.uses.Uses.new.Goals as goal

pub invariant_of-result : goal.invariant_of-result
invariant_of-result c = threaded-none c.new.result.items c.new-2.result.items c.new.ensures.items c.new-2.ensures.items

use Rattle.daig_graph.proofs.Owning.{owned-none}
use Rattle.daig_graph.proofs.owned.Owned.new.Goals as goal

pub invariant_of-result : goal.invariant_of-result
invariant_of-result c = owned-none c.new.result.items c.new-2.result.items c.new.ensures.items c.new-2.ensures.items

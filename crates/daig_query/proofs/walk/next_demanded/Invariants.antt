use Rattle.std.proofs.Common.{◌≡◌, map}
use Rattle.imp_flow.specs.Reached.{target_of}
use Rattle.daig_query.specs.Kept.{Names}
use Rattle.daig_query.specs.Right.{IsRight}
use Rattle.daig_query.specs.Walked.{IsPlaced, steps_left}
use Rattle.daig_query.proofs.walk.next_demanded.Given as goal

abbrev pub invariant-targets : goal.invariant-targets
invariant-targets g l = record {
  names : Names l.fn.store l.store;
  right : IsRight (g.D.Domain.operations l.dom) l.flow l.store;
  placed : IsPlaced (g.D.Domain.operations l.dom) l.flow (map target_of l.targets) l.store l.walk;
  stack : l.walk.stack.items ≡ l.fn.walk.stack.items;
}

abbrev pub decreases-targets : goal.decreases-targets
decreases-targets g l = steps_left (map target_of l.targets) l.walk

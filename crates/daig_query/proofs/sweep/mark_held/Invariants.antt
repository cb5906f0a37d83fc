use Rattle.std.proofs.Common.{◌≡◌}
use Rattle.state_table.specs.Marks.{mark_count, states_in}
use Rattle.daig_query.specs.Swept.{AreMarked}
use Rattle.daig_query.proofs.Sweeping.{Leaves}
use Rattle.daig_query.proofs.sweep.mark_held.Given as goal

-- the states of the cells after are marked, and there are as many marks more as cells at most
abbrev pub invariant-loop-cell : goal.invariant-loop-cell
invariant-loop-cell g l = record {
  states : states_in l.states ≡ states_in l.initial.states;
  marked : AreMarked l.graph.cells l.cell l.states;
  leaves : Leaves l.graph.cells l.cell (mark_count l.initial.states) (mark_count l.states);
}

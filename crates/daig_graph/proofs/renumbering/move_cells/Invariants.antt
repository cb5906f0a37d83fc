use Rattle.daig_graph.specs.Renumbered.{AreMoving}
use Rattle.daig_graph.proofs.renumbering.move_cells.Given as goal

abbrev pub invariant-loop-number : goal.invariant-loop-number
invariant-loop-number g l = record {
  moving : AreMoving l.new_of l.initial.values.items l.values.items l.initial.owned.of l.owned.of l.initial.uses l.uses l.number l.room;
}

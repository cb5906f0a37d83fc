use Rattle.state_table.specs.Marks.{rank}
use Rattle.daig_query.specs.Swept.{AreRenumbered}
use Rattle.daig_query.proofs.sweep.renumber_held.Given as goal

-- the cells after hold their states under the new numbers
abbrev pub invariant-loop-cell : goal.invariant-loop-cell
invariant-loop-cell g l = AreRenumbered (rank l.states) l.cell l.initial.graph.cells l.graph.cells

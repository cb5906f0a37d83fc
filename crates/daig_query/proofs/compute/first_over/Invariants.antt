use Rattle.daig_query.specs.Overs.{HasNoOver}
use Rattle.daig_query.proofs.compute.first_over.Given as goal

abbrev pub invariant-loop-cell : goal.invariant-loop-cell
invariant-loop-cell l = HasNoOver l.graph.cells l.cells l.cell-index

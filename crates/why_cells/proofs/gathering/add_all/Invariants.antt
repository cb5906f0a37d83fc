use Rattle.why_cells.proofs.Gathers.{Adding}
use Rattle.why_cells.proofs.gathering.add_all.Given as goal

abbrev pub invariant-loop-cell : goal.invariant-loop-cell
invariant-loop-cell l = Adding l.initial.cells.items l.more l.cell-index l.cells.items l.seen

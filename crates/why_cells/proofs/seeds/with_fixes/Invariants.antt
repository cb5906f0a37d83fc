use Rattle.why_cells.proofs.Ways.{Collects}
use Rattle.why_cells.proofs.seeds.with_fixes.Given as goal

abbrev pub invariant-loop-cell : goal.invariant-loop-cell
invariant-loop-cell l = Collects l.names.names l.found l.cell-index l.cells.items

use Rattle.std.proofs.Common.{◌≡◌, take}
use Rattle.cell_removal.specs.Removal.{without}
use Rattle.cell_removal.proofs.committing.commit.Given as goal

abbrev pub invariant-loop-cell : goal.invariant-loop-cell
invariant-loop-cell g l = record {
  cells : l.graph.cells ≡ without l.initial.graph.cells (take l.cell-index l.cell-items);
  places : l.graph.places ≡ l.initial.graph.places;
}

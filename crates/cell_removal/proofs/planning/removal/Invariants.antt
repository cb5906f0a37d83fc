use Rattle.std.proofs.Common.{◌≡◌, [], take}
use Rattle.daig_graph.specs.Held.{IsIn}
use Rattle.cell_removal.specs.Removal.{Removes}
use Rattle.cell_removal.specs.Marks.{AreMarked, HasRoomForAll}
use Rattle.cell_removal.proofs.planning.removal.Given as goal

abbrev pub invariant-loop-cell : goal.invariant-loop-cell
invariant-loop-cell g l = record {
  removes : Removes l.graph.cells (IsIn (take l.cell-index l.touched)) l.cells.items;
  marked : AreMarked l.marks l.cells.items;
  room : HasRoomForAll l.graph.cells l.marks;
  empty : l.stack.items ≡ [];
}

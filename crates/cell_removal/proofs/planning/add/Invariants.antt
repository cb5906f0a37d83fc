use Rattle.std.proofs.Common.{◌≡◌, length}
use Rattle.cell_removal.proofs.Stacks.{turns}
use Rattle.cell_removal.proofs.Turns.{Walking}
use Rattle.cell_removal.proofs.planning.add.Given as goal

abbrev pub invariant-users : goal.invariant-users
invariant-users g l = record {
  walking : Walking l.graph.cells l.cell l.initial.planned.items l.marks l.planned.items l.stack.items;
  room : length l.marks ≡ length l.initial.marks;
}

abbrev pub decreases-users : goal.decreases-users
decreases-users g l = turns l.graph.cells l.planned.items l.stack.items

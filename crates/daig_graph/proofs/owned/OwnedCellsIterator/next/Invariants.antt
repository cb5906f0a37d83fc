use Rattle.std.proofs.Common.{◌≡◌, length}
use Rattle.std.specs.List.{filter}
use Rattle.daig_graph.specs.Cells.{is_owned}
use Rattle.daig_graph.proofs.owned.OwnedCellsIterator.next.Given as goal

abbrev pub invariant-loop-cell : goal.invariant-loop-cell
invariant-loop-cell g l = filter (is_owned l.initial.self-inside.graph.now.cells l.initial.self-inside.statement) l.initial.self-inside.shared ≡ filter (is_owned l.self-inside.graph.now.cells l.self-inside.statement) l.self-inside.shared

abbrev pub decreases-loop-cell : goal.decreases-loop-cell
decreases-loop-cell g l = length l.self-inside.shared

use Rattle.std.proofs.Common.{◌-◌}
use Rattle.std.specs.FinMap.{len}
use Rattle.why_cells.proofs.Walking.{Walked}
use Rattle.why_cells.proofs.gathering.all_hung.Given as goal

abbrev pub invariant-cells : goal.invariant-cells
invariant-cells g l = Walked (g.D.Domain.operations l.engine.domain) l.flow l.engine.store l.seeds l.next l.cells.items l.seen l.told

abbrev pub decreases-cells : goal.decreases-cells
decreases-cells g l = len l.engine.store.graph.cells - l.next

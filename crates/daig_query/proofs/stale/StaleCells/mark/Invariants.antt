use Rattle.std.proofs.Common.{◌≡◌, ℕ, ◌<◌, Some, min, length, slice_get}
use Rattle.std.specs.FinMap.{len}
use Rattle.daig_graph.specs.Held.{IsIn}
use Rattle.daig_query.specs.declared.stale.StaleCell.{StaleCell}
use Rattle.daig_query.specs.Stale.{stale_at, IsReadBy}
use Rattle.daig_query.proofs.stale.StaleCells.mark.Given as goal

-- each stale cell so far is a planned one
abbrev pub invariant-loop-cell : goal.invariant-loop-cell
invariant-loop-cell l = record {
  stale : (n : ℕ) (s : StaleCell) → stale_at l.self n ≡ Some s → IsReadBy l.graph.cells n s × IsIn l.order n;
  count : l.self.count ≡ min (length l.order) (len l.graph.cells);
}

-- and none of the touched so far
abbrev pub invariant-loop-cell-2 : goal.invariant-loop-cell-2
invariant-loop-cell-2 l = record {
  stale : (n : ℕ) (s : StaleCell) → stale_at l.self n ≡ Some s → IsReadBy l.graph.cells n s × IsIn l.order n × ((k : ℕ) → k < l.cell-index → slice_get l.touched k ≡ Some n → ⊥);
  count : l.self.count ≡ min (length l.order) (len l.graph.cells);
}

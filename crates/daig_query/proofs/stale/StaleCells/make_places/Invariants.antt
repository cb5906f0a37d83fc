use Rattle.std.proofs.Common.{◌≡◌, ℕ, ◌+◌, ◌-◌, None, map, length, get_or}
use Rattle.daig_query.specs.Dates.{stale_by, AreDated}
use Rattle.daig_query.specs.Stale.{stale_at}
use Rattle.daig_query.proofs.stale.StaleCells.make_places.Given as goal

-- the same cells are stale with more places
abbrev pub invariant-loop-self : goal.invariant-loop-self
invariant-loop-self l = record {
  same : (n : ℕ) → get_or (map (stale_by l.self-inside.edit) l.self-inside.cells.items) n None ≡ stale_at l.fn.self n;
  dated : AreDated l.self-inside.edit l.self-inside.cells.items;
  count : l.self-inside.count ≡ l.fn.self.count;
}

abbrev pub decreases-loop-self : goal.decreases-loop-self
decreases-loop-self l = l.cell + 1 - length l.self-inside.cells.items

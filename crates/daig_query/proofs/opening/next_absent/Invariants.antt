use Rattle.std.proofs.Common.{◌≡◌, ◌-◌, length}
use Rattle.daig_query.specs.Kept.{Names}
use Rattle.cell_graph.specs.Asked.{inputs}
use Rattle.daig_query.specs.Opened.{name_of, IsAt}
use Rattle.daig_query.proofs.opening.next_absent.Given as goal

-- in this round: the names that were there, the name that is filled, and its row
abbrev pub invariant-inputs : goal.invariant-inputs
invariant-inputs g l = record {
  names : Names l.fn.store l.store;
  at : IsAt (g.D.Domain.operations l.dom) l.flow l.store l.row l.entry;
  cell : l.entry.cell ≡ l.fn.entry.cell;
  name : l.entry.name ≡ l.fn.entry.name;
}

-- the inputs that are still to be found
abbrev pub decreases-inputs : goal.decreases-inputs
decreases-inputs g l = length (inputs (g.D.Domain.operations l.dom) l.flow (name_of l.store l.entry)) - length l.entry.inputs

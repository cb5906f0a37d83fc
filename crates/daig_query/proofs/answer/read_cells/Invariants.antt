use Rattle.std.proofs.Common.{◌≡◌, ◌+◌, ◌*◌, ◌≤◌, List, map, take, None}
use Rattle.batch_meaning.specs.Values as plain
use Rattle.daig_query.specs.Answered.{HoldValues, joined_all}
use Rattle.daig_query.proofs.answer.read_cells.Given as goal

-- the cells so far hold states, and these are joined
abbrev pub invariant-cells : goal.invariant-cells
invariant-cells g l = record {
  joined : (vs : List (plain.Value g.row.D-State.Denot)) → HoldValues l.store l.cells vs →
      (ss : List g.row.D-State.Denot) × (take l.cell-index vs ≡ map plain.State ss) × (l.so_far ≡ joined_all (g.D.Domain.operations l.dom) None ss);
  least : l.fn.steps ≤ l.steps;
  most : l.steps ≤ l.fn.steps + g.D.Domain.counted l.dom * (2 * l.cell-index);
}

use Rattle.std.proofs.Common.{arith}
use Rattle.cell_removal.proofs.Turns.{none_planned}
use Rattle.cell_removal.proofs.Whole.{removes_none, removes_more, removes_all}
use Rattle.cell_removal.proofs.planning.removal.Goals as goal

pub returns-then-touched-eq0 : goal.returns-then-touched-eq0
returns-then-touched-eq0 g c = record {
  removes = removes_all c.args.graph.now.cells c.args.touched.now 0 c.new-cells.result.items (omega (arith, c.if-touched-eq0.true)) (removes_none c.args.graph.now.cells c.new-cells.result.items c.new-cells.ensures.items);
}

pub loop-cell-init : goal.loop-cell-init
loop-cell-init g c = record {
  removes = removes_none c.args.graph.now.cells c.new-cells.result.items c.new-cells.ensures.items;
  marked = none_planned c.in_ok-marks.marks c.new-cells.result.items c.in_ok-marks.ensures.none c.new-cells.ensures.items;
  room = λ n there. c.in_ok-marks.ensures.room n (c.room.ensures.room n there);
  empty = c.new-stack.ensures.items;
}

pub loop-cell-preserved : goal.loop-cell-preserved
loop-cell-preserved g c = record {
  removes =
      removes_more c.args.graph.now.cells c.args.touched.now c.loop-cell.cell-index c.loop-cell.cells.items c.add.new.planned.items c.loop-cell-test.true c.loop-cell.invariant.removes
      c.in_ok-add.ensures.order c.in_ok-add.ensures.adds;
  marked = c.in_ok-add.ensures.marked;
  room = λ n there. omega (arith, c.add.ensures.room, c.loop-cell.invariant.room n there);
  empty = c.in_ok-add.ensures.empty;
}

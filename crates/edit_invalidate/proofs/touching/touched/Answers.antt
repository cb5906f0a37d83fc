use Rattle.edit_invalidate.proofs.Adding.{touched_next, touched_end}
use Rattle.edit_invalidate.proofs.touching.touched.Goals as goal

pub loop-stmt-preserved : goal.loop-stmt-preserved
loop-stmt-preserved g c =
    touched_next c.args.old.now c.args.new.now c.args.names.now.names c.args.graph.now.cells c.args.changed.now c.loop-stmt.stmt-index c.loop-stmt.touched.items c.add_touched.new.touched.items c.loop-stmt-test.true c.loop-stmt.invariant c.in_ok-add_touched.ensures.adds

pub returns : goal.returns
returns g c = record {
  are = touched_end c.args.old.now c.args.new.now c.args.names.now.names c.args.graph.now.cells c.args.changed.now c.loop-stmt.stmt-index c.loop-stmt.touched.items c.loop-stmt-test.false c.loop-stmt.invariant;
}

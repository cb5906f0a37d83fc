use Rattle.std.proofs.Common.{take}
use Rattle.edit_invalidate.specs.Touched.{AreTouched}
use Rattle.edit_invalidate.proofs.touching.touched.Given as goal

abbrev pub invariant-loop-stmt : goal.invariant-loop-stmt
invariant-loop-stmt g l = AreTouched l.old l.new l.names.names l.graph.cells (take l.stmt-index l.changed) l.touched.items

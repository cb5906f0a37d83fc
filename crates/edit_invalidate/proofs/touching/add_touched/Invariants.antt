use Rattle.edit_invalidate.proofs.Adding.{Seen}
use Rattle.edit_invalidate.proofs.touching.add_touched.Given as goal

abbrev pub invariant-loop-cell : goal.invariant-loop-cell
invariant-loop-cell g l = Seen l.old l.new l.names.names l.graph.cells l.stmt l.yielded l.initial.touched.items l.touched.items

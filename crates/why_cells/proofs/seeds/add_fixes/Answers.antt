use Rattle.std.proofs.Common.{arith}
use Rattle.cell_names.specs.Paths.{path_at}
use Rattle.daig_query.specs.Walked.{fixes}
use Rattle.why_cells.proofs.Ways.{adds_first, adds_next}
use Rattle.why_cells.proofs.seeds.add_fixes.Goals as goal

pub loop-before-init : goal.loop-before-init
loop-before-init c = (c.requires.there, λ n. adds_first c.args.names.now.names (fixes (path_at c.args.names.now.paths c.args.path)) c.args.cells.now.items)

pub add_fix-requires : goal.add_fix-requires
add_fix-requires c = omega (arith, c.in-Some.ensures.before, c.loop-before.invariant.0)

pub loop-before-preserved : goal.loop-before-preserved
loop-before-preserved c = (
  omega (arith, c.in-Some.ensures.before, c.loop-before.invariant.0),
  λ n. adds_next c.args.names.now.names (fixes (path_at c.args.names.now.paths c.args.path)) c.args.cells.now.items c.loop-before.cells.items c.add_fix.new.cells.items _ (path_at c.args.names.now.paths c.loop-before.rest) _
      c.in-Some.ensures.last n (c.loop-before.invariant.1 n) c.in_ok-add_fix.ensures.adds,
)

use Rattle.std.proofs.Common.{◌<◌, length}
use Rattle.cell_names.specs.Paths.{path_at}
use Rattle.daig_query.specs.Walked.{fixes}
use Rattle.why_cells.specs.Reached.{AllNamed}
use Rattle.why_cells.proofs.Ways.{Adds}
use Rattle.why_cells.proofs.seeds.add_fixes.Given as goal

abbrev pub invariant-loop-before : goal.invariant-loop-before
invariant-loop-before l = (l.rest < length l.names.paths) × (AllNamed l.names.names (fixes (path_at l.names.paths l.fn.path)) → Adds l.names.names (fixes (path_at l.names.paths l.fn.path)) (fixes (path_at l.names.paths l.rest)) l.initial.cells.items l.cells.items)

abbrev pub decreases-loop-before : goal.decreases-loop-before
decreases-loop-before l = l.rest

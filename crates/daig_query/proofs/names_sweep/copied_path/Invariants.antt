use Rattle.std.proofs.Common.{◌≡◌, length}
use Rattle.cell_names.specs.Paths.{path_at}
use Rattle.daig_query.proofs.Renaming.{Copies}
use Rattle.daig_query.proofs.names_sweep.copied_path.Given as goal

-- The last frames of the path are copied, and no name is added.
abbrev pub invariant-loop-frame : goal.invariant-loop-frame
invariant-loop-frame l = record {
  copies : Copies l.initial.later.paths (path_at l.names.paths l.fn.path) l.frames.items l.later.paths l.copied;
  names : l.later.names ≡ l.initial.later.names;
}

abbrev pub decreases-loop-frame : goal.decreases-loop-frame
decreases-loop-frame l = length l.frames.items

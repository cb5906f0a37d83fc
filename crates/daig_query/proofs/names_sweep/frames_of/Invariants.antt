use Rattle.std.proofs.Common.{◌≡◌, ◌<◌, ◌++◌, length}
use Rattle.cell_names.specs.Paths.{path_at}
use Rattle.daig_query.proofs.names_sweep.frames_of.Given as goal

-- The frames so far, and those of what is left of the path, are those of the path.
abbrev pub invariant-loop-before : goal.invariant-loop-before
invariant-loop-before l = record {
  there : l.rest < length l.names.paths;
  split : l.frames.items ++ path_at l.names.paths l.rest ≡ path_at l.names.paths l.fn.path;
}

abbrev pub decreases-loop-before : goal.decreases-loop-before
decreases-loop-before l = l.rest

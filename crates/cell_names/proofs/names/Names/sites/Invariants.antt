use Rattle.std.proofs.Common.{◌≡◌, ◌<◌, ◌++◌, length}
use Rattle.cell_names.specs.Paths.{path_at, sites_of}
use Rattle.cell_names.proofs.names.Names.sites.Given as goal

-- The call sites so far, and those of what is left of the path, are those of the path.
abbrev pub invariant-loop-before : goal.invariant-loop-before
invariant-loop-before l = (l.rest < length l.self.paths) × (l.sites ++ sites_of (path_at l.self.paths l.rest) ≡ sites_of (path_at l.self.paths l.fn.path))

abbrev pub decreases-loop-before : goal.decreases-loop-before
decreases-loop-before l = l.rest

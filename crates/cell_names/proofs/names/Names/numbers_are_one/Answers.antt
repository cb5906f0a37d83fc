use Rattle.cell_names.proofs.KeptLemmas.{known-paths-once, known-names-once}
use Rattle.cell_names.proofs.names.Names.numbers_are_one.Goals as goal

pub returns-clause-paths : goal.returns-clause-paths
returns-clause-paths c = known-paths-once _ _ c.self.invariant _ c.self.view_is

pub returns-clause-names : goal.returns-clause-names
returns-clause-names c = known-names-once _ _ c.self.invariant _ c.self.view_is

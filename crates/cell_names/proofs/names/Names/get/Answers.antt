use Rattle.cell_names.proofs.KeptLemmas.{known-name-path}
use Rattle.cell_names.proofs.names.Names.get.Goals as goal

pub returns-clause-path : goal.returns-clause-path
returns-clause-path c = known-name-path _ _ c.self.invariant _ c.self.view_is _ _ c.get.ensures.state

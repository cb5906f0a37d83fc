use Rattle.cell_names.proofs.Telling.{name_tells, name_self}
use Rattle.cell_names.proofs.OnceLemmas.{once_told}
use Rattle.cell_names.proofs.KeptLemmas.{known-add, known-add-kept}
use Rattle.cell_names.proofs.names.Names.add.Goals as goal

pub invariant_of-self-2 : goal.invariant_of-self-2
invariant_of-self-2 c = known-add-kept _ _ c.self.invariant _ c.self.view_is c.args.name _ _ c.requires.there (once_told _ _ c.in_ok-number.ensures.once name_self) (c.in_ok-number.ensures.adds name_tells)

pub returns-clause-name : goal.returns-clause-name
returns-clause-name c = known-add _ _ c.self.invariant _ c.self.view_is c.args.name _ _ c.requires.there (c.in_ok-number.ensures.adds name_tells)

use Rattle.cell_names.proofs.Telling.{name_tells, name_self}
use Rattle.cell_names.proofs.KeptLemmas.{known-name, known-found}
use Rattle.cell_names.proofs.names.Names.find.Goals as goal
use Rattle.std.proofs.lemmas.Option.{IfSome_then}

pub returns-clause-name : goal.returns-clause-name
returns-clause-name c = IfSome_then c.find.result (c.find.ensures.same name_tells) (λ n at. known-name _ _ c.self.invariant _ c.self.view_is c.args.name.now n at)

pub returns-clause-found : goal.returns-clause-found
returns-clause-found c n at = c.find.ensures.found n _ (known-found _ _ c.self.invariant _ c.self.view_is c.args.name.now n c.requires.there at) (name_self c.args.name.now)

use Rattle.std.proofs.Common.{inl, refl, sym, subst}
use Rattle.cell_names.specs.Known.{Known, Adds}
use Rattle.cell_names.specs.Paths.{name_in}
use Rattle.cell_names.proofs.names.Names.add_input.Goals as goal

pub returns-in-Some-clause-name : goal.returns-in-Some-clause-name
returns-in-Some-clause-name c = inl (c.in-Some.ensures.is, refl)

pub returns-clause-name : goal.returns-clause-name
returns-clause-name c = subst (λ (k : Known). Adds c.args.self.now.names k.names (name_in c.args.self.now.paths c.args.name) c.in_ok-number.number) (sym c.note.ensures.same) c.in_ok-number.ensures.name

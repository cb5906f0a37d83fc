use Rattle.std.proofs.Common.{◌≡◌, Some, slice_get, sym, ◌∙◌, subst}
use Rattle.cell_names.specs.declared.path.Name.{Name}
use Rattle.cell_names.specs.Paths.{name_in}
use Rattle.cell_names.proofs.Telling.{name_tells}
use Rattle.cell_names.proofs.names.Names.noted_number.Goals as goal

pub returns-then-eq : goal.returns-then-eq
returns-then-eq c =
    let same = name_tells c.get-found.result c.args.name.now (sym c.eq.ensures ∙ c.if-eq.true) in
    record { is = subst (λ (x : Name). slice_get c.args.self.now.names c.at-number.result ≡ Some (name_in c.args.self.now.paths x)) same c.get-found.ensures.name }

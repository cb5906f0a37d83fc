use Rattle.std.proofs.Common.{◌≡◌, ◌∙◌, ap, sym, arith}
use Rattle.cell_names.specs.Paths.{path_at}
use Rattle.cell_names.proofs.KeptLemmas.{known-root, known-length}
use Rattle.cell_names.proofs.names.Names.last_frame.Goals as goal

pub returns-then-number-eq0-clause-empty : goal.returns-then-number-eq0-clause-empty
returns-then-number-eq0-clause-empty c =
    let e : c.args.path ≡ 0 = sym c.number.ensures.is ∙ c.if-number-eq0.true in
    ap (λ n. path_at c.args.self.now.paths n) e ∙ known-root _ _ c.self.invariant _ c.self.view_is

pub get-step-requires : goal.get-step-requires
get-step-requires c = omega (arith, known-length _ _ c.self.invariant _ c.self.view_is, c.requires.there)

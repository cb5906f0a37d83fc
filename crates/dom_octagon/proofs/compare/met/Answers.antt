use Rattle.std.specs.Prelude.{◌≡◌, refl}
use Rattle.std.proofs.Common.{◌∙◌, ap}
use Rattle.dbm_core.specs.Half.{HalfMatrix}
use Rattle.dom_octagon_meaning.specs.Operations.{at_most_matrix}
use Rattle.dom_octagon.proofs.Bounds.{bound-kinds}
use Rattle.dom_octagon.specs.Added.{with_bound_if}
use Rattle.dom_octagon.proofs.compare.met.Goals as goal

pub returns : goal.returns
returns c =
    let first : HalfMatrix = with_bound_if c.args.m.now c.most_bound-there.result in
    let e : with_bound_if first c.most_bound-back.result ≡ at_most_matrix (at_most_matrix c.args.m.now c.args.a c.args.b c.args.l c.args.r) c.args.b c.args.a c.args.r c.args.l =
    c.most_bound-back.ensures.value first (bound-kinds c.args.m.now c.most_bound-there.result)
    ∙ ap (λ n. at_most_matrix n c.args.b c.args.a c.args.r c.args.l) (c.most_bound-there.ensures.value c.args.m.now refl) in
    record { exact = rw e at c.close_with.ensures.exact }

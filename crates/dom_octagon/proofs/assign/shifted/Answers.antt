use Rattle.std.proofs.Common.{◌≡◌, ◌∙◌, ap, ◌<◌, length, arith, FitsSigned, Some}
use Rattle.std.specs.Prelude.{◌-ℤ◌}
use Rattle.std.proofs.lemmas.Int.{to_z-of_z, ints}
use mir.Syntax.{w128}
use Rattle.dbm_core.specs.Half.{entry, nodes}
use Rattle.dbm_core.specs.Weights.{add_weight}
use Rattle.dom_octagon_meaning.specs.Matrices.{shift, turned}
use Rattle.dom_octagon_meaning.proofs.Matrices.{turned-below}
use Rattle.dom_octagon.proofs.assign.shifted.Goals as goal

pub plus-requires-clause-bound : goal.plus-requires-clause-bound
plus-requires-clause-bound c =
    let p : c.turned.result < nodes c.args.m.now = rw c.turned.ensures.value (turned-below c.args.x c.args.i c.args.a (length c.args.m.now.kinds) c.requires.row) in
    let q : c.turned-2.result < nodes c.args.m.now = rw c.turned-2.ensures.value (turned-below c.args.x c.args.i c.args.b (length c.args.m.now.kinds) c.requires.column) in
    rw c.get-bound.ensures.bound (c.requires.limited.within c.turned.result c.turned-2.result p q)

pub returns : goal.returns
returns c =
    let f : FitsSigned w128 c.apart.result = omega (arith, ints, c.apart.ensures.small.0, c.apart.ensures.small.1) in
    let s : c.plus.result ≡ add_weight c.get-bound.result (Some c.apart.result) = rw (to_z-of_z w128 c.apart.result f) at c.plus.ensures.sum in
    let g : c.get-bound.result ≡ entry c.args.m.now (turned c.args.x c.args.i c.args.a) (turned c.args.x c.args.i c.args.b) =
    c.get-bound.ensures.bound ∙ ap (λ k. entry c.args.m.now k c.turned-2.result) c.turned.ensures.value ∙ ap (entry c.args.m.now (turned c.args.x c.args.i c.args.a)) c.turned-2.ensures.value in
    let d : c.apart.result ≡ shift c.args.x c.args.c c.args.b -ℤ shift c.args.x c.args.c c.args.a = rw (to_z-of_z w128 c.args.c c.ranges.c) at c.apart.ensures.value in
    record { value = s ∙ (λ i. add_weight (g i) (Some (d i))) }

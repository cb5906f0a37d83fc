use Rattle.std.proofs.Common.{rules, ◌≡◌, ap, ◌∙◌, arith, FitsSigned, Some, int_le, true}
use Rattle.std.proofs.lemmas.Int.{ints, to_z-of_z}
use Rattle.std.specs.Int.{int_max, int_min, w64, w128}
use Rattle.num_bounds.specs.Bounds.{Bounds, least, greatest}
use Rattle.num_bounds.proofs.Ends.{word-some}
use Rattle.num_bounds.proofs.wide.Wide.word.Goals as goal

pub returns-then-lo-hi : goal.returns-then-lo-hi
returns-then-lo-hi c =
    let f : FitsSigned w128 c.self.inside.lo = search rules in
    let g : FitsSigned w128 c.self.inside.hi = search rules in
    let m : FitsSigned w128 c.max-lo.result = search rules in
    let n : FitsSigned w128 c.min-hi.result = search rules in
    let lo : c.max-lo.result ≡ int_max c.args.self.lo least = simp (to_z-of_z) at c.max-lo.ensures.value ∙ ap (λ (b : Bounds). int_max b.lo least) c.self.view_is in
    let hi : c.min-hi.result ≡ int_min c.args.self.hi greatest = simp (to_z-of_z) at c.min-hi.ensures.value ∙ ap (λ (b : Bounds). int_min b.hi greatest) c.self.view_is in
    let t : int_le c.max-lo.result c.min-hi.result ≡ true = simp to_z-of_z at c.if-lo-hi.true in
    let x : FitsSigned w64 c.max-lo.result = omega (arith, ints) in
    let y : FitsSigned w64 c.min-hi.result = omega (arith, ints) in
    let e : c.from_ends.result ≡ record { lo = c.max-lo.result; hi = c.min-hi.result } = simp to_z-of_z at c.from_ends.ensures.exact in
    record { word = ap Some e ∙ word-some c.args.self _ _ lo hi t }

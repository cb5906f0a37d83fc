use Rattle.std.proofs.Common.{rules, ◌∙◌, FitsSigned}
use Rattle.std.specs.Int.{w64}
use Rattle.std.proofs.lemmas.Int.{to_z-of_z}
use Rattle.std.proofs.Common.{int_div}
use Rattle.num_bounds.specs.Operations.{hull_of, corners}
use Rattle.num_bounds.proofs.range.corner_quotients.Goals as goal

pub returns : goal.returns
returns c =
    let a : FitsSigned w64 c.dividend.inside.lo = search rules in
    let b : FitsSigned w64 c.dividend.inside.hi = search rules in
    let d : FitsSigned w64 c.part.inside.lo = search rules in
    let e : FitsSigned w64 c.part.inside.hi = search rules in
    let ll = simp to_z-of_z at c.quotient.ensures.exact in
    let lh = simp to_z-of_z at c.quotient-2.ensures.exact in
    let hl = simp to_z-of_z at c.quotient-3.ensures.exact in
    let hh = simp to_z-of_z at c.quotient-4.ensures.exact in
    record {
      exact =
          c.hull.ensures.hull
          ∙ (λ i. hull_of (c.hull-of_lo.ensures.hull i) (c.hull-of_hi.ensures.hull i))
          ∙ (λ i. hull_of (hull_of (ll i) (lh i)) (hull_of (hl i) (hh i)))
          ∙ (λ i. corners int_div (c.dividend.view_is i) (c.part.view_is i));
    }

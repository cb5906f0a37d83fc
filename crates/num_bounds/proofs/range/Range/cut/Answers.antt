use Rattle.std.proofs.Common.{rules, Option, sym, subst, ◌∙◌, FitsSigned}
use Rattle.std.specs.Int.{w64}
use Rattle.std.proofs.lemmas.Int.{to_z-of_z}
use Rattle.num_bounds.specs.Bounds.{Bounds}
use Rattle.num_bounds.specs.Meaning.{IsMeet}
use Rattle.num_bounds.specs.Operations.{range_between, cut_of}
use Rattle.num_bounds.proofs.Ends.{cut-meet}
use Rattle.num_bounds.proofs.range.Range.cut.Goals as goal

pub returns-clause-exact : goal.returns-clause-exact
returns-clause-exact c =
    let a : FitsSigned w64 c.self.inside.lo = search rules in
    let b : FitsSigned w64 c.self.inside.hi = search rules in
    let l : FitsSigned w64 c.max.result = search rules in
    let h : FitsSigned w64 c.min.result = search rules in
    let p : FitsSigned w64 c.args.lo = c.ranges.lo in
    let q : FitsSigned w64 c.args.hi = c.ranges.hi in
    let lo = simp to_z-of_z at c.max.ensures.value in
    let hi = simp to_z-of_z at c.min.ensures.value in
    (simp to_z-of_z at c.new.ensures.exact)
    ∙ (λ i. range_between (lo i) (hi i))
    ∙ (λ i. cut_of (c.self.view_is i) c.args.lo c.args.hi)

pub returns-clause-meet : goal.returns-clause-meet
returns-clause-meet c = subst (λ (r : Option Bounds). IsMeet c.args.self c.args.lo c.args.hi r) (sym (returns-clause-exact c)) (cut-meet c.args.self c.args.lo c.args.hi)

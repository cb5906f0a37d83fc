use Rattle.std.proofs.Common.{rules, ◌*ℤ◌, ◌≤ℤ◌, Option, IfSome, sym, subst, ◌∙◌, FitsSigned}
use Rattle.std.specs.Int.{w64}
use Rattle.std.proofs.lemmas.Int.{to_z-of_z}
use Rattle.num_bounds.specs.Bounds.{Bounds, IsRange}
use Rattle.num_bounds.specs.Meaning.{CoversResults}
use Rattle.num_bounds.specs.Operations.{products, hull_of, word}
use Rattle.num_bounds.proofs.Ends.{word-range}
use Rattle.num_bounds.proofs.Products.{products-sound, products-best}
use Rattle.num_bounds.proofs.range.Range.mul.Goals as goal

pub returns-clause-exact : goal.returns-clause-exact
returns-clause-exact c =
    let a : FitsSigned w64 c.self.inside.lo = search rules in
    let b : FitsSigned w64 c.self.inside.hi = search rules in
    let d : FitsSigned w64 c.other.inside.lo = search rules in
    let e : FitsSigned w64 c.other.inside.hi = search rules in
    let ll = simp to_z-of_z at c.product.ensures.exact in
    let lh = simp to_z-of_z at c.product-2.ensures.exact in
    let hl = simp to_z-of_z at c.product-3.ensures.exact in
    let hh = simp to_z-of_z at c.product-4.ensures.exact in
    c.word.ensures.word
    ∙ (λ i. word (c.hull.ensures.hull i))
    ∙ (λ i. word (hull_of (c.hull-of_lo.ensures.hull i) (c.hull-of_hi.ensures.hull i)))
    ∙ (λ i. word (hull_of (hull_of (ll i) (lh i)) (hull_of (hl i) (hh i))))
    ∙ (λ i. word (products (c.self.view_is i) (c.other.view_is i)))

pub returns-clause-sound : goal.returns-clause-sound
returns-clause-sound c = subst (λ (r : Option Bounds). CoversResults ◌*ℤ◌ c.args.self c.args.other r) (sym (returns-clause-exact c)) (products-sound c.args.self c.args.other)

pub returns-clause-best : goal.returns-clause-best
returns-clause-best c =
    let p : c.args.self.lo ≤ℤ c.args.self.hi = subst (λ (b : Bounds). b.lo ≤ℤ b.hi) c.self.view_is c.self.invariant in
    let q : c.args.other.lo ≤ℤ c.args.other.hi = subst (λ (b : Bounds). b.lo ≤ℤ b.hi) c.other.view_is c.other.invariant in
    products-best c.args.self c.args.other p q

pub returns-clause-range : goal.returns-clause-range
returns-clause-range c = subst (λ (r : Option Bounds). IfSome r IsRange) (sym (returns-clause-exact c)) (word-range (products c.args.self c.args.other))

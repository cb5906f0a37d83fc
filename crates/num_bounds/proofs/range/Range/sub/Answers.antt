use Rattle.std.proofs.Common.{rules, ◌≤ℤ◌, ◌-ℤ◌, Option, IfSome, sym, subst, arith, FitsSigned, ◌∙◌}
use Rattle.std.proofs.lemmas.Int.{ints, to_z-of_z}
use Rattle.std.specs.Int.{w64, w128}
use Rattle.num_bounds.specs.Bounds.{Bounds, IsRange}
use Rattle.num_bounds.specs.Operations.{differences, word}
use Rattle.num_bounds.proofs.Ends.{word-range}
use Rattle.num_bounds.proofs.Sums.{differences-sound, differences-best}
use Rattle.num_bounds.specs.Meaning.{CoversResults, IsAllTaken}
use Rattle.num_bounds.proofs.range.Range.sub.Goals as goal

pub returns-clause-exact : goal.returns-clause-exact
returns-clause-exact c =
    let a : FitsSigned w64 c.self.inside.lo = search rules in
    let b : FitsSigned w64 c.self.inside.hi = search rules in
    let d : FitsSigned w64 c.other.inside.lo = search rules in
    let e : FitsSigned w64 c.other.inside.hi = search rules in
    let a' : FitsSigned w128 c.self.inside.lo = omega (arith, ints) in
    let b' : FitsSigned w128 c.self.inside.hi = omega (arith, ints) in
    let d' : FitsSigned w128 c.other.inside.lo = omega (arith, ints) in
    let e' : FitsSigned w128 c.other.inside.hi = omega (arith, ints) in
    let low : FitsSigned w128 (c.self.inside.lo -ℤ c.other.inside.hi) = omega (arith, ints) in
    let high : FitsSigned w128 (c.self.inside.hi -ℤ c.other.inside.lo) = omega (arith, ints) in
    simp to_z-of_z at c.word.ensures.word ∙ (λ i. word (differences (c.self.view_is i) (c.other.view_is i)))

pub returns-clause-sound : goal.returns-clause-sound
returns-clause-sound c = subst (λ (r : Option Bounds). CoversResults ◌-ℤ◌ c.args.self c.args.other r) (sym (returns-clause-exact c)) (differences-sound c.args.self c.args.other)

pub returns-clause-best : goal.returns-clause-best
returns-clause-best c =
    let p : c.args.self.lo ≤ℤ c.args.self.hi = subst (λ (b : Bounds). b.lo ≤ℤ b.hi) c.self.view_is c.self.invariant in
    let q : c.args.other.lo ≤ℤ c.args.other.hi = subst (λ (b : Bounds). b.lo ≤ℤ b.hi) c.other.view_is c.other.invariant in
    subst (λ (r : Option Bounds). IsAllTaken ◌-ℤ◌ c.args.self c.args.other r) (sym (returns-clause-exact c)) (differences-best c.args.self c.args.other p q)

pub returns-clause-range : goal.returns-clause-range
returns-clause-range c = subst (λ (r : Option Bounds). IfSome r IsRange) (sym (returns-clause-exact c)) (word-range (differences c.args.self c.args.other))

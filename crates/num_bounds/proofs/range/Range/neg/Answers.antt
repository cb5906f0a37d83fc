use Rattle.std.proofs.Common.{rules, Option, IfSome, sym, subst, arith, FitsSigned, ◌∙◌, pos, ◌-ℤ◌}
use Rattle.std.proofs.lemmas.Int.{ints, to_z-of_z}
use Rattle.std.specs.Int.{w64, w128}
use Rattle.num_bounds.specs.Bounds.{Bounds, IsRange}
use Rattle.num_bounds.specs.Operations.{negations, word}
use Rattle.num_bounds.proofs.Ends.{word-is, word-range}
use Rattle.num_bounds.proofs.Sums.{negations-sound, negations-best}
use Rattle.num_bounds.specs.Meaning.{CoversNegations, IsAllNegated}
use Rattle.num_bounds.proofs.range.Range.neg.Goals as goal

pub returns-clause-exact : goal.returns-clause-exact
returns-clause-exact c =
    let a : FitsSigned w64 c.self.inside.lo = search rules in
    let b : FitsSigned w64 c.self.inside.hi = search rules in
    let a' : FitsSigned w128 c.self.inside.lo = omega (arith, ints) in
    let b' : FitsSigned w128 c.self.inside.hi = omega (arith, ints) in
    let low : FitsSigned w128 (pos 0 -ℤ c.self.inside.hi) = omega (arith, ints) in
    let high : FitsSigned w128 (pos 0 -ℤ c.self.inside.lo) = omega (arith, ints) in
    word-is _ (pos 0 -ℤ c.self.inside.hi) (pos 0 -ℤ c.self.inside.lo) (negations (record { lo = c.self.inside.lo; hi = c.self.inside.hi })) (simp to_z-of_z at c.word.ensures.word) (omega (arith, ints)) (omega (arith, ints)) ∙ (λ i. word (negations (c.self.view_is i)))

pub returns-clause-sound : goal.returns-clause-sound
returns-clause-sound c = subst (λ (r : Option Bounds). CoversNegations c.args.self r) (sym (returns-clause-exact c)) (negations-sound c.args.self)

pub returns-clause-best : goal.returns-clause-best
returns-clause-best c = subst (λ (r : Option Bounds). IsAllNegated c.args.self r) (sym (returns-clause-exact c)) (negations-best c.args.self)

pub returns-clause-range : goal.returns-clause-range
returns-clause-range c = subst (λ (r : Option Bounds). IfSome r IsRange) (sym (returns-clause-exact c)) (word-range (negations c.args.self))

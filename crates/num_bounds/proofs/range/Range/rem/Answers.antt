use Rattle.std.proofs.Common.{rules, ◌≡◌, arith, FitsSigned, Option, sym, subst, ◌∙◌}
use Rattle.std.specs.Int.{w64}
use Rattle.std.proofs.lemmas.Int.{ints, to_z-of_z}
use Rattle.num_bounds.specs.Bounds.{Bounds}
use Rattle.num_bounds.specs.Meaning.{CoversRemainders}
use Rattle.num_bounds.specs.Operations.{remainder_limit, least_remainder, greatest_remainder}
use Rattle.num_bounds.proofs.Remainders.{remainders-sound, remainders-by, remainders-none}
use Rattle.num_bounds.proofs.range.Range.rem.Goals as goal

pub returns-then-divisor-eq0-clause-exact : goal.returns-then-divisor-eq0-clause-exact
returns-then-divisor-eq0-clause-exact c = remainders-none c.args.self c.args.other (sym c.magnitude-divisor.ensures.exact ∙ c.if-divisor-eq0.true)

pub returns-then-divisor-eq0-clause-sound : goal.returns-then-divisor-eq0-clause-sound
returns-then-divisor-eq0-clause-sound c = subst (λ (r : Option Bounds). CoversRemainders c.args.self c.args.other r) (sym (returns-then-divisor-eq0-clause-exact c)) (remainders-sound c.args.self c.args.other)

pub returns-clause-exact : goal.returns-clause-exact
returns-clause-exact c =
    let a : FitsSigned w64 c.self.inside.lo = search rules in
    let b : FitsSigned w64 c.self.inside.hi = search rules in
    let l : FitsSigned w64 c.least_remainder.result = search rules in
    let h : FitsSigned w64 c.greatest_remainder.result = search rules in
    let low = simp to_z-of_z at c.least_remainder.ensures.exact in
    let high = simp to_z-of_z at c.greatest_remainder.ensures.exact in
    let limit : c.min-limit.result ≡ remainder_limit c.args.self c.args.other = omega (arith, c.min-limit.ensures, c.magnitude.ensures.exact, c.magnitude-divisor.ensures.exact) in
    simp to_z-of_z
    (remainders-by c.args.self c.args.other c.least_remainder.result c.greatest_remainder.result
    (λ z. c.if-divisor-eq0.false (c.magnitude-divisor.ensures.exact ∙ z))
    (low ∙ (λ i. least_remainder (c.self.view_is i).lo (limit i)))
    (high ∙ (λ i. greatest_remainder (c.self.view_is i).hi (limit i))))

pub returns-clause-sound : goal.returns-clause-sound
returns-clause-sound c = subst (λ (r : Option Bounds). CoversRemainders c.args.self c.args.other r) (sym (returns-clause-exact c)) (remainders-sound c.args.self c.args.other)

pub returns-clause-range : goal.returns-clause-range
returns-clause-range c =
    let low = c.least_remainder.ensures.side in
    let high = c.greatest_remainder.ensures.side in
    record { low = omega (arith, ints); ordered = omega (arith, ints); high = omega (arith, ints) }

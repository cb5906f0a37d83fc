use Rattle.std.proofs.Common.{sym, subst, ◌∙◌, Option, IfSome}
use Rattle.num_bounds.specs.Bounds.{Bounds, IsRange}
use Rattle.num_bounds.specs.Meaning.{CoversQuotients}
use Rattle.num_bounds.specs.Operations.{quotients, word_if, either_hull, part_quotients}
use Rattle.num_bounds.proofs.Quotients.{quotients-sound, quotients-range}
use Rattle.num_bounds.proofs.range.Range.quot.Goals as goal

pub returns-clause-exact : goal.returns-clause-exact
returns-clause-exact c =
    c.word_if.ensures.exact
    ∙ (λ i. word_if (c.either_hull.ensures.exact i))
    ∙ (λ i. word_if (either_hull (c.part_quotients-below.ensures.exact i) (c.part_quotients-above.ensures.exact i)))
    ∙ (λ i. word_if (either_hull (part_quotients c.args.self (c.below_zero.ensures.exact i)) (part_quotients c.args.self (c.above_zero.ensures.exact i))))

pub returns-clause-sound : goal.returns-clause-sound
returns-clause-sound c = subst (λ (r : Option Bounds). CoversQuotients c.args.self c.args.other r) (sym (returns-clause-exact c)) (quotients-sound c.args.self c.args.other)

pub returns-clause-range : goal.returns-clause-range
returns-clause-range c = subst (λ (r : Option Bounds). IfSome r IsRange) (sym (returns-clause-exact c)) (quotients-range (quotients c.args.self c.args.other))

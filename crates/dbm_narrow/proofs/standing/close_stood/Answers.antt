use Rattle.std.specs.Prelude.{◌≡◌, ◌*◌, ◌^◌, Some}
use Rattle.std.proofs.Common.{◌∙◌, subst, sym}
use Rattle.std.proofs.lemmas.Int.{to_z-of_z}
use mir.Syntax.{w128}
use Rattle.dbm_core.specs.Limits.{IsWithin}
use Rattle.dbm_narrow.proofs.GrowthLemmas.{small-checked}
use Rattle.dbm_narrow.specs.Standing.{IsEquatedOutcome}
use Rattle.dbm_narrow.proofs.standing.close_stood.Goals as goal

pub close_small-requires-clause-low : goal.close_small-requires-clause-low
close_small-requires-clause-low gen c =
    c.in-Some.ensures.small.1.0

pub close_small-requires-clause-high : goal.close_small-requires-clause-high
close_small-requires-clause-high gen c =
    c.in-Some.ensures.small.1.1

pub returns-in-Some : goal.returns-in-Some
returns-in-Some gen c =
    let s : c.in-Some.small ≡ c.args.c = c.in-Some.ensures.small.0 ∙ to_z-of_z w128 c.args.c c.ranges.c in
    record { outcome = subst (λ x. IsEquatedOutcome gen.W.Width.unit c.args.kinds.now c.args.entries.now c.close_small.new.entries c.args.q c.args.y x c.close_small.result) s c.close_small.ensures.outcome; total = c.close_small.ensures.total }

pub close_small-requires-clause-small : goal.close_small-requires-clause-small
close_small-requires-clause-small gen c = λ e.
    let s : c.in-Some.small ≡ c.args.c = c.in-Some.ensures.small.0 ∙ to_z-of_z w128 c.args.c c.ranges.c in
    subst (λ x. IsWithin (2 ^ 70) (Some x)) (sym s) c.requires.small

pub returns-in-None : goal.returns-in-None
returns-in-None gen c = record {
  outcome = tt;
  total = small-checked gen.W.Width.unit gen.W.Width.positive gen.W.Width.checked gen.W.Width.roomy c.args.c c.requires.small
      (subst (λ x. IsWithin (2 * gen.W.Width.unit) (Some x) → ⊥) (to_z-of_z w128 c.args.c c.ranges.c) c.in-None.ensures.small);
}

use Rattle.std.specs.Prelude.{◌≡◌, ◌*◌, ◌^◌, Some}
use Rattle.std.proofs.Common.{◌∙◌, subst, sym}
use Rattle.std.proofs.lemmas.Bool.{false≢true}
use Rattle.std.proofs.lemmas.Int.{to_z-of_z}
use mir.Syntax.{w128}
use Rattle.dbm_core.specs.Limits.{IsWithin}
use Rattle.dbm_narrow.proofs.GrowthLemmas.{small-checked}
use Rattle.dbm_narrow.specs.Standing.{StandsTo}
use Rattle.dbm_narrow.proofs.standing.stand_by.Goals as goal

pub stand-requires-clause-low : goal.stand-requires-clause-low
stand-requires-clause-low gen c =
    c.in-Some.ensures.small.1.0

pub stand-requires-clause-high : goal.stand-requires-clause-high
stand-requires-clause-high gen c =
    c.in-Some.ensures.small.1.1

pub returns-in-Some : goal.returns-in-Some
returns-in-Some gen c =
    let s : c.in-Some.small ≡ c.args.c = c.in-Some.ensures.small.0 ∙ to_z-of_z w128 c.args.c c.ranges.c in
    record { stands = λ e. subst (StandsTo gen.W.Width.unit c.args.kinds.now c.args.entries.now c.stand.new.entries c.args.q c.args.y) s (c.stand.ensures.stands e); total = c.stand.ensures.total }

pub stand-requires-clause-small : goal.stand-requires-clause-small
stand-requires-clause-small gen c = λ e.
    let s : c.in-Some.small ≡ c.args.c = c.in-Some.ensures.small.0 ∙ to_z-of_z w128 c.args.c c.ranges.c in
    subst (λ x. IsWithin (2 ^ 70) (Some x)) (sym s) c.requires.small

pub returns-in-None : goal.returns-in-None
returns-in-None gen c = record {
  stands = λ e. absurd (false≢true e);
  total = λ _. small-checked gen.W.Width.unit gen.W.Width.positive gen.W.Width.checked gen.W.Width.roomy c.args.c c.requires.small
      (subst (λ x. IsWithin (2 * gen.W.Width.unit) (Some x) → ⊥) (to_z-of_z w128 c.args.c c.ranges.c) c.in-None.ensures.small);
}

use Rattle.std.specs.Prelude.{◌*◌, ◌≡◌, ◌<◌, ◌≤◌, List, Option, ℤ, None, [], ◌∷◌, ◌++◌, ◌+◌}
use Rattle.std.proofs.Common.{refl, sym, ◌∙◌, ap, subst, length, get_or}
use Rattle.dbm_core.specs.Limits.{IsWithin}
use Rattle.dbm_narrow.proofs.ConvertLemmas.{AreNarrowed, narrowed-narrow, narrowed-next, narrowed-outside, narrowed-same}
use Rattle.dbm_narrow.proofs.convert.narrowed.Goals as goal

pub loop-bound-preserved : goal.loop-bound-preserved
loop-bound-preserved gen c =
    let e : c.push.new.self.items ≡ c.loop-bound.entries.items ++ (c.in-Some.entry ∷ []) =
    c.in_ok-push-in-Some.ensures.items ∙ ap (λ x. c.loop-bound.entries.items ++ (x ∷ [])) (refl) in
    subst (AreNarrowed gen.W.Width.unit gen.W.Width.positive c.kept-kept.result.now (c.loop-bound.bound-index + 1)) (sym e)
    (narrowed-next gen.W.Width.unit gen.W.Width.positive c.kept-kept.result.now c.loop-bound.bound-index c.loop-bound.entries.items c.in-Some.entry c.loop-bound-test.true c.loop-bound.invariant c.in-Some.ensures.entry)

pub returns-in-None : goal.returns-in-None
returns-in-None gen c =
    let e : c.kept-kept.result.now ≡ c.args.matrix.now.kept = c.kept-kept.ensures.value in
    record {
      same = narrowed-outside gen.W.Width.unit gen.W.Width.positive c.args.matrix.now c.loop-bound.bound-index c.kept-kept.ensures.matrix (subst (λ (v : List (Option ℤ)). c.loop-bound.bound-index < length v) e c.loop-bound-test.true)
          (subst (λ (v : List (Option ℤ)). IsWithin (2 * gen.W.Width.unit) (get_or v c.loop-bound.bound-index None) → ⊥) e c.in-None.ensures.entry);
    }

pub invariant_of-result : goal.invariant_of-result
invariant_of-result gen c =
    let e : c.kept-kept.result.now ≡ c.args.matrix.now.kept = c.kept-kept.ensures.value in
    narrowed-narrow gen.W.Width.unit gen.W.Width.positive c.args.matrix.now c.loop-bound.bound-index c.in_ok-kinds.kinds c.loop-bound.entries.items c.kept-kept.ensures.matrix (subst (λ (v : List (Option ℤ)). length v ≤ c.loop-bound.bound-index) e c.loop-bound-test.false) (c.in_ok-kinds.ensures.items ∙ c.kinds.ensures.value)
    (subst (λ (v : List (Option ℤ)). AreNarrowed gen.W.Width.unit gen.W.Width.positive v c.loop-bound.bound-index c.loop-bound.entries.items) e c.loop-bound.invariant)

pub returns : goal.returns
returns gen c =
    let e : c.kept-kept.result.now ≡ c.args.matrix.now.kept = c.kept-kept.ensures.value in
    record {
      same = narrowed-same gen.W.Width.unit gen.W.Width.positive c.args.matrix.now c.loop-bound.bound-index c.in_ok-kinds.kinds c.loop-bound.entries.items (subst (λ (v : List (Option ℤ)). length v ≤ c.loop-bound.bound-index) e c.loop-bound-test.false) (c.in_ok-kinds.ensures.items ∙ c.kinds.ensures.value)
          (subst (λ (v : List (Option ℤ)). AreNarrowed gen.W.Width.unit gen.W.Width.positive v c.loop-bound.bound-index c.loop-bound.entries.items) e c.loop-bound.invariant);
    }

use Rattle.std.specs.Prelude.{◌≡◌, ◌<◌, ◌^◌, ℕ, pos, neg_ℤ, negsuc, Some, None}
use Rattle.std.proofs.Common.{arith, ap, subst, length, get_or, ◌∙◌}
use Rattle.dbm_core.proofs.SameLemmas.{place-entry, places-hold}
use Rattle.dbm_core.specs.Half.{entry, nodes}
use Rattle.dbm_core.specs.Weights.{AtMost}
use Rattle.dbm_close.proofs.steps.has_low_entry.Goals as goal

pub returns-then-is_low_bound : goal.returns-then-is_low_bound
returns-then-is_low_bound c =
    let q : (i j : ℕ) × ((i < nodes c.args.m.now) × (j < nodes c.args.m.now) × (get_or c.args.m.now.kept c.loop-bound.bound-index None ≡ entry c.args.m.now i j)) =
    place-entry c.args.m.now c.kept-kept.ensures.matrix c.loop-bound.bound-index (omega (arith, c.loop-bound-test.true, ap length c.kept-kept.ensures.value)) in
    record {
      low = (q.0, q.1, (q.2.0, q.2.1, subst (λ x. AtMost x (Some (negsuc (2 ^ 64)))) (ap (λ v. get_or v c.loop-bound.bound-index None) c.kept-kept.ensures.value ∙ q.2.2) c.if-is_low_bound.ensures.low));
    }

pub returns : goal.returns
returns c = record {
  low = places-hold (λ x. AtMost (Some (neg_ℤ (pos (2 ^ 64)))) x) c.args.m.now c.kept-kept.ensures.matrix (λ p l.
      subst (λ v. AtMost (Some (neg_ℤ (pos (2 ^ 64)))) (get_or v p None)) c.kept-kept.ensures.value (c.loop-bound.invariant p (omega (arith, c.loop-bound-test.false, ap length c.kept-kept.ensures.value))));
}

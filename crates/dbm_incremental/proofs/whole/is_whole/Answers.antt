use Rattle.std.specs.Prelude.{◌≡◌, ◌<◌, ℕ}
use Rattle.std.proofs.Common.{arith, ap, subst, length, None, get_or, ◌∙◌}
use Rattle.dbm_core.proofs.SameLemmas.{place-entry, places-hold}
use Rattle.dbm_core.specs.Half.{entry, nodes}
use Rattle.dbm_incremental.specs.Far.{IsBelowHalf, IsFar}
use Rattle.dbm_incremental.proofs.BlockLemmas.{small-whole}
use Rattle.dbm_incremental.proofs.whole.is_whole.Goals as goal

pub returns-clause-near : goal.returns-clause-near
returns-clause-near c = places-hold IsBelowHalf c.args.m.now c.kept-kept.ensures.matrix (λ p l.
    subst (λ v. IsBelowHalf (get_or v p None)) c.kept-kept.ensures.value (c.loop-bound.invariant p (omega (arith, c.loop-bound-test.false, ap length c.kept-kept.ensures.value))))

pub returns-clause-whole : goal.returns-clause-whole
returns-clause-whole c = λ e p. small-whole c.args.m.now p (places-hold IsBelowHalf c.args.m.now c.kept-kept.ensures.matrix (λ p l.
    subst (λ v. IsBelowHalf (get_or v p None)) c.kept-kept.ensures.value (c.loop-bound.invariant p (omega (arith, c.loop-bound-test.false, ap length c.kept-kept.ensures.value)))))

pub returns-then-is_far-clause-near : goal.returns-then-is_far-clause-near
returns-then-is_far-clause-near c =
    let q : (i j : ℕ) × ((i < nodes c.args.m.now) × (j < nodes c.args.m.now) × (get_or c.args.m.now.kept c.loop-bound.bound-index None ≡ entry c.args.m.now i j)) =
    place-entry c.args.m.now c.kept-kept.ensures.matrix c.loop-bound.bound-index (omega (arith, c.loop-bound-test.true, ap length c.kept-kept.ensures.value)) in
    (q.0, q.1, (q.2.0, q.2.1, subst IsFar (ap (λ v. get_or v c.loop-bound.bound-index None) c.kept-kept.ensures.value ∙ q.2.2) c.if-is_far.ensures.far))

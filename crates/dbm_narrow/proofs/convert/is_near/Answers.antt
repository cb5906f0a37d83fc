use Rattle.std.specs.Prelude.{List, ℤ, length}
use Rattle.std.proofs.Common.{arith, ap, subst, ◌∙◌}
use Rattle.dbm_core.specs.Half.{HalfMatrix, entry, nodes}
use Rattle.dbm_incremental.proofs.BlockLemmas.{small-whole}
use Rattle.dbm_incremental.specs.Far.{HasFarEntry, HasNoFarEntry, IsBelowHalf, IsFar}
use Rattle.dbm_narrow.proofs.ConvertLemmas.{far-matrix, near-matrix}
use Rattle.dbm_narrow.specs.Entries.{at, wide}
use Rattle.dbm_narrow.proofs.convert.is_near.Goals as goal

pub returns-clause-near : goal.returns-clause-near
returns-clause-near gen c = subst (λ (m : HalfMatrix). HasNoFarEntry (nodes m) (entry m)) c.matrix.view_is
    (near-matrix gen.W.Width.unit gen.W.Width.positive c.matrix.inside.kinds c.matrix.inside.entries.items c.matrix.invariant.matrix (λ p l.
    subst (λ (xs : List ℤ). IsBelowHalf (wide gen.W.Width.unit (at gen.W.Width.unit xs p))) c.as_slice-entries.ensures.value
    (c.loop-k.invariant p (omega (arith, c.loop-k-test.false, ap length c.as_slice-entries.ensures.value)))))

pub returns-clause-whole : goal.returns-clause-whole
returns-clause-whole gen c = λ e p. small-whole c.args.matrix.now p (returns-clause-near gen c)

pub returns-then-is_far-clause-near : goal.returns-then-is_far-clause-near
returns-then-is_far-clause-near gen c = subst (λ (m : HalfMatrix). HasFarEntry (nodes m) (entry m)) c.matrix.view_is
    (far-matrix gen.W.Width.unit gen.W.Width.positive c.matrix.inside.kinds c.matrix.inside.entries.items c.matrix.invariant.matrix c.loop-k.k (omega (arith, c.loop-k-test.true, ap length c.as_slice-entries.ensures.value))
    (subst (λ (xs : List ℤ). IsFar (wide gen.W.Width.unit (at gen.W.Width.unit xs c.loop-k.k))) c.as_slice-entries.ensures.value
    (subst IsFar (c.wide_bound.ensures.bound ∙ ap (wide gen.W.Width.unit) c.read.ensures.value) c.if-is_far.ensures.far)))

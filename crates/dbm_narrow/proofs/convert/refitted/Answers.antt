use Rattle.std.specs.Prelude.{◌≡◌, ◌+◌, ◌*◌, Option, List, ℤ, length, map}
use Rattle.std.proofs.Common.{arith, ap, sym, subst, ◌∙◌}
use Rattle.dbm_core.specs.Half.{HalfMatrix, entry, nodes}
use Rattle.dbm_core.specs.Limits.{AreWithin, IsWithin}
use Rattle.dbm_narrow.proofs.ConvertLemmas.{AreNarrowed, refitted-narrow, refitted-next, refitted-outside, refitted-same}
use Rattle.dbm_narrow.specs.Entries.{IsEntry, at, wide}
use Rattle.dbm_narrow.proofs.convert.refitted.Goals as goal

pub returns-then-not-fits : goal.returns-then-not-fits
returns-then-not-fits gen c = record {
  same = subst (λ (m : HalfMatrix). AreWithin (nodes m) (2 * gen.W.Width.unit) (entry m) → ⊥) c.matrix.view_is
      (refitted-outside gen.W.Width.unit gen.W.Width.positive gen.V.Width.unit gen.V.Width.positive c.matrix.inside.kinds c.matrix.inside.entries.items c.matrix.invariant c.loop-k.k (omega (arith, c.loop-k-test.true, ap length c.as_slice-from.ensures.value))
      (subst (λ (xs : List ℤ). IsWithin (2 * gen.W.Width.unit) (wide gen.V.Width.unit (at gen.V.Width.unit xs c.loop-k.k)) → ⊥) c.as_slice-from.ensures.value
      (subst (λ (o : Option ℤ). IsWithin (2 * gen.W.Width.unit) o → ⊥) (c.wide_bound.ensures.bound ∙ ap (wide gen.V.Width.unit) c.read.ensures.value) c.if-not-fits.ensures.within)));
}

pub loop-k-2-preserved : goal.loop-k-2-preserved
loop-k-2-preserved gen c =
    let b : c.wide_bound-in-loop-k-2.result ≡ wide gen.V.Width.unit (at gen.V.Width.unit c.as_slice-from.result.now c.loop-k-2.k) =
    c.wide_bound-in-loop-k-2.ensures.bound ∙ ap (wide gen.V.Width.unit) c.read-in-loop-k-2.ensures.value in
    let q : (wide gen.W.Width.unit c.entry_of.result ≡ wide gen.V.Width.unit (at gen.V.Width.unit c.as_slice-from.result.now c.loop-k-2.k)) × IsEntry gen.W.Width.unit (2 * gen.W.Width.unit) c.entry_of.result =
    (c.entry_of.ensures.entry.0 ∙ b, c.entry_of.ensures.entry.1) in
    subst (AreNarrowed gen.W.Width.unit gen.W.Width.positive (map (wide gen.V.Width.unit) c.as_slice-from.result.now) (c.loop-k-2.k + 1)) (sym c.in_ok-push.ensures.items)
    (refitted-next gen.W.Width.unit gen.W.Width.positive gen.V.Width.unit gen.V.Width.positive c.matrix.inside.kinds c.as_slice-from.result.now c.loop-k-2.k c.loop-k-2.entries.items c.entry_of.result (omega (arith, c.loop-k-2-test.true)) c.loop-k-2.invariant q)

pub invariant_of-result : goal.invariant_of-result
invariant_of-result gen c =
    refitted-narrow gen.W.Width.unit gen.W.Width.positive gen.V.Width.unit gen.V.Width.positive c.matrix.inside.kinds c.matrix.inside.entries.items c.matrix.invariant c.loop-k-2.k c.in_ok-kinds.kinds c.loop-k-2.entries.items
    (omega (arith, c.loop-k-2-test.false, ap length c.as_slice-from.ensures.value)) c.in_ok-kinds.ensures.items
    (subst (λ (xs : List ℤ). AreNarrowed gen.W.Width.unit gen.W.Width.positive (map (wide gen.V.Width.unit) xs) c.loop-k-2.k c.loop-k-2.entries.items) c.as_slice-from.ensures.value c.loop-k-2.invariant)

pub returns : goal.returns
returns gen c = record {
  same = refitted-same gen.W.Width.unit gen.W.Width.positive gen.V.Width.unit gen.V.Width.positive c.matrix.inside.kinds c.matrix.inside.entries.items c.loop-k-2.k c.in_ok-kinds.kinds c.loop-k-2.entries.items
      (omega (arith, c.loop-k-2-test.false, ap length c.as_slice-from.ensures.value)) c.in_ok-kinds.ensures.items
      (subst (λ (xs : List ℤ). AreNarrowed gen.W.Width.unit gen.W.Width.positive (map (wide gen.V.Width.unit) xs) c.loop-k-2.k c.loop-k-2.entries.items) c.as_slice-from.ensures.value c.loop-k-2.invariant)
      ∙ c.matrix.view_is;
}

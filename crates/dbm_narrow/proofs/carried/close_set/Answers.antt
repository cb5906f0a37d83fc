use Rattle.std.specs.Prelude.{◌≡◌, List, Bool, ℤ}
use Rattle.std.proofs.Common.{sym, ◌∙◌, ap, subst}
use Rattle.std.specs.Vec.{with_items}
use Rattle.std.proofs.lemmas.List.{with_items_is}
use Rattle.dbm_close.specs.CloseOf.{close_of}
use Rattle.dbm_close.specs.declared.closed.Closed.TheVariants.{Matrix}
use Rattle.dbm_core.specs.Half.{HalfMatrix, entry, nodes}
use Rattle.dbm_incremental.specs.ClosedMatrices.{IsStrong}
use Rattle.dbm_narrow.specs.Entries.{held}
use Rattle.dbm_narrow.specs.Rounds.{IsNarrow}
use Rattle.dbm_narrow.proofs.carried.close_set.Goals as goal

pub close_strong-requires-clause-narrow : goal.close_strong-requires-clause-narrow
close_strong-requires-clause-narrow gen c =
    subst (λ (k : List Bool). IsNarrow gen.W.Width.unit k c.as_mut_slice.result.now) (sym c.list.ensures.value) (subst (λ (x : List ℤ). IsNarrow gen.W.Width.unit c.set.inside.kinds x) (sym c.as_mut_slice.ensures.value) c.set.invariant)

pub close_strong-requires-clause-strong : goal.close_strong-requires-clause-strong
close_strong-requires-clause-strong gen c =
    let e : held gen.W.Width.unit c.list.result.now c.as_mut_slice.result.now ≡ c.args.set = ap (λ k. held gen.W.Width.unit k c.as_mut_slice.result.now) c.list.ensures.value ∙ ap (held gen.W.Width.unit c.set.inside.kinds) c.as_mut_slice.ensures.value ∙ c.set.view_is in
    subst (λ (m : HalfMatrix). IsStrong (nodes m) (entry m)) (sym e) c.requires.strong

pub returns-in-Closed : goal.returns-in-Closed
returns-in-Closed gen c =
    let e : held gen.W.Width.unit c.list.result.now c.as_mut_slice.result.now ≡ c.args.set = ap (λ k. held gen.W.Width.unit k c.as_mut_slice.result.now) c.list.ensures.value ∙ ap (held gen.W.Width.unit c.set.inside.kinds) c.as_mut_slice.ensures.value ∙ c.set.view_is in
    let w : (with_items c.set.inside.entries c.close_strong.new.entries).items ≡ c.close_strong.new.entries = with_items_is c.set.inside.entries c.close_strong.new.entries (c.close_strong.auto.entries ∙ c.as_mut_slice.ensures.len) in
    record {
      closing = ap close_of (sym e) ∙ c.in-Closed.ensures.outcome.0 ∙ ap (λ (k : List Bool). Matrix (held gen.W.Width.unit k c.close_strong.new.entries)) c.list.ensures.value ∙ ap (λ (x : List ℤ). Matrix (held gen.W.Width.unit c.set.inside.kinds x)) (sym w);
      total = tt;
    }

pub returns-in-Empty : goal.returns-in-Empty
returns-in-Empty gen c =
    let e : held gen.W.Width.unit c.list.result.now c.as_mut_slice.result.now ≡ c.args.set = ap (λ k. held gen.W.Width.unit k c.as_mut_slice.result.now) c.list.ensures.value ∙ ap (held gen.W.Width.unit c.set.inside.kinds) c.as_mut_slice.ensures.value ∙ c.set.view_is in
    record { closing = ap close_of (sym e) ∙ c.in-Empty.ensures.outcome; total = tt }

pub invariant_of-result : goal.invariant_of-result
invariant_of-result gen c =
    let w : (with_items c.set.inside.entries c.close_strong.new.entries).items ≡ c.close_strong.new.entries = with_items_is c.set.inside.entries c.close_strong.new.entries (c.close_strong.auto.entries ∙ c.as_mut_slice.ensures.len) in
    subst (λ (k : List Bool). IsNarrow gen.W.Width.unit k (with_items c.set.inside.entries c.close_strong.new.entries).items) c.list.ensures.value (subst (λ (x : List ℤ). IsNarrow gen.W.Width.unit c.list.result.now x) (sym w) c.in-Closed.ensures.outcome.1)

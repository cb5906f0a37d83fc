use Rattle.std.specs.Prelude.{◌≡◌, ◌^◌, List, Bool, ℤ}
use Rattle.std.proofs.Common.{sym, ◌∙◌, ap, subst}
use Rattle.std.specs.Vec.{with_items}
use Rattle.std.proofs.lemmas.List.{with_items_is}
use Rattle.dbm_close.specs.declared.closed.Closed.TheVariants.{Empty, Matrix}
use Rattle.dbm_core.specs.Half.{HalfMatrix, nodes}
use Rattle.dbm_incremental.specs.ClosedMatrices.{IsClosed, IsWhole}
use Rattle.dbm_incremental.specs.Steps.{AreBounds, ClosesAllLowered}
use Rattle.dbm_narrow.proofs.GrowthLemmas.{closed-entries}
use Rattle.dbm_narrow.proofs.LowerLemmas.{closed-own}
use Rattle.dbm_narrow.specs.Entries.{AreEntries, held}
use Rattle.dbm_narrow.specs.Rounds.{IsNarrow}
use Rattle.dbm_narrow.proofs.closed.close_after_bounds.Goals as goal

pub close_lowered-requires-clause-narrow : goal.close_lowered-requires-clause-narrow
close_lowered-requires-clause-narrow gen c =
    let k : c.list.result.now ≡ c.closed.inside.kinds = c.list.ensures.value ∙ c.in_ok-kinds.ensures.items in
    let x : c.as_mut_slice.result.now ≡ c.closed.inside.entries.items = c.as_mut_slice.ensures.value ∙ c.in_ok-entries.ensures.items ∙ c.as_slice.ensures.value in
    subst (λ (k : List Bool). IsNarrow gen.W.Width.unit k c.as_mut_slice.result.now) (sym k) (subst (λ (x : List ℤ). IsNarrow gen.W.Width.unit c.closed.inside.kinds x) (sym x) c.closed.invariant)

pub close_lowered-requires-clause-weights : goal.close_lowered-requires-clause-weights
close_lowered-requires-clause-weights gen c =
    let k : c.list.result.now ≡ c.closed.inside.kinds = c.list.ensures.value ∙ c.in_ok-kinds.ensures.items in
    let x : c.as_mut_slice.result.now ≡ c.closed.inside.entries.items = c.as_mut_slice.ensures.value ∙ c.in_ok-entries.ensures.items ∙ c.as_slice.ensures.value in
    let e : held gen.W.Width.unit c.list.result.now c.as_mut_slice.result.now ≡ c.args.closed.now = ap (λ k. held gen.W.Width.unit k c.as_mut_slice.result.now) k ∙ ap (held gen.W.Width.unit c.closed.inside.kinds) x ∙ c.closed.view_is in
    closed-own gen.W.Width.unit gen.W.Width.positive c.list.result.now c.as_mut_slice.result.now (subst IsClosed (sym e) c.requires.closed) (subst IsWhole (sym e) c.requires.whole)

pub close_lowered-requires-clause-bounds : goal.close_lowered-requires-clause-bounds
close_lowered-requires-clause-bounds gen c =
    let k : c.list.result.now ≡ c.closed.inside.kinds = c.list.ensures.value ∙ c.in_ok-kinds.ensures.items in
    let x : c.as_mut_slice.result.now ≡ c.closed.inside.entries.items = c.as_mut_slice.ensures.value ∙ c.in_ok-entries.ensures.items ∙ c.as_slice.ensures.value in
    let e : held gen.W.Width.unit c.list.result.now c.as_mut_slice.result.now ≡ c.args.closed.now = ap (λ k. held gen.W.Width.unit k c.as_mut_slice.result.now) k ∙ ap (held gen.W.Width.unit c.closed.inside.kinds) x ∙ c.closed.view_is in
    subst (λ (m : HalfMatrix). AreBounds (nodes m) c.args.bounds.now) (sym e) c.requires.bounds

pub close_lowered-requires-clause-within : goal.close_lowered-requires-clause-within
close_lowered-requires-clause-within gen c =
    let x : c.as_mut_slice.result.now ≡ c.closed.inside.entries.items = c.as_mut_slice.ensures.value ∙ c.in_ok-entries.ensures.items ∙ c.as_slice.ensures.value in
    subst (AreEntries gen.W.Width.unit (2 ^ 64)) (sym x) (closed-entries gen.W.Width.unit gen.W.Width.positive c.closed.inside.kinds c.closed.inside.entries.items c.closed.invariant (subst IsClosed (sym c.closed.view_is) c.requires.closed))

pub returns-in-Closed : goal.returns-in-Closed
returns-in-Closed gen c =
    let k : c.list.result.now ≡ c.closed.inside.kinds = c.list.ensures.value ∙ c.in_ok-kinds.ensures.items in
    let x : c.as_mut_slice.result.now ≡ c.closed.inside.entries.items = c.as_mut_slice.ensures.value ∙ c.in_ok-entries.ensures.items ∙ c.as_slice.ensures.value in
    let e : held gen.W.Width.unit c.list.result.now c.as_mut_slice.result.now ≡ c.args.closed.now = ap (λ k. held gen.W.Width.unit k c.as_mut_slice.result.now) k ∙ ap (held gen.W.Width.unit c.closed.inside.kinds) x ∙ c.closed.view_is in
    let w : (with_items c.in_ok-entries.entries c.close_lowered.new.entries).items ≡ c.close_lowered.new.entries = with_items_is c.in_ok-entries.entries c.close_lowered.new.entries (c.close_lowered.auto.entries ∙ c.as_mut_slice.ensures.len) in
    let r : held gen.W.Width.unit c.list.result.now c.close_lowered.new.entries ≡ held gen.W.Width.unit c.in_ok-kinds.kinds (with_items c.in_ok-entries.entries c.close_lowered.new.entries).items = ap (λ (k : List Bool). held gen.W.Width.unit k c.close_lowered.new.entries) c.list.ensures.value ∙ ap (held gen.W.Width.unit c.in_ok-kinds.kinds) (sym w) in
    record {
      closing = (
        subst (λ (m : HalfMatrix). ClosesAllLowered m c.args.bounds.now (Matrix (held gen.W.Width.unit c.in_ok-kinds.kinds (with_items c.in_ok-entries.entries c.close_lowered.new.entries).items))) e
            (subst (λ (n : HalfMatrix). ClosesAllLowered (held gen.W.Width.unit c.list.result.now c.as_mut_slice.result.now) c.args.bounds.now (Matrix n)) r c.in-Closed.ensures.outcome.closes),
        subst IsClosed r c.in-Closed.ensures.outcome.closed,
      );
      total = tt;
    }

pub returns-in-Empty : goal.returns-in-Empty
returns-in-Empty gen c =
    let k : c.list.result.now ≡ c.closed.inside.kinds = c.list.ensures.value ∙ c.in_ok-kinds.ensures.items in
    let x : c.as_mut_slice.result.now ≡ c.closed.inside.entries.items = c.as_mut_slice.ensures.value ∙ c.in_ok-entries.ensures.items ∙ c.as_slice.ensures.value in
    let e : held gen.W.Width.unit c.list.result.now c.as_mut_slice.result.now ≡ c.args.closed.now = ap (λ k. held gen.W.Width.unit k c.as_mut_slice.result.now) k ∙ ap (held gen.W.Width.unit c.closed.inside.kinds) x ∙ c.closed.view_is in
    record { closing = subst (λ (m : HalfMatrix). ClosesAllLowered m c.args.bounds.now Empty) e c.in-Empty.ensures.outcome; total = tt }

pub invariant_of-result : goal.invariant_of-result
invariant_of-result gen c =
    let w : (with_items c.in_ok-entries.entries c.close_lowered.new.entries).items ≡ c.close_lowered.new.entries = with_items_is c.in_ok-entries.entries c.close_lowered.new.entries (c.close_lowered.auto.entries ∙ c.as_mut_slice.ensures.len) in
    let r : held gen.W.Width.unit c.list.result.now c.close_lowered.new.entries ≡ held gen.W.Width.unit c.in_ok-kinds.kinds (with_items c.in_ok-entries.entries c.close_lowered.new.entries).items = ap (λ (k : List Bool). held gen.W.Width.unit k c.close_lowered.new.entries) c.list.ensures.value ∙ ap (held gen.W.Width.unit c.in_ok-kinds.kinds) (sym w) in
    subst (λ (k : List Bool). IsNarrow gen.W.Width.unit k (with_items c.in_ok-entries.entries c.close_lowered.new.entries).items) c.list.ensures.value (subst (λ (x : List ℤ). IsNarrow gen.W.Width.unit c.list.result.now x) (sym w) c.in-Closed.ensures.outcome.narrow)

use Rattle.std.specs.Prelude.{◌≡◌, List, Bool, ℤ}
use Rattle.std.proofs.Common.{sym, ◌∙◌, ap, subst}
use Rattle.std.specs.Vec.{with_items}
use Rattle.std.proofs.lemmas.List.{with_items_is}
use Rattle.dbm_close.specs.CloseOf.{close_of}
use Rattle.dbm_close.specs.declared.closed.Closed.TheVariants.{Matrix}
use Rattle.dbm_core.specs.Half.{HalfMatrix, entry, nodes}
use Rattle.dbm_core.specs.Limits.{HasZeroDiagonal}
use Rattle.dbm_incremental.specs.ClosedMatrices.{IsWhole}
use Rattle.dbm_narrow.specs.Entries.{held}
use Rattle.dbm_narrow.specs.Rounds.{IsNarrow}
use Rattle.dbm_narrow.proofs.closed.close_whole.Goals as goal

pub close_own-requires-clause-narrow : goal.close_own-requires-clause-narrow
close_own-requires-clause-narrow gen c =
    let k : c.list.result.now ≡ c.m.inside.kinds = c.list.ensures.value ∙ c.in_ok-kinds.ensures.items in
    let x : c.as_mut_slice.result.now ≡ c.m.inside.entries.items = c.as_mut_slice.ensures.value ∙ c.in_ok-entries.ensures.items ∙ c.as_slice.ensures.value in
    subst (λ (k : List Bool). IsNarrow gen.W.Width.unit k c.as_mut_slice.result.now) (sym k) (subst (λ (x : List ℤ). IsNarrow gen.W.Width.unit c.m.inside.kinds x) (sym x) c.m.invariant)

pub close_own-requires-clause-weights : goal.close_own-requires-clause-weights
close_own-requires-clause-weights gen c =
    let k : c.list.result.now ≡ c.m.inside.kinds = c.list.ensures.value ∙ c.in_ok-kinds.ensures.items in
    let x : c.as_mut_slice.result.now ≡ c.m.inside.entries.items = c.as_mut_slice.ensures.value ∙ c.in_ok-entries.ensures.items ∙ c.as_slice.ensures.value in
    let e : c.args.m.now ≡ held gen.W.Width.unit c.list.result.now c.as_mut_slice.result.now = sym c.m.view_is ∙ ap (λ k. held gen.W.Width.unit k c.m.inside.entries.items) (sym k) ∙ ap (held gen.W.Width.unit c.list.result.now) (sym x) in
    record {
      diagonal = subst (λ (m : HalfMatrix). HasZeroDiagonal (nodes m) (entry m)) e c.requires.diagonal;
      triangles = subst IsWhole e c.requires.whole;
    }

pub returns-in-Closed : goal.returns-in-Closed
returns-in-Closed gen c =
    let k : c.list.result.now ≡ c.m.inside.kinds = c.list.ensures.value ∙ c.in_ok-kinds.ensures.items in
    let x : c.as_mut_slice.result.now ≡ c.m.inside.entries.items = c.as_mut_slice.ensures.value ∙ c.in_ok-entries.ensures.items ∙ c.as_slice.ensures.value in
    let e : c.args.m.now ≡ held gen.W.Width.unit c.list.result.now c.as_mut_slice.result.now = sym c.m.view_is ∙ ap (λ k. held gen.W.Width.unit k c.m.inside.entries.items) (sym k) ∙ ap (held gen.W.Width.unit c.list.result.now) (sym x) in
    let w : (with_items c.in_ok-entries.entries c.close_own.new.entries).items ≡ c.close_own.new.entries = with_items_is c.in_ok-entries.entries c.close_own.new.entries (c.close_own.auto.entries ∙ c.as_mut_slice.ensures.len) in
    record {
      closing = ap close_of e ∙ c.in-Closed.ensures.outcome.0 ∙ ap (λ (k : List Bool). Matrix (held gen.W.Width.unit k c.close_own.new.entries)) c.list.ensures.value ∙ ap (λ (x : List ℤ). Matrix (held gen.W.Width.unit c.in_ok-kinds.kinds x)) (sym w);
      total = tt;
    }

pub returns-in-Empty : goal.returns-in-Empty
returns-in-Empty gen c =
    let k : c.list.result.now ≡ c.m.inside.kinds = c.list.ensures.value ∙ c.in_ok-kinds.ensures.items in
    let x : c.as_mut_slice.result.now ≡ c.m.inside.entries.items = c.as_mut_slice.ensures.value ∙ c.in_ok-entries.ensures.items ∙ c.as_slice.ensures.value in
    let e : c.args.m.now ≡ held gen.W.Width.unit c.list.result.now c.as_mut_slice.result.now = sym c.m.view_is ∙ ap (λ k. held gen.W.Width.unit k c.m.inside.entries.items) (sym k) ∙ ap (held gen.W.Width.unit c.list.result.now) (sym x) in
    record { closing = ap close_of e ∙ c.in-Empty.ensures.outcome; total = tt }

pub invariant_of-result : goal.invariant_of-result
invariant_of-result gen c =
    let w : (with_items c.in_ok-entries.entries c.close_own.new.entries).items ≡ c.close_own.new.entries = with_items_is c.in_ok-entries.entries c.close_own.new.entries (c.close_own.auto.entries ∙ c.as_mut_slice.ensures.len) in
    subst (λ (k : List Bool). IsNarrow gen.W.Width.unit k (with_items c.in_ok-entries.entries c.close_own.new.entries).items) c.list.ensures.value (subst (λ (x : List ℤ). IsNarrow gen.W.Width.unit c.list.result.now x) (sym w) c.in-Closed.ensures.outcome.1)

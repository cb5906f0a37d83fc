use Rattle.std.specs.Prelude.{◌≡◌, ◌^◌, List, Bool, ℤ}
use Rattle.std.proofs.Common.{sym, ◌∙◌, ap, subst}
use Rattle.std.specs.Vec.{with_items}
use Rattle.std.proofs.lemmas.List.{with_items_is}
use Rattle.dbm_close.specs.CloseOf.{close_of}
use Rattle.dbm_close.specs.declared.closed.Closed.TheVariants.{Matrix}
use Rattle.dbm_core.specs.Half.{HalfMatrix, entry, nodes}
use Rattle.dbm_core.specs.Limits.{AreWithin, IsZeroAtMost}
use Rattle.dbm_narrow.specs.Entries.{held}
use Rattle.dbm_narrow.specs.Rounds.{IsNarrow}
use Rattle.dbm_narrow.proofs.closed.close.Goals as goal

pub close_entries-requires-clause-narrow : goal.close_entries-requires-clause-narrow
close_entries-requires-clause-narrow gen c =
    let k : c.list.result.now ≡ c.m.inside.kinds = c.list.ensures.value ∙ c.in_ok-kinds.ensures.items in
    let x : c.as_mut_slice.result.now ≡ c.m.inside.entries.items = c.as_mut_slice.ensures.value ∙ c.in_ok-entries.ensures.items ∙ c.as_slice.ensures.value in
    subst (λ (k : List Bool). IsNarrow gen.W.Width.unit k c.as_mut_slice.result.now) (sym k) (subst (λ (x : List ℤ). IsNarrow gen.W.Width.unit c.m.inside.kinds x) (sym x) c.m.invariant)

pub close_entries-requires-clause-diagonal : goal.close_entries-requires-clause-diagonal
close_entries-requires-clause-diagonal gen c =
    let k : c.list.result.now ≡ c.m.inside.kinds = c.list.ensures.value ∙ c.in_ok-kinds.ensures.items in
    let x : c.as_mut_slice.result.now ≡ c.m.inside.entries.items = c.as_mut_slice.ensures.value ∙ c.in_ok-entries.ensures.items ∙ c.as_slice.ensures.value in
    let e : c.args.m.now ≡ held gen.W.Width.unit c.list.result.now c.as_mut_slice.result.now = sym c.m.view_is ∙ ap (λ k. held gen.W.Width.unit k c.m.inside.entries.items) (sym k) ∙ ap (held gen.W.Width.unit c.list.result.now) (sym x) in
    subst (λ (m : HalfMatrix). IsZeroAtMost (nodes m) (entry m)) e c.requires.diagonal

pub close_entries-requires-clause-small : goal.close_entries-requires-clause-small
close_entries-requires-clause-small gen c =
    let k : c.list.result.now ≡ c.m.inside.kinds = c.list.ensures.value ∙ c.in_ok-kinds.ensures.items in
    let x : c.as_mut_slice.result.now ≡ c.m.inside.entries.items = c.as_mut_slice.ensures.value ∙ c.in_ok-entries.ensures.items ∙ c.as_slice.ensures.value in
    let e : c.args.m.now ≡ held gen.W.Width.unit c.list.result.now c.as_mut_slice.result.now = sym c.m.view_is ∙ ap (λ k. held gen.W.Width.unit k c.m.inside.entries.items) (sym k) ∙ ap (held gen.W.Width.unit c.list.result.now) (sym x) in
    subst (λ (m : HalfMatrix). AreWithin (nodes m) (2 ^ 70) (entry m)) e c.requires.small

pub returns-in-Closed : goal.returns-in-Closed
returns-in-Closed gen c =
    let k : c.list.result.now ≡ c.m.inside.kinds = c.list.ensures.value ∙ c.in_ok-kinds.ensures.items in
    let x : c.as_mut_slice.result.now ≡ c.m.inside.entries.items = c.as_mut_slice.ensures.value ∙ c.in_ok-entries.ensures.items ∙ c.as_slice.ensures.value in
    let e : c.args.m.now ≡ held gen.W.Width.unit c.list.result.now c.as_mut_slice.result.now = sym c.m.view_is ∙ ap (λ k. held gen.W.Width.unit k c.m.inside.entries.items) (sym k) ∙ ap (held gen.W.Width.unit c.list.result.now) (sym x) in
    let w : (with_items c.in_ok-entries.entries c.close_entries.new.entries).items ≡ c.close_entries.new.entries = with_items_is c.in_ok-entries.entries c.close_entries.new.entries (c.close_entries.auto.entries ∙ c.as_mut_slice.ensures.len) in
    record {
      closing = ap close_of e ∙ c.in-Closed.ensures.outcome.0 ∙ ap (λ (k : List Bool). Matrix (held gen.W.Width.unit k c.close_entries.new.entries)) c.list.ensures.value ∙ ap (λ (x : List ℤ). Matrix (held gen.W.Width.unit c.in_ok-kinds.kinds x)) (sym w);
      total = tt;
    }

pub returns-in-Empty : goal.returns-in-Empty
returns-in-Empty gen c =
    let k : c.list.result.now ≡ c.m.inside.kinds = c.list.ensures.value ∙ c.in_ok-kinds.ensures.items in
    let x : c.as_mut_slice.result.now ≡ c.m.inside.entries.items = c.as_mut_slice.ensures.value ∙ c.in_ok-entries.ensures.items ∙ c.as_slice.ensures.value in
    let e : c.args.m.now ≡ held gen.W.Width.unit c.list.result.now c.as_mut_slice.result.now = sym c.m.view_is ∙ ap (λ k. held gen.W.Width.unit k c.m.inside.entries.items) (sym k) ∙ ap (held gen.W.Width.unit c.list.result.now) (sym x) in
    record { closing = ap close_of e ∙ c.in-Empty.ensures.outcome; total = tt }

pub invariant_of-result : goal.invariant_of-result
invariant_of-result gen c =
    let w : (with_items c.in_ok-entries.entries c.close_entries.new.entries).items ≡ c.close_entries.new.entries = with_items_is c.in_ok-entries.entries c.close_entries.new.entries (c.close_entries.auto.entries ∙ c.as_mut_slice.ensures.len) in
    subst (λ (k : List Bool). IsNarrow gen.W.Width.unit k (with_items c.in_ok-entries.entries c.close_entries.new.entries).items) c.list.ensures.value (subst (λ (x : List ℤ). IsNarrow gen.W.Width.unit c.list.result.now x) (sym w) c.in-Closed.ensures.outcome.1)

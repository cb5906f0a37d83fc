use Rattle.std.specs.Prelude.{◌≡◌, ◌<◌, List, Bool, ℤ, length}
use Rattle.std.proofs.Common.{sym, ◌∙◌, ap, subst}
use Rattle.std.proofs.lemmas.Int.{to_z-of_z}
use mir.Syntax.{w128}
use mir.Val.{of_z, to_z}
use Rattle.std.specs.Vec.{with_items}
use Rattle.std.proofs.lemmas.List.{with_items_is}
use Rattle.dbm_close.specs.declared.closed.Closed.TheVariants.{Empty, Matrix}
use Rattle.dbm_core.specs.Half.{HalfMatrix, nodes}
use Rattle.dbm_incremental.specs.ClosedMatrices.{IsClosed, IsWhole}
use Rattle.dbm_incremental.specs.Equations.{ClosesEquated}
use Rattle.dbm_narrow.specs.Entries.{held}
use Rattle.dbm_narrow.specs.Rounds.{IsNarrow}
use Rattle.dbm_narrow.proofs.closed.close_equation.Goals as goal

pub close_stood-requires-clause-narrow : goal.close_stood-requires-clause-narrow
close_stood-requires-clause-narrow gen c =
    let k : c.list.result.now ≡ c.closed.inside.kinds = c.list.ensures.value ∙ c.in_ok-kinds.ensures.items in
    let x : c.as_mut_slice.result.now ≡ c.closed.inside.entries.items = c.as_mut_slice.ensures.value ∙ c.in_ok-entries.ensures.items ∙ c.as_slice.ensures.value in
    subst (λ (k : List Bool). IsNarrow gen.W.Width.unit k c.as_mut_slice.result.now) (sym k) (subst (λ (x : List ℤ). IsNarrow gen.W.Width.unit c.closed.inside.kinds x) (sym x) c.closed.invariant)

pub close_stood-requires-clause-closed : goal.close_stood-requires-clause-closed
close_stood-requires-clause-closed gen c =
    let k : c.list.result.now ≡ c.closed.inside.kinds = c.list.ensures.value ∙ c.in_ok-kinds.ensures.items in
    let x : c.as_mut_slice.result.now ≡ c.closed.inside.entries.items = c.as_mut_slice.ensures.value ∙ c.in_ok-entries.ensures.items ∙ c.as_slice.ensures.value in
    let e : held gen.W.Width.unit c.list.result.now c.as_mut_slice.result.now ≡ c.args.closed.now = ap (λ k. held gen.W.Width.unit k c.as_mut_slice.result.now) k ∙ ap (held gen.W.Width.unit c.closed.inside.kinds) x ∙ c.closed.view_is in
    subst IsClosed (sym e) c.requires.closed

pub close_stood-requires-clause-whole : goal.close_stood-requires-clause-whole
close_stood-requires-clause-whole gen c =
    let k : c.list.result.now ≡ c.closed.inside.kinds = c.list.ensures.value ∙ c.in_ok-kinds.ensures.items in
    let x : c.as_mut_slice.result.now ≡ c.closed.inside.entries.items = c.as_mut_slice.ensures.value ∙ c.in_ok-entries.ensures.items ∙ c.as_slice.ensures.value in
    let e : held gen.W.Width.unit c.list.result.now c.as_mut_slice.result.now ≡ c.args.closed.now = ap (λ k. held gen.W.Width.unit k c.as_mut_slice.result.now) k ∙ ap (held gen.W.Width.unit c.closed.inside.kinds) x ∙ c.closed.view_is in
    subst IsWhole (sym e) c.requires.whole

pub close_stood-requires-clause-slot : goal.close_stood-requires-clause-slot
close_stood-requires-clause-slot gen c =
    let k : c.list.result.now ≡ c.closed.inside.kinds = c.list.ensures.value ∙ c.in_ok-kinds.ensures.items in
    let x : c.as_mut_slice.result.now ≡ c.closed.inside.entries.items = c.as_mut_slice.ensures.value ∙ c.in_ok-entries.ensures.items ∙ c.as_slice.ensures.value in
    let e : held gen.W.Width.unit c.list.result.now c.as_mut_slice.result.now ≡ c.args.closed.now = ap (λ k. held gen.W.Width.unit k c.as_mut_slice.result.now) k ∙ ap (held gen.W.Width.unit c.closed.inside.kinds) x ∙ c.closed.view_is in
    subst (λ (m : HalfMatrix). c.args.q < length m.kinds) (sym e) c.requires.slot

pub close_stood-requires-clause-node : goal.close_stood-requires-clause-node
close_stood-requires-clause-node gen c =
    let k : c.list.result.now ≡ c.closed.inside.kinds = c.list.ensures.value ∙ c.in_ok-kinds.ensures.items in
    let x : c.as_mut_slice.result.now ≡ c.closed.inside.entries.items = c.as_mut_slice.ensures.value ∙ c.in_ok-entries.ensures.items ∙ c.as_slice.ensures.value in
    let e : held gen.W.Width.unit c.list.result.now c.as_mut_slice.result.now ≡ c.args.closed.now = ap (λ k. held gen.W.Width.unit k c.as_mut_slice.result.now) k ∙ ap (held gen.W.Width.unit c.closed.inside.kinds) x ∙ c.closed.view_is in
    subst (λ (m : HalfMatrix). c.args.y < nodes m) (sym e) c.requires.node

pub returns-in-Closed : goal.returns-in-Closed
returns-in-Closed gen c =
    let k : c.list.result.now ≡ c.closed.inside.kinds = c.list.ensures.value ∙ c.in_ok-kinds.ensures.items in
    let x : c.as_mut_slice.result.now ≡ c.closed.inside.entries.items = c.as_mut_slice.ensures.value ∙ c.in_ok-entries.ensures.items ∙ c.as_slice.ensures.value in
    let e : held gen.W.Width.unit c.list.result.now c.as_mut_slice.result.now ≡ c.args.closed.now = ap (λ k. held gen.W.Width.unit k c.as_mut_slice.result.now) k ∙ ap (held gen.W.Width.unit c.closed.inside.kinds) x ∙ c.closed.view_is in
    let w : (with_items c.in_ok-entries.entries c.close_stood.new.entries).items ≡ c.close_stood.new.entries = with_items_is c.in_ok-entries.entries c.close_stood.new.entries (c.close_stood.auto.entries ∙ c.as_mut_slice.ensures.len) in
    let r : held gen.W.Width.unit c.list.result.now c.close_stood.new.entries ≡ held gen.W.Width.unit c.in_ok-kinds.kinds (with_items c.in_ok-entries.entries c.close_stood.new.entries).items = ap (λ (k : List Bool). held gen.W.Width.unit k c.close_stood.new.entries) c.list.ensures.value ∙ ap (held gen.W.Width.unit c.in_ok-kinds.kinds) (sym w) in
    let tc : to_z w128 (of_z w128 c.args.c) ≡ c.args.c = to_z-of_z w128 c.args.c c.ranges.c in
    record {
      closing = (
        subst (λ (x : ℤ). ClosesEquated c.args.closed.now c.args.q c.args.y x (Matrix (held gen.W.Width.unit c.in_ok-kinds.kinds (with_items c.in_ok-entries.entries c.close_stood.new.entries).items))) tc
            (subst (λ (m : HalfMatrix). ClosesEquated m c.args.q c.args.y (to_z w128 (of_z w128 c.args.c)) (Matrix (held gen.W.Width.unit c.in_ok-kinds.kinds (with_items c.in_ok-entries.entries c.close_stood.new.entries).items))) e
            (subst (λ (n : HalfMatrix). ClosesEquated (held gen.W.Width.unit c.list.result.now c.as_mut_slice.result.now) c.args.q c.args.y (to_z w128 (of_z w128 c.args.c)) (Matrix n)) r c.in-Closed.ensures.outcome.closes)),
        subst IsClosed r c.in-Closed.ensures.outcome.closed,
      );
      total = tt;
    }

pub returns-in-Empty : goal.returns-in-Empty
returns-in-Empty gen c =
    let k : c.list.result.now ≡ c.closed.inside.kinds = c.list.ensures.value ∙ c.in_ok-kinds.ensures.items in
    let x : c.as_mut_slice.result.now ≡ c.closed.inside.entries.items = c.as_mut_slice.ensures.value ∙ c.in_ok-entries.ensures.items ∙ c.as_slice.ensures.value in
    let e : held gen.W.Width.unit c.list.result.now c.as_mut_slice.result.now ≡ c.args.closed.now = ap (λ k. held gen.W.Width.unit k c.as_mut_slice.result.now) k ∙ ap (held gen.W.Width.unit c.closed.inside.kinds) x ∙ c.closed.view_is in
    let tc : to_z w128 (of_z w128 c.args.c) ≡ c.args.c = to_z-of_z w128 c.args.c c.ranges.c in
    record {
      closing = subst (λ (x : ℤ). ClosesEquated c.args.closed.now c.args.q c.args.y x Empty) tc (subst (λ (m : HalfMatrix). ClosesEquated m c.args.q c.args.y (to_z w128 (of_z w128 c.args.c)) Empty) e c.in-Empty.ensures.outcome);
      total = tt;
    }

pub invariant_of-result : goal.invariant_of-result
invariant_of-result gen c =
    let w : (with_items c.in_ok-entries.entries c.close_stood.new.entries).items ≡ c.close_stood.new.entries = with_items_is c.in_ok-entries.entries c.close_stood.new.entries (c.close_stood.auto.entries ∙ c.as_mut_slice.ensures.len) in
    let r : held gen.W.Width.unit c.list.result.now c.close_stood.new.entries ≡ held gen.W.Width.unit c.in_ok-kinds.kinds (with_items c.in_ok-entries.entries c.close_stood.new.entries).items = ap (λ (k : List Bool). held gen.W.Width.unit k c.close_stood.new.entries) c.list.ensures.value ∙ ap (held gen.W.Width.unit c.in_ok-kinds.kinds) (sym w) in
    let tc : to_z w128 (of_z w128 c.args.c) ≡ c.args.c = to_z-of_z w128 c.args.c c.ranges.c in
    subst (λ (k : List Bool). IsNarrow gen.W.Width.unit k (with_items c.in_ok-entries.entries c.close_stood.new.entries).items) c.list.ensures.value (subst (λ (x : List ℤ). IsNarrow gen.W.Width.unit c.list.result.now x) (sym w) c.in-Closed.ensures.outcome.narrow)

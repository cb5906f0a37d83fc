use Rattle.std.specs.Prelude.{◌≡◌, ◌<◌, List, Bool, ℤ, true, length}
use Rattle.std.proofs.Common.{sym, ◌∙◌, ap, subst}
use Rattle.std.proofs.lemmas.Int.{to_z-of_z}
use mir.Syntax.{w128}
use mir.Val.{of_z, to_z}
use Rattle.std.specs.Vec.{with_items}
use Rattle.std.proofs.lemmas.List.{with_items_is}
use Rattle.dbm_core.specs.Half.{HalfMatrix, HasEntries, entry, nodes}
use Rattle.dbm_incremental.specs.ClosedMatrices.{IsClosed}
use Rattle.dbm_incremental.specs.Equations.{stood_entry}
use Rattle.dbm_narrow.proofs.StandingLemmas.{stands-entries, stands-narrow}
use Rattle.dbm_narrow.specs.Entries.{held}
use Rattle.dbm_narrow.specs.Rounds.{IsNarrow}
use Rattle.dbm_narrow.specs.Standing.{StandsTo}
use Rattle.dbm_narrow.proofs.stands.stood.Goals as goal

pub stand_by-requires-clause-narrow : goal.stand_by-requires-clause-narrow
stand_by-requires-clause-narrow gen c =
    let k : c.list.result.now ≡ c.closed.inside.kinds = c.list.ensures.value ∙ c.in_ok-kinds.ensures.items in
    let x : c.as_mut_slice.result.now ≡ c.closed.inside.entries.items = c.as_mut_slice.ensures.value ∙ c.in_ok-entries.ensures.items ∙ c.as_slice.ensures.value in
    subst (λ (k : List Bool). IsNarrow gen.W.Width.unit k c.as_mut_slice.result.now) (sym k) (subst (λ (x : List ℤ). IsNarrow gen.W.Width.unit c.closed.inside.kinds x) (sym x) c.closed.invariant)

pub stand_by-requires-clause-closed : goal.stand_by-requires-clause-closed
stand_by-requires-clause-closed gen c =
    let k : c.list.result.now ≡ c.closed.inside.kinds = c.list.ensures.value ∙ c.in_ok-kinds.ensures.items in
    let x : c.as_mut_slice.result.now ≡ c.closed.inside.entries.items = c.as_mut_slice.ensures.value ∙ c.in_ok-entries.ensures.items ∙ c.as_slice.ensures.value in
    let e : held gen.W.Width.unit c.list.result.now c.as_mut_slice.result.now ≡ c.args.closed.now = ap (λ k. held gen.W.Width.unit k c.as_mut_slice.result.now) k ∙ ap (held gen.W.Width.unit c.closed.inside.kinds) x ∙ c.closed.view_is in
    subst IsClosed (sym e) c.requires.closed

pub stand_by-requires-clause-slot : goal.stand_by-requires-clause-slot
stand_by-requires-clause-slot gen c =
    let k : c.list.result.now ≡ c.closed.inside.kinds = c.list.ensures.value ∙ c.in_ok-kinds.ensures.items in
    let x : c.as_mut_slice.result.now ≡ c.closed.inside.entries.items = c.as_mut_slice.ensures.value ∙ c.in_ok-entries.ensures.items ∙ c.as_slice.ensures.value in
    let e : held gen.W.Width.unit c.list.result.now c.as_mut_slice.result.now ≡ c.args.closed.now = ap (λ k. held gen.W.Width.unit k c.as_mut_slice.result.now) k ∙ ap (held gen.W.Width.unit c.closed.inside.kinds) x ∙ c.closed.view_is in
    subst (λ (m : HalfMatrix). c.args.q < length m.kinds) (sym e) c.requires.slot

pub stand_by-requires-clause-node : goal.stand_by-requires-clause-node
stand_by-requires-clause-node gen c =
    let k : c.list.result.now ≡ c.closed.inside.kinds = c.list.ensures.value ∙ c.in_ok-kinds.ensures.items in
    let x : c.as_mut_slice.result.now ≡ c.closed.inside.entries.items = c.as_mut_slice.ensures.value ∙ c.in_ok-entries.ensures.items ∙ c.as_slice.ensures.value in
    let e : held gen.W.Width.unit c.list.result.now c.as_mut_slice.result.now ≡ c.args.closed.now = ap (λ k. held gen.W.Width.unit k c.as_mut_slice.result.now) k ∙ ap (held gen.W.Width.unit c.closed.inside.kinds) x ∙ c.closed.view_is in
    subst (λ (m : HalfMatrix). c.args.y < nodes m) (sym e) c.requires.node

pub returns-then-stand_by : goal.returns-then-stand_by
returns-then-stand_by gen c =
    let k : c.list.result.now ≡ c.closed.inside.kinds = c.list.ensures.value ∙ c.in_ok-kinds.ensures.items in
    let x : c.as_mut_slice.result.now ≡ c.closed.inside.entries.items = c.as_mut_slice.ensures.value ∙ c.in_ok-entries.ensures.items ∙ c.as_slice.ensures.value in
    let e : held gen.W.Width.unit c.list.result.now c.as_mut_slice.result.now ≡ c.args.closed.now = ap (λ k. held gen.W.Width.unit k c.as_mut_slice.result.now) k ∙ ap (held gen.W.Width.unit c.closed.inside.kinds) x ∙ c.closed.view_is in
    let w : (with_items c.in_ok-entries.entries c.stand_by.new.entries).items ≡ c.stand_by.new.entries = with_items_is c.in_ok-entries.entries c.stand_by.new.entries (c.stand_by.auto.entries ∙ c.as_mut_slice.ensures.len) in
    let tc : to_z w128 (of_z w128 c.args.c) ≡ c.args.c = to_z-of_z w128 c.args.c c.ranges.c in
    let t : IsNarrow gen.W.Width.unit c.list.result.now c.as_mut_slice.result.now =
    subst (λ (k : List Bool). IsNarrow gen.W.Width.unit k c.as_mut_slice.result.now) (sym k) (subst (λ (x : List ℤ). IsNarrow gen.W.Width.unit c.closed.inside.kinds x) (sym x) c.closed.invariant) in
    let hy : c.args.y < nodes (held gen.W.Width.unit c.list.result.now c.as_mut_slice.result.now) = subst (λ (m : HalfMatrix). c.args.y < nodes m) (sym e) c.requires.node in
    let true_is : c.stand_by.result ≡ true = cc in
    let st : StandsTo gen.W.Width.unit c.list.result.now c.as_mut_slice.result.now c.stand_by.new.entries c.args.q c.args.y c.args.c =
    subst (StandsTo gen.W.Width.unit c.list.result.now c.as_mut_slice.result.now c.stand_by.new.entries c.args.q c.args.y) tc (c.stand_by.ensures.stands true_is) in
    let r : held gen.W.Width.unit c.list.result.now c.stand_by.new.entries ≡ held gen.W.Width.unit c.in_ok-kinds.kinds (with_items c.in_ok-entries.entries c.stand_by.new.entries).items = ap (λ (k : List Bool). held gen.W.Width.unit k c.stand_by.new.entries) c.list.ensures.value ∙ ap (held gen.W.Width.unit c.in_ok-kinds.kinds) (sym w) in
    let p : HasEntries c.list.result.now (stood_entry (entry (held gen.W.Width.unit c.list.result.now c.as_mut_slice.result.now)) c.args.q c.args.y c.args.c) (held gen.W.Width.unit c.list.result.now c.stand_by.new.entries) =
    stands-entries gen.W.Width.unit gen.W.Width.positive c.list.result.now c.as_mut_slice.result.now c.stand_by.new.entries c.args.q c.args.y c.args.c t hy c.stand_by.auto.entries st in
    record {
      total = tt;
      stood = subst (HasEntries c.args.closed.now.kinds (stood_entry (entry c.args.closed.now) c.args.q c.args.y c.args.c)) r
          (subst (λ (m : HalfMatrix). HasEntries m.kinds (stood_entry (entry m) c.args.q c.args.y c.args.c) (held gen.W.Width.unit c.list.result.now c.stand_by.new.entries)) e p);
    }

pub invariant_of-result : goal.invariant_of-result
invariant_of-result gen c =
    let k : c.list.result.now ≡ c.closed.inside.kinds = c.list.ensures.value ∙ c.in_ok-kinds.ensures.items in
    let x : c.as_mut_slice.result.now ≡ c.closed.inside.entries.items = c.as_mut_slice.ensures.value ∙ c.in_ok-entries.ensures.items ∙ c.as_slice.ensures.value in
    let e : held gen.W.Width.unit c.list.result.now c.as_mut_slice.result.now ≡ c.args.closed.now = ap (λ k. held gen.W.Width.unit k c.as_mut_slice.result.now) k ∙ ap (held gen.W.Width.unit c.closed.inside.kinds) x ∙ c.closed.view_is in
    let w : (with_items c.in_ok-entries.entries c.stand_by.new.entries).items ≡ c.stand_by.new.entries = with_items_is c.in_ok-entries.entries c.stand_by.new.entries (c.stand_by.auto.entries ∙ c.as_mut_slice.ensures.len) in
    let tc : to_z w128 (of_z w128 c.args.c) ≡ c.args.c = to_z-of_z w128 c.args.c c.ranges.c in
    let t : IsNarrow gen.W.Width.unit c.list.result.now c.as_mut_slice.result.now =
    subst (λ (k : List Bool). IsNarrow gen.W.Width.unit k c.as_mut_slice.result.now) (sym k) (subst (λ (x : List ℤ). IsNarrow gen.W.Width.unit c.closed.inside.kinds x) (sym x) c.closed.invariant) in
    let hy : c.args.y < nodes (held gen.W.Width.unit c.list.result.now c.as_mut_slice.result.now) = subst (λ (m : HalfMatrix). c.args.y < nodes m) (sym e) c.requires.node in
    let true_is : c.stand_by.result ≡ true = cc in
    let st : StandsTo gen.W.Width.unit c.list.result.now c.as_mut_slice.result.now c.stand_by.new.entries c.args.q c.args.y c.args.c =
    subst (StandsTo gen.W.Width.unit c.list.result.now c.as_mut_slice.result.now c.stand_by.new.entries c.args.q c.args.y) tc (c.stand_by.ensures.stands true_is) in
    subst (λ (k : List Bool). IsNarrow gen.W.Width.unit k (with_items c.in_ok-entries.entries c.stand_by.new.entries).items) c.list.ensures.value
    (subst (λ (x : List ℤ). IsNarrow gen.W.Width.unit c.list.result.now x) (sym w) (stands-narrow gen.W.Width.unit gen.W.Width.positive c.list.result.now c.as_mut_slice.result.now c.stand_by.new.entries c.args.q c.args.y c.args.c t hy c.stand_by.auto.entries st))

use Rattle.std.specs.Prelude.{◌≡◌, ◌*◌, List, Bool, ℤ}
use Rattle.std.specs.Int.{int_max}
use Rattle.std.proofs.Common.{sym, ◌∙◌, ap, subst, length}
use Rattle.std.specs.Vec.{with_items}
use Rattle.std.proofs.lemmas.List.{with_items_is}
use Rattle.dbm_core.specs.Half.{HalfMatrix, HasEntries}
use Rattle.dbm_core.specs.Operations.{joined}
use Rattle.dbm_narrow.proofs.JoinLemmas.{IsJoin, joined-held}
use Rattle.dbm_narrow.proofs.RoundLemmas.{narrow-size}
use Rattle.dbm_core.specs.Half.{row_start}
use Rattle.dbm_narrow.specs.Entries.{AreEntries, at, held}
use Rattle.dbm_narrow.specs.Rounds.{IsNarrow}
use Rattle.dbm_narrow.proofs.joins.join.Goals as goal

pub raise-requires-clause-size : goal.raise-requires-clause-size
raise-requires-clause-size gen c =
    let x : c.as_mut_slice.result.now ≡ c.left.inside.entries.items = c.as_mut_slice.ensures.value ∙ c.in_ok-entries.ensures.items ∙ c.as_slice.ensures.value in
    let o : c.as_slice-2.result.now ≡ c.right.inside.entries.items = c.as_slice-2.ensures.value in
    let k : c.in_ok-kinds.kinds ≡ c.left.inside.kinds = c.in_ok-kinds.ensures.items in
    let kk : c.right.inside.kinds ≡ c.left.inside.kinds = ap (λ (m : HalfMatrix). m.kinds) c.right.view_is ∙ c.requires.same_kinds ∙ sym (ap (λ (m : HalfMatrix). m.kinds) c.left.view_is) in
    ap length o ∙ narrow-size gen.W.Width.unit gen.W.Width.positive c.right.inside.kinds c.right.inside.entries.items c.right.invariant ∙ ap (λ (k : List Bool). row_start (2 * length k)) kk
    ∙ sym (narrow-size gen.W.Width.unit gen.W.Width.positive c.left.inside.kinds c.left.inside.entries.items c.left.invariant) ∙ sym (ap length x)

pub raise-requires-clause-entries : goal.raise-requires-clause-entries
raise-requires-clause-entries gen c =
    let x : c.as_mut_slice.result.now ≡ c.left.inside.entries.items = c.as_mut_slice.ensures.value ∙ c.in_ok-entries.ensures.items ∙ c.as_slice.ensures.value in
    let o : c.as_slice-2.result.now ≡ c.right.inside.entries.items = c.as_slice-2.ensures.value in
    let k : c.in_ok-kinds.kinds ≡ c.left.inside.kinds = c.in_ok-kinds.ensures.items in
    subst (AreEntries gen.W.Width.unit (2 * gen.W.Width.unit)) (sym x) c.left.invariant.entries

pub raise-requires-clause-others : goal.raise-requires-clause-others
raise-requires-clause-others gen c =
    let x : c.as_mut_slice.result.now ≡ c.left.inside.entries.items = c.as_mut_slice.ensures.value ∙ c.in_ok-entries.ensures.items ∙ c.as_slice.ensures.value in
    let o : c.as_slice-2.result.now ≡ c.right.inside.entries.items = c.as_slice-2.ensures.value in
    let k : c.in_ok-kinds.kinds ≡ c.left.inside.kinds = c.in_ok-kinds.ensures.items in
    subst (AreEntries gen.W.Width.unit (2 * gen.W.Width.unit)) (sym o) c.right.invariant.entries

pub invariant_of-result : goal.invariant_of-result
invariant_of-result gen c =
    let x : c.as_mut_slice.result.now ≡ c.left.inside.entries.items = c.as_mut_slice.ensures.value ∙ c.in_ok-entries.ensures.items ∙ c.as_slice.ensures.value in
    let o : c.as_slice-2.result.now ≡ c.right.inside.entries.items = c.as_slice-2.ensures.value in
    let k : c.in_ok-kinds.kinds ≡ c.left.inside.kinds = c.in_ok-kinds.ensures.items in
    let kk : c.right.inside.kinds ≡ c.left.inside.kinds = ap (λ (m : HalfMatrix). m.kinds) c.right.view_is ∙ c.requires.same_kinds ∙ sym (ap (λ (m : HalfMatrix). m.kinds) c.left.view_is) in
    let w : (with_items c.in_ok-entries.entries c.raise.new.entries).items ≡ c.raise.new.entries = with_items_is c.in_ok-entries.entries c.raise.new.entries (c.raise.auto.entries ∙ c.as_mut_slice.ensures.len) in
    let j : IsJoin gen.W.Width.unit gen.W.Width.positive (held gen.W.Width.unit c.left.inside.kinds c.left.inside.entries.items) (held gen.W.Width.unit c.right.inside.kinds c.right.inside.entries.items) (held gen.W.Width.unit c.left.inside.kinds c.raise.new.entries) =
    joined-held gen.W.Width.unit gen.W.Width.positive c.left.inside.kinds c.right.inside.kinds c.left.inside.entries.items c.right.inside.entries.items c.raise.new.entries c.left.invariant c.right.invariant kk
    (c.raise.auto.entries ∙ ap length x) (λ p. c.raise.ensures.greater p ∙ ap (λ v. int_max (at gen.W.Width.unit v p) (at gen.W.Width.unit c.as_slice-2.result.now p)) x ∙ ap (λ v. int_max (at gen.W.Width.unit c.left.inside.entries.items p) (at gen.W.Width.unit v p)) o) in
    subst (λ (k : List Bool). IsNarrow gen.W.Width.unit k (with_items c.in_ok-entries.entries c.raise.new.entries).items) (sym k)
    (subst (λ (x : List ℤ). IsNarrow gen.W.Width.unit c.left.inside.kinds x) (sym w) (record { matrix = j.matrix; entries = c.raise.ensures.entries }))

pub returns : goal.returns
returns gen c =
    let x : c.as_mut_slice.result.now ≡ c.left.inside.entries.items = c.as_mut_slice.ensures.value ∙ c.in_ok-entries.ensures.items ∙ c.as_slice.ensures.value in
    let o : c.as_slice-2.result.now ≡ c.right.inside.entries.items = c.as_slice-2.ensures.value in
    let k : c.in_ok-kinds.kinds ≡ c.left.inside.kinds = c.in_ok-kinds.ensures.items in
    let kk : c.right.inside.kinds ≡ c.left.inside.kinds = ap (λ (m : HalfMatrix). m.kinds) c.right.view_is ∙ c.requires.same_kinds ∙ sym (ap (λ (m : HalfMatrix). m.kinds) c.left.view_is) in
    let w : (with_items c.in_ok-entries.entries c.raise.new.entries).items ≡ c.raise.new.entries = with_items_is c.in_ok-entries.entries c.raise.new.entries (c.raise.auto.entries ∙ c.as_mut_slice.ensures.len) in
    let j : IsJoin gen.W.Width.unit gen.W.Width.positive (held gen.W.Width.unit c.left.inside.kinds c.left.inside.entries.items) (held gen.W.Width.unit c.right.inside.kinds c.right.inside.entries.items) (held gen.W.Width.unit c.left.inside.kinds c.raise.new.entries) =
    joined-held gen.W.Width.unit gen.W.Width.positive c.left.inside.kinds c.right.inside.kinds c.left.inside.entries.items c.right.inside.entries.items c.raise.new.entries c.left.invariant c.right.invariant kk
    (c.raise.auto.entries ∙ ap length x) (λ p. c.raise.ensures.greater p ∙ ap (λ v. int_max (at gen.W.Width.unit v p) (at gen.W.Width.unit c.as_slice-2.result.now p)) x ∙ ap (λ v. int_max (at gen.W.Width.unit c.left.inside.entries.items p) (at gen.W.Width.unit v p)) o) in
    record {
      entries = subst (λ (a : HalfMatrix). HasEntries a.kinds (joined a c.args.right.now) (held gen.W.Width.unit c.in_ok-kinds.kinds (with_items c.in_ok-entries.entries c.raise.new.entries).items)) c.left.view_is
          (subst (λ (b : HalfMatrix). HasEntries c.left.inside.kinds (joined (held gen.W.Width.unit c.left.inside.kinds c.left.inside.entries.items) b) (held gen.W.Width.unit c.in_ok-kinds.kinds (with_items c.in_ok-entries.entries c.raise.new.entries).items)) c.right.view_is
          (subst (λ (k : List Bool). HasEntries c.left.inside.kinds (joined (held gen.W.Width.unit c.left.inside.kinds c.left.inside.entries.items) (held gen.W.Width.unit c.right.inside.kinds c.right.inside.entries.items)) (held gen.W.Width.unit k (with_items c.in_ok-entries.entries c.raise.new.entries).items)) (sym k)
          (subst (λ (x : List ℤ). HasEntries c.left.inside.kinds (joined (held gen.W.Width.unit c.left.inside.kinds c.left.inside.entries.items) (held gen.W.Width.unit c.right.inside.kinds c.right.inside.entries.items)) (held gen.W.Width.unit c.left.inside.kinds x)) (sym w) j.entries)));
    }

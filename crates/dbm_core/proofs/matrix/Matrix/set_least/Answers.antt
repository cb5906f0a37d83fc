use Rattle.std.proofs.Common.{arith, ◌≡◌, ◌<◌, ap, sym, ◌∙◌, subst, length, List, Bool}
use Rattle.std.specs.Vec.{with_items}
use Rattle.std.proofs.lemmas.List.{with_items_is}
use Rattle.std.proofs.lemmas.Int.{to_z-of_z}
use mir.Syntax.{w128}
use Rattle.dbm_core.proofs.HalfLemmas.{place-within}
use Rattle.dbm_core.proofs.LimitLemmas.{IsZeroAtMost-entries, AreWithin-entries, lowered-diagonal, lowered-within}
use Rattle.dbm_core.proofs.ValuationLemmas.{AddsBound-entries}
use Rattle.dbm_core.proofs.LowerLemmas.{HasEntries-lowered, length-lower_pair}
use Rattle.dbm_core.proofs.NodeLemmas.{flip_below}
use Rattle.dbm_core.specs.Half.{HalfMatrix, HasEntries, IsMatrix, entry, nodes}
use Rattle.dbm_core.specs.Nodes.{flip}
use Rattle.dbm_core.specs.Operations.{lower_pair, lowered}
use Rattle.dbm_core.proofs.matrix.Matrix.set_least.Goals as goal

pub lower_kept-requires-clause-room : goal.lower_kept-requires-clause-room
lower_kept-requires-clause-room c = λ w.
    let h : IsMatrix c.args.self.now = subst IsMatrix c.self.view_is c.self.invariant in
    let e : c.as_mut_slice-entries.result.now ≡ c.args.self.now.kept = c.as_mut_slice-entries.ensures.value ∙ ap (λ (m : HalfMatrix). m.kept) c.self.view_is in
    rw e (omega (arith, h.fits, place-within (length c.args.self.now.kinds) c.args.i c.args.j c.requires.row w))

pub lower_kept-requires-2-clause-room : goal.lower_kept-requires-2-clause-room
lower_kept-requires-2-clause-room c = λ w.
    let h : IsMatrix c.args.self.now = subst IsMatrix c.self.view_is c.self.invariant in
    let e : c.as_mut_slice-entries.result.now ≡ c.args.self.now.kept = c.as_mut_slice-entries.ensures.value ∙ ap (λ (m : HalfMatrix). m.kept) c.self.view_is in
    let first : c.lower_kept.new.entries ≡ lower_pair c.as_mut_slice-entries.result.now c.args.i c.args.j c.args.bound = rw (to_z-of_z w128 c.args.bound c.ranges.bound) at c.lower_kept.ensures.lowered in
    let l : length c.lower_kept.new.entries ≡ length c.args.self.now.kept =
    ap length first ∙ length-lower_pair c.as_mut_slice-entries.result.now c.args.i c.args.j c.args.bound ∙ ap length e in
    let hr : c.other_sign.result < nodes c.args.self.now = rw c.other_sign.ensures.flipped (flip_below c.args.j (length c.args.self.now.kinds) c.requires.column) in
    omega (arith, h.fits, l, place-within (length c.args.self.now.kinds) c.other_sign.result c.other_sign-2.result hr w)

whole : (c : goal.After-self-1) → HasEntries c.args.self.now.kinds (lowered (entry c.args.self.now) c.args.i c.args.j c.args.bound)
    (record { kinds = c.args.self.now.kinds; kept = (with_items c.self.inside.entries c.lower_kept-2.new.entries).items })
whole c =
    let h : IsMatrix c.args.self.now = subst IsMatrix c.self.view_is c.self.invariant in
    let v : c.as_mut_slice-entries.result.now ≡ c.self.inside.entries.items = c.as_mut_slice-entries.ensures.value in
    let e : c.as_mut_slice-entries.result.now ≡ c.args.self.now.kept = v ∙ ap (λ (m : HalfMatrix). m.kept) c.self.view_is in
    let first : c.lower_kept.new.entries ≡ lower_pair c.as_mut_slice-entries.result.now c.args.i c.args.j c.args.bound = rw (to_z-of_z w128 c.args.bound c.ranges.bound) at c.lower_kept.ensures.lowered in
    let second : c.lower_kept-2.new.entries ≡ lower_pair c.lower_kept.new.entries c.other_sign.result c.other_sign-2.result c.args.bound = rw (to_z-of_z w128 c.args.bound c.ranges.bound) at c.lower_kept-2.ensures.lowered in
    let ws : c.lower_kept-2.new.entries ≡ lower_pair (lower_pair c.args.self.now.kept c.args.i c.args.j c.args.bound) (flip c.args.j) (flip c.args.i) c.args.bound =
    second
    ∙ ap (λ k. lower_pair c.lower_kept.new.entries k c.other_sign-2.result c.args.bound) c.other_sign.ensures.flipped
    ∙ ap (λ k. lower_pair c.lower_kept.new.entries (flip c.args.j) k c.args.bound) c.other_sign-2.ensures.flipped
    ∙ ap (λ k. lower_pair k (flip c.args.j) (flip c.args.i) c.args.bound) (first ∙ ap (λ k. lower_pair k c.args.i c.args.j c.args.bound) e) in
    let l : length c.lower_kept-2.new.entries ≡ c.self.inside.entries.len =
    ap length ws ∙ length-lower_pair (lower_pair c.args.self.now.kept c.args.i c.args.j c.args.bound) (flip c.args.j) (flip c.args.i) c.args.bound
    ∙ length-lower_pair c.args.self.now.kept c.args.i c.args.j c.args.bound ∙ sym (ap length e) ∙ c.as_mut_slice-entries.ensures.len in
    HasEntries-lowered c.args.self.now c.args.i c.args.j c.args.bound (with_items c.self.inside.entries c.lower_kept-2.new.entries).items h c.requires.row c.requires.column
    (with_items_is c.self.inside.entries c.lower_kept-2.new.entries l ∙ ws)

pub invariant_of-self : goal.invariant_of-self
invariant_of-self c =
    let k : c.self.inside.kinds.items ≡ c.args.self.now.kinds = ap (λ (m : HalfMatrix). m.kinds) c.self.view_is in
    subst (λ (k : List Bool). IsMatrix (record { kinds = k; kept = (with_items c.self.inside.entries c.lower_kept-2.new.entries).items })) (sym k) (whole c).matrix

pub returns : goal.returns
returns c =
    let k : c.self.inside.kinds.items ≡ c.args.self.now.kinds = ap (λ (m : HalfMatrix). m.kinds) c.self.view_is in
    let m : HalfMatrix = record { kinds = c.self.inside.kinds.items; kept = (with_items c.self.inside.entries c.lower_kept-2.new.entries).items } in
    let h : HasEntries c.args.self.now.kinds (lowered (entry c.args.self.now) c.args.i c.args.j c.args.bound) m =
    subst (λ (k : List Bool). HasEntries c.args.self.now.kinds (lowered (entry c.args.self.now) c.args.i c.args.j c.args.bound) (record { kinds = k; kept = (with_items c.self.inside.entries c.lower_kept-2.new.entries).items })) (sym k) (whole c) in
    record {
      entries = h;
      adds_bound = AddsBound-entries c.args.self.now c.args.i c.args.j c.args.bound m c.requires.row c.requires.column h;
      diagonal = λ z. IsZeroAtMost-entries c.args.self.now.kinds (lowered (entry c.args.self.now) c.args.i c.args.j c.args.bound) m h
          (lowered-diagonal (entry c.args.self.now) c.args.i c.args.j c.args.bound (nodes c.args.self.now) z);
      within = λ b p q. AreWithin-entries c.args.self.now.kinds (lowered (entry c.args.self.now) c.args.i c.args.j c.args.bound) m b h
          (lowered-within (entry c.args.self.now) c.args.i c.args.j c.args.bound (nodes c.args.self.now) b p q);
    }

use Rattle.std.proofs.Common.{arith, ◌≡◌, ◌<◌, ◌+◌, ◌*◌, ◌∙◌, ap, subst, sym, length, get_or, None, ℕ}
use Rattle.std.specs.Vec.{with_items}
use Rattle.std.proofs.lemmas.List.{with_items_is}
use Rattle.dbm_core.proofs.HalfLemmas.{entry-kept, row_start-double}
use Rattle.dbm_core.proofs.SlotLemmas.{IsMatrix-updated_slot}
use Rattle.dbm_core.proofs.UpdateLemmas.{updated-kept}
use Rattle.dbm_core.specs.Half.{HalfMatrix, IsMatrix, entry, nodes, row_start, row_width}
use Rattle.dbm_core.specs.Nodes.{IsOfSlot}
use Rattle.dbm_core.proofs.matrix.Matrix.update_slot.Goals as goal
use Rattle.dbm_core.proofs.matrix.Matrix.update_slot.Given.{Over}

pub update_slot_kept-requires-clause-size : goal.update_slot_kept-requires-clause-size
update_slot_kept-requires-clause-size g c =
    let h : IsMatrix c.args.self.now = subst IsMatrix c.self.view_is c.self.invariant in
    let e : c.as_mut_slice-entries.result.now ≡ c.args.self.now.kept = c.as_mut_slice-entries.ensures.value ∙ ap (λ (m : HalfMatrix). m.kept) c.self.view_is in
    let k : c.self.inside.kinds.items ≡ c.args.self.now.kinds = ap (λ (m : HalfMatrix). m.kinds) c.self.view_is in
    let n : length c.args.self.now.kinds ≡ c.len-slots.result = omega (arith, ap length k) in
    ap length e ∙ h.fits ∙ sym (row_start-double (length c.args.self.now.kinds)) ∙ ap (λ n. row_start (2 * n)) n

pub update_slot_kept-requires-clause-callable : goal.update_slot_kept-requires-clause-callable
update_slot_kept-requires-clause-callable g c = λ i j l w s.
    let e : c.as_mut_slice-entries.result.now ≡ c.args.self.now.kept = c.as_mut_slice-entries.ensures.value ∙ ap (λ (m : HalfMatrix). m.kept) c.self.view_is in
    let k : c.self.inside.kinds.items ≡ c.args.self.now.kinds = ap (λ (m : HalfMatrix). m.kinds) c.self.view_is in
    subst (λ b. goal.F-pre g c.args.value i j b) (entry-kept c.args.self.now i j w ∙ ap (λ v. get_or v (row_start i + j) None) (sym e))
    (c.requires.callable i j (omega (arith, ap length k)) w s)

-- the new matrix
abbrev fresh : (g : Over) (c : goal.After-self-1 g) → HalfMatrix
fresh g c = record { kinds = c.self.inside.kinds.items; kept = (with_items c.self.inside.entries c.update_slot_kept.new.entries).items }

new_items : (g : Over) (c : goal.After-self-1 g) → (fresh g c).kept ≡ c.update_slot_kept.new.entries
new_items g c = with_items_is c.self.inside.entries c.update_slot_kept.new.entries (c.update_slot_kept.ensures.size ∙ c.as_mut_slice-entries.ensures.len)

changed : (g : Over) (c : goal.After-self-1 g) (i j : ℕ) → i < nodes c.args.self.now → j < row_width i → IsOfSlot c.args.slot i j → goal.F-post g c.args.value i j (entry c.args.self.now i j) (entry (fresh g c) i j)
changed g c i j l w s =
    let e : c.as_mut_slice-entries.result.now ≡ c.args.self.now.kept = c.as_mut_slice-entries.ensures.value ∙ ap (λ (m : HalfMatrix). m.kept) c.self.view_is in
    let k : c.self.inside.kinds.items ≡ c.args.self.now.kinds = ap (λ (m : HalfMatrix). m.kinds) c.self.view_is in
    updated-kept (λ i j x y. goal.F-post g c.args.value i j x y) c.args.self.now (fresh g c) c.as_mut_slice-entries.result.now c.update_slot_kept.new.entries e (new_items g c) i j w
    (c.update_slot_kept.ensures.changed i j (omega (arith, ap length k)) w s)

rest : (g : Over) (c : goal.After-self-1 g) (i j : ℕ) → i < nodes c.args.self.now → j < row_width i → (IsOfSlot c.args.slot i j → ⊥) → entry (fresh g c) i j ≡ entry c.args.self.now i j
rest g c i j l w s =
    let e : c.as_mut_slice-entries.result.now ≡ c.args.self.now.kept = c.as_mut_slice-entries.ensures.value ∙ ap (λ (m : HalfMatrix). m.kept) c.self.view_is in
    let k : c.self.inside.kinds.items ≡ c.args.self.now.kinds = ap (λ (m : HalfMatrix). m.kinds) c.self.view_is in
    updated-kept (λ i j x y. y ≡ x) c.args.self.now (fresh g c) c.as_mut_slice-entries.result.now c.update_slot_kept.new.entries e (new_items g c) i j w
    (c.update_slot_kept.ensures.rest i j (omega (arith, ap length k)) w s)

whole : (g : Over) (c : goal.After-self-1 g) → IsMatrix (fresh g c)
whole g c =
    let h : IsMatrix c.args.self.now = subst IsMatrix c.self.view_is c.self.invariant in
    let e : c.as_mut_slice-entries.result.now ≡ c.args.self.now.kept = c.as_mut_slice-entries.ensures.value ∙ ap (λ (m : HalfMatrix). m.kept) c.self.view_is in
    let k : c.self.inside.kinds.items ≡ c.args.self.now.kinds = ap (λ (m : HalfMatrix). m.kinds) c.self.view_is in
    IsMatrix-updated_slot (λ i j x y. goal.F-post g c.args.value i j x y) c.args.slot c.args.self.now (fresh g c) h k (ap length (new_items g c) ∙ c.update_slot_kept.ensures.size ∙ ap length e) (changed g c) (rest g c)
    c.requires.diagonal

pub invariant_of-self : goal.invariant_of-self
invariant_of-self g c = whole g c

pub returns-clause-matrix : goal.returns-clause-matrix
returns-clause-matrix g c = whole g c

pub returns-clause-changed : goal.returns-clause-changed
returns-clause-changed g c = changed g c

pub returns-clause-rest : goal.returns-clause-rest
returns-clause-rest g c = rest g c

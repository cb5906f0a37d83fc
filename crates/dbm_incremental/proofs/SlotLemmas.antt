-- What agrees with a closed matrix but at one slot: steps 2 to 6 change nothing else.
use Rattle.std.specs.Prelude.{◌≡◌, ℕ, ◌<◌, ◌+◌, ◌*◌, ◌/◌, ◌^◌, ℤ, pos, neg_ℤ, ◌+ℤ◌, ◌-ℤ◌, ◌≤ℤ◌, Option, Some, None, Bool, true, false, cond, int_lt, length, slice_index_or, refl}
use Rattle.std.specs.Int.{int_rem_euclid}
use Rattle.std.proofs.Common.{arith, ap, sym, ◌∙◌, subst, inl, inr}
use Rattle.std.proofs.lemmas.Int.{ints}
use Rattle.dbm_close.proofs.HalvesLemmas.{even-number, halved, strong-entry}
use Rattle.dbm_close.specs.Close.{closed_entry, slot_high, slot_low, strong}
use Rattle.dbm_close.specs.Finish.{IsFinishedBut}
use Rattle.dbm_close.specs.Steps.{cut, even_down, half, range_high, range_low, tightened}
use Rattle.dbm_core.proofs.HalfLemmas.{HasEntries-from_kept}
use Rattle.dbm_core.proofs.NodeLemmas.{flip_below, flip-flip, flip-half}
use Rattle.dbm_core.proofs.SlotLemmas.{of_slot, neither}
use Rattle.dbm_core.proofs.WeightLemmas.{AtMost-both, AtMost-refl, AtMost-trans}
use Rattle.dbm_core.specs.Half.{HalfMatrix, HasEntries, IsMatrix, entry, nodes, row_width}
use Rattle.dbm_core.specs.Nodes.{IsOfSlot, flip, is_single}
use Rattle.dbm_core.specs.Weights.{AtMost, add_weight, least}
use Rattle.dbm_incremental.proofs.ClosedLemmas.{cut-above, strong-above}
use Rattle.dbm_incremental.proofs.MoveLemmas.{whole-strong}
use Rattle.dbm_incremental.proofs.StandLemmas.{node-other, shift-other, stood-strong}
use Rattle.dbm_incremental.specs.ClosedMatrices.{IsClosed, IsStrong, IsWhole}
use Rattle.dbm_incremental.specs.Equations.{stand_node, stand_shift, stood_entry}
use Rattle.dbm_incremental.proofs.TightLemmas.{halves_below}

cut-twice : (a : Option ℤ) → cut (cut a) ≡ cut a
cut-twice None = refl
cut-twice (Some x) = by (int_lt x (pos (2 ^ 64))) refl
  where
    by : (t : Bool) → int_lt x (pos (2 ^ 64)) ≡ t → cut (cond t (Some x) None) ≡ cond t (Some x) None
    by true e = rw e refl
    by false e = refl

-- steps 2 and 4 leave a strong matrix as it is
strong-same : (u : ℕ → ℕ → Option ℤ) (k : ℕ) → IsStrong (2 * k) u → (i j : ℕ) → i < 2 * k → j < 2 * k → strong u i j ≡ u i j
strong-same u k s i j hi hj = AtMost-both (strong u i j) (u i j) (strong-entry u i j) (strong-above u u k s (λ a b ha hb. AtMost-refl (u a b)) i j hi hj)

-- even bounds leave a number where their halves do
halves-sound : (a b : Option ℤ) → even_down a ≡ a → even_down b ≡ b → AtMost (Some (pos 0)) (add_weight a b) → AtMost (Some (pos 0)) (add_weight (half a) (half b))
halves-sound None b p q h = tt
halves-sound (Some x) None p q h = tt
halves-sound (Some x) (Some y) p q h =
    let e : x -ℤ int_rem_euclid x (pos 2) ≡ x = cc in
    let f : y -ℤ int_rem_euclid y (pos 2) ≡ y = cc in
    halves_below (halved x) (halved y) x y (sym e ∙ even-number x) (sym f ∙ even-number y) h

flip-apart : (q i : ℕ) → (i / 2 ≡ q → ⊥) → flip i / 2 ≡ q → ⊥
flip-apart q i n e = n (sym (flip-half i) ∙ e)

pub finished-but : (m : HalfMatrix) (f : ℕ → ℕ → Option ℤ) (q : ℕ) → IsClosed m → IsWhole m → ((i j : ℕ) → i < nodes m → j < nodes m → (IsOfSlot q i j → ⊥) → f i j ≡ entry m i j) → IsFinishedBut q m.kinds f
finished-but m f q c w same = record {
  consistent = λ i hi n. subst (λ v. AtMost (Some (pos 0)) (add_weight (half v) (half (f (flip i) i)))) (sym (same i (flip i) hi (fl i hi) (neither q i (flip i) n (flip-apart q i n))))
      (subst (λ v. AtMost (Some (pos 0)) (add_weight (half (entry m i (flip i))) (half v))) (sym (same (flip i) i (fl i hi) hi (neither q (flip i) i (flip-apart q i n) n)))
      (halves-sound (entry m i (flip i)) (entry m (flip i) i) (s.evens i hi)
      (subst (λ k. even_down (entry m (flip i) k) ≡ entry m (flip i) k) (flip-flip i) (s.evens (flip i) (fl i hi)))
      (subst (λ v. AtMost v (add_weight (entry m i (flip i)) (entry m (flip i) i))) (s.diagonal i hi) (s.triangles i (flip i) i hi (fl i hi) hi))));
  entries = λ i j hi hj n. ap cut (strong-is i j hi hj n) ∙ cut-same i j hi hj ∙ sym (same i j hi hj n);
  in_range = λ i j hi hj n. subst (λ v. AtMost (Some (neg_ℤ (pos (2 ^ 64)))) v) (sym (strong-is i j hi hj n ∙ c.1.entries i j hi hj))
      (AtMost-trans (Some (neg_ℤ (pos (2 ^ 64)))) (c.0 i j) (cut (c.0 i j)) (c.1.in_range i j hi hj) (cut-above (c.0 i j)));
  ranges = λ k hk n. (let high : closed_entry f (2 * k + 1) (2 * k) ≡ entry m (2 * k + 1) (2 * k) = own (2 * k + 1) (2 * k) k hk (omega arith) (omega arith) n in
      let low : closed_entry f (2 * k) (2 * k + 1) ≡ entry m (2 * k) (2 * k + 1) = own (2 * k) (2 * k + 1) k hk (omega arith) (omega arith) n in
      subst (λ x. slot_low m.kinds (closed_entry f) k ≤ℤ range_high (slice_index_or m.kinds k false) x) (sym high)
      (subst (λ x. range_low (slice_index_or m.kinds k false) x ≤ℤ slot_high m.kinds (entry m) k) (sym low) (c.1.ranges k hk)));
}
  where
    s : IsStrong (nodes m) (entry m)
    s = whole-strong m c w

    fl : (i : ℕ) → i < nodes m → flip i < nodes m
    fl i hi = flip_below i (length m.kinds) hi

    tight : (i j : ℕ) → f i j ≡ entry m i j → tightened f i j ≡ tightened (entry m) i j
    tight i j e = ap (λ x. cond (is_single i j) (even_down x) x) e

    agree : (i j : ℕ) → i < nodes m → j < nodes m → (i / 2 ≡ q → ⊥) → (j / 2 ≡ q → ⊥) → strong f i j ≡ strong (entry m) i j
    agree i j hi hj n k =
        ap (λ x. least x (half (add_weight (tightened f i (flip i)) (tightened f (flip j) j)))) (tight i j (same i j hi hj (neither q i j n k)))
        ∙ ap (λ x. least (tightened (entry m) i j) (half (add_weight x (tightened f (flip j) j)))) (tight i (flip i) (same i (flip i) hi (fl i hi) (neither q i (flip i) n (flip-apart q i n))))
        ∙ ap (λ x. least (tightened (entry m) i j) (half (add_weight (tightened (entry m) i (flip i)) x))) (tight (flip j) j (same (flip j) j (fl j hj) hj (neither q (flip j) j (flip-apart q j k) k)))

    strong-is : (i j : ℕ) → i < nodes m → j < nodes m → (IsOfSlot q i j → ⊥) → strong f i j ≡ entry m i j
    strong-is i j hi hj n = agree i j hi hj (λ e. n (inl e)) (λ e. n (inr e)) ∙ strong-same (entry m) (length m.kinds) s i j hi hj

    cut-same : (i j : ℕ) → i < nodes m → j < nodes m → cut (entry m i j) ≡ entry m i j
    cut-same i j hi hj = ap cut (c.1.entries i j hi hj) ∙ cut-twice (c.0 i j) ∙ sym (c.1.entries i j hi hj)

    own : (i j k : ℕ) → k < length m.kinds → i / 2 ≡ k → j / 2 ≡ k → (k ≡ q → ⊥) → closed_entry f i j ≡ entry m i j
    own i j k hk e g n = ap cut (strong-is i j (omega arith) (omega arith) (neither q i j (λ h. n (sym e ∙ h)) (λ h. n (sym g ∙ h)))) ∙ cut-same i j (omega arith) (omega arith)

-- ---- an equation

outside-even : (q i : ℕ) → (i / 2 ≡ q → ⊥) → i ≡ 2 * q → ⊥
outside-even q i n e = n (omega arith)

outside-odd : (q i : ℕ) → (i / 2 ≡ q → ⊥) → i ≡ 2 * q + 1 → ⊥
outside-odd q i n e = n (omega arith)

-- a weight with no shift added
pub nothing_added : (v : Option ℤ) → add_weight v (Some (pos 0 -ℤ pos 0)) ≡ v
nothing_added None = refl
nothing_added (Some v) = ap Some (zero-more v)
  where
    zero-more : (v : ℤ) → v +ℤ (pos 0 -ℤ pos 0) ≡ v
    zero-more v = omega (arith, ints)

-- the bounds on other slots stay
pub stood-rest : (d : ℕ → ℕ → Option ℤ) (q y : ℕ) (c : ℤ) (i j : ℕ) → (IsOfSlot q i j → ⊥) → stood_entry d q y c i j ≡ d i j
stood-rest d q y c i j n =
    ap (λ a. add_weight (d a (stand_node q y j)) (Some (stand_shift q c j -ℤ stand_shift q c i))) (node-other q y i ie io)
    ∙ ap (λ a. add_weight (d i a) (Some (stand_shift q c j -ℤ stand_shift q c i))) (node-other q y j je jo)
    ∙ ap (λ a. add_weight (d i j) (Some (a -ℤ stand_shift q c i))) (shift-other q c j je jo)
    ∙ ap (λ a. add_weight (d i j) (Some (pos 0 -ℤ a))) (shift-other q c i ie io)
    ∙ nothing_added (d i j)
  where
    ie : i ≡ 2 * q → ⊥
    ie = outside-even q i (λ e. n (inl e))

    io : i ≡ 2 * q + 1 → ⊥
    io = outside-odd q i (λ e. n (inl e))

    je : j ≡ 2 * q → ⊥
    je = outside-even q j (λ e. n (inr e))

    jo : j ≡ 2 * q + 1 → ⊥
    jo = outside-odd q j (λ e. n (inr e))

pub stood-updated : (m u : HalfMatrix) (q y : ℕ) (c : ℤ) → y < nodes m → IsStrong (nodes m) (entry m) → IsMatrix u → u.kinds ≡ m.kinds →
    ((i j : ℕ) → i < nodes m → j < row_width i → IsOfSlot q i j → entry u i j ≡ stood_entry (entry m) q y c i j) →
    ((i j : ℕ) → i < nodes m → j < row_width i → (IsOfSlot q i j → ⊥) → entry u i j ≡ entry m i j) → HasEntries m.kinds (stood_entry (entry m) q y c) u
stood-updated m u q y c hy s t k changed rest = HasEntries-from_kept m.kinds (stood_entry (entry m) q y c) u t k (stood-strong (entry m) (length m.kinds) q y c hy s).coherent (λ i j hi w. elim (of_slot q i j) [
  | inl o ↦ changed i j hi w o
  | inr n ↦ rest i j hi w n ∙ sym (stood-rest (entry m) q y c i j n)
])

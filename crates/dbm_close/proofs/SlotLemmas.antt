-- Steps 2 to 6 where they change the bounds on one slot alone.
use Rattle.std.specs.Prelude.{◌≡◌, ℕ, ◌<◌, ◌+◌, ◌*◌, ◌/◌, ◌%◌, ◌^◌, ℤ, pos, negsuc, neg_ℤ, ◌≤ℤ◌, ◌<ℤ◌, Option, Some, None, Bool, false, ◌⊎◌, List, length, slice_index_or}
use Rattle.std.proofs.Common.{arith, ap, sym, ◌∙◌, subst, inl, inr, get_or}
use Rattle.std.proofs.lemmas.Bool.{cases_eq}
use Rattle.dbm_close.proofs.FinishLemmas.{cut-high, cut-low}
use Rattle.dbm_close.proofs.HalvesLemmas.{fused-consistent, fused-entries, halved_bound-strong, halves-contradictory, pair-halves}
use Rattle.dbm_close.proofs.StrongLemmas.{strengthened-coherent, tightened-coherent}
use Rattle.dbm_close.specs.Close.{HasEmptyRange, HasNoEmptyRange, IsContradictory, IsNotContradictory, IsNotTooLow, IsTooLow, closed_entry, slot_high, slot_low, strong}
use Rattle.dbm_close.specs.Halves.{HasHalves, HasLowPair, HasNoLowPair, halved_bound}
use Rattle.dbm_close.specs.Steps.{cut, half, range_high, range_low, tightened}
use Rattle.dbm_core.proofs.NodeLemmas.{flip_below, flip-even, flip-flip, flip-half, parity}
use Rattle.dbm_core.proofs.SlotLemmas.{of_slot}
use Rattle.dbm_core.proofs.WeightLemmas.{add_weight-comm}
use Rattle.dbm_core.specs.Half.{HalfMatrix, HasEntries, IsMatrix, entry, nodes, row_width}
use Rattle.dbm_core.specs.Nodes.{IsCoherent, IsOfSlot, flip}
use Rattle.dbm_core.specs.Weights.{AtMost, add_weight}

-- a slot's two nodes
node-of : (i q : ℕ) → i / 2 ≡ q → (i ≡ 2 * q) ⊎ (i ≡ 2 * q + 1)
node-of i q e = elim (parity i) [ inl p ↦ inl (omega arith) | inr p ↦ inr (omega arith) ]

pub even-flip : (q : ℕ) → flip (2 * q) ≡ 2 * q + 1
even-flip q = let e : (2 * q) % 2 ≡ 0 = omega arith in flip-even (2 * q) e

pub odd-flip : (q : ℕ) → flip (2 * q + 1) ≡ 2 * q
odd-flip q = ap flip (sym (even-flip q)) ∙ flip-flip (2 * q)

-- ---- step 3

pub slot-contradictory : (d : ℕ → ℕ → Option ℤ) (h q : ℕ) (v : List (Option ℤ)) → HasHalves (2 * h) d v → q < h → AtMost (add_weight (get_or v (2 * q) None) (get_or v (2 * q + 1) None)) (Some (negsuc 0)) → IsContradictory (2 * h) (tightened d)
slot-contradictory d h q v p l z = halves-contradictory d h v p (2 * q, (omega arith, subst (λ k. AtMost (add_weight (get_or v (2 * q) None) (get_or v k None)) (Some (negsuc 0))) (sym (even-flip q)) z))

pub slot-consistent : (d : ℕ → ℕ → Option ℤ) (h q : ℕ) (v : List (Option ℤ)) → HasHalves (2 * h) d v → q < h → AtMost (Some (pos 0)) (add_weight (get_or v (2 * q) None) (get_or v (2 * q + 1) None)) →
    ((i : ℕ) → i < 2 * h → (i / 2 ≡ q → ⊥) → AtMost (Some (pos 0)) (add_weight (half (d i (flip i))) (half (d (flip i) i)))) → IsNotContradictory (2 * h) (tightened d)
slot-consistent d h q v p l z rest = fused-consistent d h (λ i hi. elim (cases_eq (i / 2) q) [
  | inl e ↦ subst (λ x. AtMost (Some (pos 0)) x) (pair-halves d h v p i hi) (own i (node-of i q e))
  | inr e ↦ rest i hi e
])
  where
    own : (i : ℕ) → (i ≡ 2 * q) ⊎ (i ≡ 2 * q + 1) → AtMost (Some (pos 0)) (add_weight (get_or v i None) (get_or v (flip i) None))
    own i (inl e) = subst (λ k. AtMost (Some (pos 0)) (add_weight (get_or v k None) (get_or v (flip k) None))) (sym e)
        (subst (λ k. AtMost (Some (pos 0)) (add_weight (get_or v (2 * q) None) (get_or v k None))) (sym (even-flip q)) z)
    own i (inr e) = subst (λ k. AtMost (Some (pos 0)) (add_weight (get_or v k None) (get_or v (flip k) None))) (sym e)
        (subst (λ k. AtMost (Some (pos 0)) (add_weight (get_or v (2 * q + 1) None) (get_or v k None))) (sym (odd-flip q))
        (subst (λ x. AtMost (Some (pos 0)) x) (add_weight-comm (get_or v (2 * q) None) (get_or v (2 * q + 1) None)) z))

-- ---- steps 2, 4 and 5

pub slot-entries : (m r : HalfMatrix) (q : ℕ) (v : List (Option ℤ)) → IsMatrix m → IsMatrix r → r.kinds ≡ m.kinds → HasHalves (nodes m) (entry m) v →
    ((i j : ℕ) → i < nodes m → j < row_width i → IsOfSlot q i j → entry r i j ≡ cut (halved_bound v i j (entry m i j))) →
    ((i j : ℕ) → i < nodes m → j < row_width i → (IsOfSlot q i j → ⊥) → entry r i j ≡ entry m i j) →
    ((i j : ℕ) → i < nodes m → j < nodes m → (IsOfSlot q i j → ⊥) → closed_entry (entry m) i j ≡ entry m i j) → HasEntries m.kinds (closed_entry (entry m)) r
slot-entries m r q v im ir e p changed rest same = fused-entries m r v im ir e p (λ i j hi w. elim (of_slot q i j) [
  | inl s ↦ changed i j hi w s
  | inr n ↦ let hj : j < nodes m = omega arith in
      rest i j hi w n ∙ sym (same i j hi hj n) ∙ ap cut (sym (halved_bound-strong (entry m) (length m.kinds) v p i j hi hj))
])

pub slot-low : (kinds : List Bool) (f : ℕ → ℕ → Option ℤ) (r : HalfMatrix) (q : ℕ) → HasEntries kinds (closed_entry f) r → q < length kinds → HasLowPair (2 * length kinds) (entry r) q → IsTooLow (2 * length kinds) (strong f)
slot-low kinds f r q h l (i, (hi, inl z)) = (i, 2 * q, (hi, omega arith, cut-low (strong f i (2 * q)) (subst (λ x. AtMost x (Some (negsuc (2 ^ 64)))) (h.entries i (2 * q) hi (omega arith)) z)))
slot-low kinds f r q h l (i, (hi, inr z)) = (i, 2 * q + 1, (hi, omega arith, cut-low (strong f i (2 * q + 1)) (subst (λ x. AtMost x (Some (negsuc (2 ^ 64)))) (h.entries i (2 * q + 1) hi (omega arith)) z)))

pub slot-in_range : (kinds : List Bool) (f : ℕ → ℕ → Option ℤ) (r : HalfMatrix) (q : ℕ) → IsCoherent f (2 * length kinds) → HasEntries kinds (closed_entry f) r → q < length kinds → HasNoLowPair (2 * length kinds) (entry r) q →
    ((i j : ℕ) → i < 2 * length kinds → j < 2 * length kinds → (IsOfSlot q i j → ⊥) → AtMost (Some (neg_ℤ (pos (2 ^ 64)))) (strong f i j)) → IsNotTooLow (2 * length kinds) (strong f)
slot-in_range kinds f r q c h l low rest i j hi hj = elim (of_slot q i j) [
  | inl s ↦ by s
  | inr n ↦ rest i j hi hj n
]
  where
    u : ℕ → ℕ → Option ℤ
    u = strong f

    coherent : IsCoherent (strong f) (2 * length kinds)
    coherent = strengthened-coherent (tightened f) (length kinds) (tightened-coherent f (2 * length kinds) c)

    at_node : (i j : ℕ) → i < 2 * length kinds → (j ≡ 2 * q) ⊎ (j ≡ 2 * q + 1) → AtMost (Some (neg_ℤ (pos (2 ^ 64)))) (strong f i j)
    at_node i j hi (inl e) = subst (λ k. AtMost (Some (neg_ℤ (pos (2 ^ 64)))) (strong f i k)) (sym e)
        (cut-high (strong f i (2 * q)) (subst (λ x. AtMost (Some (neg_ℤ (pos (2 ^ 64)))) x) (h.entries i (2 * q) hi (omega arith)) (low i hi).0))
    at_node i j hi (inr e) = subst (λ k. AtMost (Some (neg_ℤ (pos (2 ^ 64)))) (strong f i k)) (sym e)
        (cut-high (strong f i (2 * q + 1)) (subst (λ x. AtMost (Some (neg_ℤ (pos (2 ^ 64)))) x) (h.entries i (2 * q + 1) hi (omega arith)) (low i hi).1))

    by : IsOfSlot q i j → AtMost (Some (neg_ℤ (pos (2 ^ 64)))) (strong f i j)
    by (inr e) = at_node i j hi (node-of j q e)
    by (inl e) = subst (λ x. AtMost (Some (neg_ℤ (pos (2 ^ 64)))) x) (sym (coherent i j hi hj))
        (at_node (flip j) (flip i) (flip_below j (length kinds) hj) (node-of (flip i) q (flip-half i ∙ e)))

-- ---- step 6

pub slot-empty : (kinds : List Bool) (f : ℕ → ℕ → Option ℤ) (r : HalfMatrix) (q : ℕ) → HasEntries kinds (closed_entry f) r → q < length kinds → slot_high r.kinds (entry r) q <ℤ slot_low r.kinds (entry r) q → HasEmptyRange kinds (closed_entry f)
slot-empty kinds f r q h l z = (
  q,
  (
    l,
    subst (λ x. range_high (slice_index_or kinds q false) x <ℤ slot_low kinds (closed_entry f) q) (h.entries (2 * q + 1) (2 * q) (omega arith) (omega arith))
        (subst (λ x. slot_high kinds (entry r) q <ℤ range_low (slice_index_or kinds q false) x) (h.entries (2 * q) (2 * q + 1) (omega arith) (omega arith))
        (subst (λ k. slot_high k (entry r) q <ℤ slot_low k (entry r) q) h.same_kinds z)),
  ),
)

pub slot-ranges : (kinds : List Bool) (f : ℕ → ℕ → Option ℤ) (r : HalfMatrix) (q : ℕ) → HasEntries kinds (closed_entry f) r → q < length kinds → slot_low r.kinds (entry r) q ≤ℤ slot_high r.kinds (entry r) q →
    ((k : ℕ) → k < length kinds → (k ≡ q → ⊥) → slot_low kinds (closed_entry f) k ≤ℤ slot_high kinds (closed_entry f) k) → HasNoEmptyRange kinds (closed_entry f)
slot-ranges kinds f r q h l z rest k hk = elim (cases_eq k q) [
  | inl e ↦ subst (λ k. slot_low kinds (closed_entry f) k ≤ℤ slot_high kinds (closed_entry f) k) (sym e)
      (subst (λ x. slot_low kinds (closed_entry f) q ≤ℤ range_high (slice_index_or kinds q false) x) (h.entries (2 * q + 1) (2 * q) (omega arith) (omega arith))
      (subst (λ x. range_low (slice_index_or kinds q false) x ≤ℤ slot_high kinds (entry r) q) (h.entries (2 * q) (2 * q + 1) (omega arith) (omega arith))
      (subst (λ k. slot_low k (entry r) q ≤ℤ slot_high k (entry r) q) h.same_kinds z)))
  | inr e ↦ rest k hk e
]

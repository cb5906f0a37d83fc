-- A frame that is entered obeys the triangle law where the caller's matrix does: the slots that are copied keep it, those of no
-- source are 0, and each that has a range stands alone.
use Rattle.std.specs.Prelude.{◌≡◌, ℕ, ◌<◌, ◌≤◌, ◌+◌, ◌*◌, ◌/◌, ℤ, pos, neg_ℤ, ◌+ℤ◌, ◌≤ℤ◌, Option, Some, None, Bool, true, false, if◌then◌else◌, List, [], ◌∷◌, length, slice_get, refl}
use Rattle.std.proofs.Common.{arith, suc, zero, ap, sym, ◌∙◌, subst, inl, inr, zero-add}
use Rattle.std.proofs.lemmas.Bool.{cases_eq, cases_lt}
use Rattle.std.proofs.lemmas.Int.{ints}
use Rattle.dbm_core.proofs.TableLemmas.{tables-have_entries}
use Rattle.dbm_core.proofs.WeightLemmas.{AtMost-trans, add_weight-mono}
use Rattle.dbm_core.specs.Half.{HalfMatrix, HasEntries, IsMatrix, entry}
use Rattle.dbm_core.specs.Limits.{HasZeroDiagonal}
use Rattle.dbm_core.specs.Nodes.{flip}
use Rattle.dbm_core.specs.Operations.{lowered}
use Rattle.dbm_core.specs.Tables.{matrix_of}
use Rattle.dbm_core.specs.Weights.{AtMost, add_weight}
use Rattle.dbm_incremental.proofs.BlockLemmas.{single-triangles}
use Rattle.dbm_incremental.proofs.MoveLemmas.{blocks-triangular}
use Rattle.dbm_incremental.specs.ClosedMatrices.{IsClosed, IsWhole}
use Rattle.num_bounds.specs.Bounds.{Bounds}
use Rattle.dom_octagon_meaning.proofs.Calls.{entered-coherent}
use Rattle.dom_octagon_meaning.proofs.Exact.{range-outside}
use Rattle.dom_octagon_meaning.specs.declared.source.ArgumentSource.{ArgumentSource}
use Rattle.dom_octagon_meaning.specs.declared.source.ArgumentSource.TheVariants.{FromSlot, InRange}
use Rattle.dom_octagon_meaning.specs.Matrices.{is_beyond, meets_end, meets_range, with_greatest}
use Rattle.dom_octagon_meaning.specs.Operations.{copied, entered, meet_sources}
use Rattle.dom_octagon.proofs.Bounds.{bound-entries}
use Rattle.dom_octagon.proofs.Copies.{IsRanged, block, copied-none, copies-triangular, copy-block, entered-copied, entered-same, range-block, source_block, zero-block}
use Rattle.dom_octagon.proofs.Triangles.{entries-obey, single-least, single-miss}
use Rattle.dom_octagon_states.specs.Limits.{ObeysTriangles}
use Rattle.dom_octagon.specs.Lists.{AreOrdered}
use Rattle.dbm_close.proofs.SlotLemmas.{even-flip, odd-flip}
use Rattle.dbm_incremental.proofs.KeepLemmas.{add_zero}

-- ---- ranges that are met

-- the own bounds of a slot leave the numbers of its range
abbrev Leaves : Option ArgumentSource → Option ℤ → Option ℤ → Type 0
Leaves (Some (FromSlot x)) a b = Unit {0}
Leaves None a b = Unit {0}
Leaves (Some (InRange r)) a b = AtMost (Some (r.hi +ℤ r.hi)) a × AtMost (Some (neg_ℤ r.lo +ℤ neg_ℤ r.lo)) b

leaves-none : (s : Option ArgumentSource) (a b : Option ℤ) → a ≡ None → b ≡ None → Leaves s a b
leaves-none (Some (FromSlot x)) a b e f = tt
leaves-none None a b e f = tt
leaves-none (Some (InRange r)) a b e f = (subst (AtMost (Some (r.hi +ℤ r.hi))) (sym e) tt, subst (AtMost (Some (neg_ℤ r.lo +ℤ neg_ℤ r.lo))) (sym f) tt)

record IsEntered (m : HalfMatrix) (kinds : List Bool) (ss : List ArgumentSource) (w : HalfMatrix) : Type 0 where
  pub matrix : IsMatrix w
  pub same_kinds : w.kinds ≡ kinds
  pub rest : (i j : ℕ) → i < 2 * length kinds → j < 2 * length kinds → ((i ≡ j → ⊥) × ((i / 2 ≡ j / 2) × IsRanged (slice_get ss (i / 2))) → ⊥) → entry w i j ≡ entered m ss i j
  pub own : (k : ℕ) → k < length kinds → IsRanged (slice_get ss k) → Leaves (slice_get ss k) (entry w (2 * k + 1) (2 * k)) (entry w (2 * k) (2 * k + 1))

ranged-none : (m : HalfMatrix) (i j : ℕ) (s : Option ArgumentSource) → IsRanged s → copied m i j s s ≡ None
ranged-none m i j (Some (FromSlot x)) p = absurd p
ranged-none m i j None p = absurd p
ranged-none m i j (Some (InRange r)) p = refl

first-entered : (m : HalfMatrix) (kinds : List Bool) (ss : List ArgumentSource) → IsMatrix m → length kinds ≤ 16 → IsEntered m kinds ss (matrix_of kinds (entered m ss))
first-entered m kinds ss h few = record {
  matrix = e.matrix;
  same_kinds = e.same_kinds;
  rest = λ i j hi hj n. e.entries i j hi hj;
  own = λ k l p. leaves-none (slice_get ss k) (entry w (2 * k + 1) (2 * k)) (entry w (2 * k) (2 * k + 1)) (none k (2 * k + 1) (2 * k) l p (λ g. absurd (omega arith)) (omega arith) (omega arith)) (none k (2 * k) (2 * k + 1) l p (λ g. absurd (omega arith)) (omega arith) (omega arith));
}
  where
    w : HalfMatrix
    w = matrix_of kinds (entered m ss)

    e : HasEntries kinds (entered m ss) w
    e = tables-have_entries kinds (entered m ss) few (entered-coherent m h ss (2 * length kinds))

    none : (k i j : ℕ) → k < length kinds → IsRanged (slice_get ss k) → (i ≡ j → ⊥) → i / 2 ≡ k → j / 2 ≡ k → entry w i j ≡ None
    none k i j l p n a b = e.entries i j (omega arith) (omega arith) ∙ entered-copied m ss i j n ∙ ap (λ u. copied m i j (slice_get ss u) (slice_get ss (j / 2))) a ∙ ap (λ u. copied m i j (slice_get ss k) (slice_get ss u)) b ∙ ranged-none m i j (slice_get ss k) p

-- a node's own bound lowered, of a slot that has a range
module _ (m : HalfMatrix) (kinds : List Bool) (ss : List ArgumentSource) (k : ℕ) (r : Bounds) (l : k < length kinds) (s : slice_get ss k ≡ Some (InRange r)) where
  is_ranged : IsRanged (slice_get ss k)
  is_ranged = subst IsRanged (sym s) tt

  lowered-entered : (w : HalfMatrix) (i : ℕ) (c : ℤ) → i / 2 ≡ k → (flip i / 2 ≡ k) → (flip i ≡ i → ⊥) → IsEntered m kinds ss w →
      Leaves (Some (InRange r)) (entry (with_greatest w i c) (2 * k + 1) (2 * k)) (entry (with_greatest w i c) (2 * k) (2 * k + 1)) → IsEntered m kinds ss (with_greatest w i c)
  lowered-entered w i c a b d h v = record {
    matrix = e.matrix;
    same_kinds = e.same_kinds ∙ h.same_kinds;
    rest = λ x y hx hy n. at x y hx hy (λ p. n (own-pair x y p)) ∙ h.rest x y hx hy n;
    own = λ q g p. elim (cases_eq q k) [
      | inl f ↦ subst (λ z. Leaves (slice_get ss z) (entry (with_greatest w i c) (2 * z + 1) (2 * z)) (entry (with_greatest w i c) (2 * z) (2 * z + 1))) (sym f)
          (subst (λ z. Leaves z (entry (with_greatest w i c) (2 * k + 1) (2 * k)) (entry (with_greatest w i c) (2 * k) (2 * k + 1))) (sym s) v)
      | inr f ↦ subst (λ z. Leaves (slice_get ss q) z (entry (with_greatest w i c) (2 * q) (2 * q + 1))) (sym (at (2 * q + 1) (2 * q) (omega arith) (omega arith) (λ u. f (other q (2 * q) u.1 (omega arith)))))
          (subst (Leaves (slice_get ss q) (entry w (2 * q + 1) (2 * q))) (sym (at (2 * q) (2 * q + 1) (omega arith) (omega arith) (λ u. f (other q (2 * q + 1) u.1 (omega arith))))) (h.own q g p))
    ];
  }
    where
      size : length w.kinds ≡ length kinds
      size = ap length h.same_kinds

      e : HasEntries w.kinds (lowered (entry w) (flip i) i (c +ℤ c)) (with_greatest w i c)
      e = bound-entries w (flip i) i (c +ℤ c) h.matrix

      at : (x y : ℕ) → x < 2 * length kinds → y < 2 * length kinds → ((x ≡ flip i) × (y ≡ i) → ⊥) → entry (with_greatest w i c) x y ≡ entry w x y
      at x y hx hy o = e.entries x y (omega (arith, size)) (omega (arith, size)) ∙ single-miss (entry w) i (c +ℤ c) x y o

      other : (q y : ℕ) → y ≡ i → y / 2 ≡ q → q ≡ k
      other q y u v = let z : y / 2 ≡ i / 2 = ap (λ x. x / 2) u in sym v ∙ z ∙ a

      own-pair : (x y : ℕ) → (x ≡ flip i) × (y ≡ i) → (x ≡ y → ⊥) × ((x / 2 ≡ y / 2) × IsRanged (slice_get ss (x / 2)))
      own-pair x y p =
          let xk : x / 2 ≡ k = ap (λ z. z / 2) p.0 ∙ b in
          let yk : y / 2 ≡ k = ap (λ z. z / 2) p.1 ∙ a in
          ((λ g. d (sym p.0 ∙ g ∙ p.1)), (xk ∙ sym yk, subst (λ z. IsRanged (slice_get ss z)) (sym xk) is_ranged))

  leaves : (w : HalfMatrix) → IsEntered m kinds ss w → Leaves (Some (InRange r)) (entry w (2 * k + 1) (2 * k)) (entry w (2 * k) (2 * k + 1))
  leaves w h = subst (λ z. Leaves z (entry w (2 * k + 1) (2 * k)) (entry w (2 * k) (2 * k + 1))) s (h.own k l is_ranged)

  entered-high : (w : HalfMatrix) → IsEntered m kinds ss w → IsEntered m kinds ss (with_greatest w (2 * k) r.hi)
  entered-high w h = lowered-entered w (2 * k) r.hi (omega arith) (let f : flip (2 * k) ≡ 2 * k + 1 = even-flip k in omega arith) (λ g. let f : flip (2 * k) ≡ 2 * k + 1 = even-flip k in absurd (omega arith)) h (
    subst (AtMost (Some (r.hi +ℤ r.hi))) (sym (e.entries (2 * k + 1) (2 * k) (omega (arith, size)) (omega (arith, size))))
        (subst (λ z. AtMost (Some (r.hi +ℤ r.hi)) (lowered (entry w) (flip (2 * k)) (2 * k) (r.hi +ℤ r.hi) z (2 * k))) (even-flip k)
        (single-least (entry w) (2 * k) (r.hi +ℤ r.hi) (r.hi +ℤ r.hi) (subst (λ z. AtMost (Some (r.hi +ℤ r.hi)) (entry w z (2 * k))) (sym (even-flip k)) (leaves w h).0) (omega (arith, ints)))),
    subst (AtMost (Some (neg_ℤ r.lo +ℤ neg_ℤ r.lo))) (sym (e.entries (2 * k) (2 * k + 1) (omega (arith, size)) (omega (arith, size)) ∙ single-miss (entry w) (2 * k) (r.hi +ℤ r.hi) (2 * k) (2 * k + 1) (λ p. absurd (omega (arith, p.1))))) (leaves w h).1,
  )
    where
      size : length w.kinds ≡ length kinds
      size = ap length h.same_kinds

      e : HasEntries w.kinds (lowered (entry w) (flip (2 * k)) (2 * k) (r.hi +ℤ r.hi)) (with_greatest w (2 * k) r.hi)
      e = bound-entries w (flip (2 * k)) (2 * k) (r.hi +ℤ r.hi) h.matrix

  entered-low : (w : HalfMatrix) → IsEntered m kinds ss w → IsEntered m kinds ss (with_greatest w (2 * k + 1) (neg_ℤ r.lo))
  entered-low w h = lowered-entered w (2 * k + 1) (neg_ℤ r.lo) (omega arith) (let f : flip (2 * k + 1) ≡ 2 * k = odd-flip k in omega arith) (λ g. let f : flip (2 * k + 1) ≡ 2 * k = odd-flip k in absurd (omega arith)) h (
    subst (AtMost (Some (r.hi +ℤ r.hi))) (sym (e.entries (2 * k + 1) (2 * k) (omega (arith, size)) (omega (arith, size)) ∙ single-miss (entry w) (2 * k + 1) (neg_ℤ r.lo +ℤ neg_ℤ r.lo) (2 * k + 1) (2 * k) (λ p. absurd (omega (arith, p.1))))) (leaves w h).0,
    subst (AtMost (Some (neg_ℤ r.lo +ℤ neg_ℤ r.lo))) (sym (e.entries (2 * k) (2 * k + 1) (omega (arith, size)) (omega (arith, size))))
        (subst (λ z. AtMost (Some (neg_ℤ r.lo +ℤ neg_ℤ r.lo)) (lowered (entry w) (flip (2 * k + 1)) (2 * k + 1) (neg_ℤ r.lo +ℤ neg_ℤ r.lo) z (2 * k + 1))) (odd-flip k)
        (single-least (entry w) (2 * k + 1) (neg_ℤ r.lo +ℤ neg_ℤ r.lo) (neg_ℤ r.lo +ℤ neg_ℤ r.lo) (subst (λ z. AtMost (Some (neg_ℤ r.lo +ℤ neg_ℤ r.lo)) (entry w z (2 * k + 1))) (sym (odd-flip k)) (leaves w h).1) (omega (arith, ints)))),
  )
    where
      size : length w.kinds ≡ length kinds
      size = ap length h.same_kinds

      e : HasEntries w.kinds (lowered (entry w) (flip (2 * k + 1)) (2 * k + 1) (neg_ℤ r.lo +ℤ neg_ℤ r.lo)) (with_greatest w (2 * k + 1) (neg_ℤ r.lo))
      e = bound-entries w (flip (2 * k + 1)) (2 * k + 1) (neg_ℤ r.lo +ℤ neg_ℤ r.lo) h.matrix

  end-entered : (b : Bool) (w u : HalfMatrix) → IsEntered m kinds ss w → IsEntered m kinds ss u → IsEntered m kinds ss (if b then w else u)
  end-entered true w u h g = h
  end-entered false w u h g = g

  range-entered : (w : HalfMatrix) → IsEntered m kinds ss w → IsEntered m kinds ss (meets_range w k r)
  unfolding meets_end
  range-entered w h =
      let g : IsEntered m kinds ss (meets_end w (2 * k) r.hi) = end-entered (is_beyond w.kinds (2 * k) r.hi) w (with_greatest w (2 * k) r.hi) h (entered-high w h) in
      end-entered (is_beyond (meets_end w (2 * k) r.hi).kinds (2 * k + 1) (neg_ℤ r.lo)) (meets_end w (2 * k) r.hi) (with_greatest (meets_end w (2 * k) r.hi) (2 * k + 1) (neg_ℤ r.lo)) g (entered-low (meets_end w (2 * k) r.hi) g)

sources-entered : (m : HalfMatrix) (kinds : List Bool) (ss : List ArgumentSource) (w : HalfMatrix) (k : ℕ) (ts : List ArgumentSource) → ((j : ℕ) → slice_get ss (k + j) ≡ slice_get ts j) → IsEntered m kinds ss w → IsEntered m kinds ss (meet_sources w k ts)
sources-entered m kinds ss w k [] e h = h
sources-entered m kinds ss w k (FromSlot x ∷ ts) e h = sources-entered m kinds ss w (k + 1) ts (λ j. let next : k + 1 + j ≡ k + suc j = omega arith in ap (slice_get ss) next ∙ e (suc j)) h
sources-entered m kinds ss w k (InRange r ∷ ts) e h = sources-entered m kinds ss (meets_range w k r) (k + 1) ts (λ j. let next : k + 1 + j ≡ k + suc j = omega arith in ap (slice_get ss) next ∙ e (suc j)) (elim (cases_lt k (length kinds)) [
  | inl l ↦ range-entered m kinds ss k r l (ap (slice_get ss) here ∙ e 0) w h
  | inr l ↦ subst (IsEntered m kinds ss) (range-outside w k r h.matrix (subst (λ b. length b ≤ k) (sym h.same_kinds) l)) h
])
  where
    here : k ≡ k + 0
    here = omega arith

-- ---- the blocks

abbrev IsOrdered : Option ArgumentSource → Type 0
IsOrdered (Some (FromSlot x)) = Unit {0}
IsOrdered None = Unit {0}
IsOrdered (Some (InRange r)) = r.lo ≤ℤ r.hi

ordered-at : (ss : List ArgumentSource) → AreOrdered ss → (k : ℕ) → IsOrdered (slice_get ss k)
ordered-at [] o k = tt
ordered-at (FromSlot x ∷ ss) o zero = tt
ordered-at (FromSlot x ∷ ss) o (suc k) = ordered-at ss o k
ordered-at (InRange r ∷ ss) o zero = o.0
ordered-at (InRange r ∷ ss) o (suc k) = ordered-at ss o.1 k

ordered-own : (s : Option ArgumentSource) (a b : Option ℤ) → IsRanged s → IsOrdered s → Leaves s a b → AtMost (Some (pos 0)) (add_weight b a)
ordered-own (Some (FromSlot x)) a b p o v = absurd p
ordered-own None a b p o v = absurd p
ordered-own (Some (InRange r)) a b p o v = AtMost-trans (Some (pos 0)) (Some ((neg_ℤ r.lo +ℤ neg_ℤ r.lo) +ℤ (r.hi +ℤ r.hi))) (add_weight b a) (below r.lo r.hi o)
    (add_weight-mono (Some (neg_ℤ r.lo +ℤ neg_ℤ r.lo)) b (Some (r.hi +ℤ r.hi)) a v.1 v.0)
  where
    below : (x y : ℤ) → x ≤ℤ y → pos 0 ≤ℤ ((neg_ℤ x +ℤ neg_ℤ x) +ℤ (y +ℤ y))
    below x y q = omega (arith, ints)

entered-obeys : (m : HalfMatrix) (kinds : List Bool) (ss : List ArgumentSource) (w : HalfMatrix) → IsClosed m → IsWhole m → AreOrdered ss → IsEntered m kinds ss w → ObeysTriangles w
entered-obeys m kinds ss w h t o d = entries-obey kinds (entry w) w (record { matrix = d.matrix; same_kinds = d.same_kinds; entries = λ i j hi hj. refl }) zero
    (blocks-triangular (entry w) (2 * length kinds) (block ss) apart (λ i k j hi hk hj e f. within i k j hi hk hj e f (slice_get ss (i / 2)) refl))
  where
    zero : HasZeroDiagonal (2 * length kinds) (entry w)
    zero i hi = d.rest i i hi hi (λ p. p.0 refl) ∙ entered-same m ss i

    same-slot : (i j : ℕ) → i / 2 ≡ j / 2 → block ss i ≡ block ss j
    same-slot i j e = ap (λ q. source_block q (slice_get ss q)) e

    apart : (i j : ℕ) → i < 2 * length kinds → j < 2 * length kinds → (block ss i ≡ block ss j → ⊥) → entry w i j ≡ None
    apart i j hi hj n = d.rest i j hi hj (λ p. n (same-slot i j p.1.0)) ∙ entered-copied m ss i j (λ e. n (ap (block ss) e)) ∙ copied-none m i j (slice_get ss (i / 2)) (slice_get ss (j / 2)) n

    unranged : (i j : ℕ) → i < 2 * length kinds → j < 2 * length kinds → (IsRanged (slice_get ss (i / 2)) → ⊥) → entry w i j ≡ entered m ss i j
    unranged i j hi hj n = d.rest i j hi hj (λ p. n p.1.1)

    is_zero : (i j : ℕ) → slice_get ss (i / 2) ≡ None → slice_get ss (j / 2) ≡ None → entered m ss i j ≡ Some (pos 0)
    is_zero i j e f = elim (cases_eq i j) [
      | inl g ↦ subst (λ x. entered m ss i x ≡ Some (pos 0)) g (entered-same m ss i)
      | inr g ↦ entered-copied m ss i j g ∙ ap (λ s. copied m i j s (slice_get ss (j / 2))) e ∙ ap (copied m i j None) f
    ]

    within : (i k j : ℕ) → i < 2 * length kinds → k < 2 * length kinds → j < 2 * length kinds → block ss i ≡ block ss k → block ss k ≡ block ss j → (s : Option ArgumentSource) → slice_get ss (i / 2) ≡ s → AtMost (entry w i j) (add_weight (entry w i k) (entry w k j))
    within i k j hi hk hj e f (Some (FromSlot x)) p =
        let b : block ss i ≡ 0 = ap (source_block (i / 2)) p in
        let q : (y : ℕ) × (slice_get ss (k / 2) ≡ Some (FromSlot y)) = copy-block (k / 2) (slice_get ss (k / 2)) (sym e ∙ b) in
        let r : (z : ℕ) × (slice_get ss (j / 2) ≡ Some (FromSlot z)) = copy-block (j / 2) (slice_get ss (j / 2)) (sym f ∙ sym e ∙ b) in
        let ni : IsRanged (slice_get ss (i / 2)) → ⊥ = λ g. subst IsRanged p g in
        let nk : IsRanged (slice_get ss (k / 2)) → ⊥ = λ g. subst IsRanged q.1 g in
        rw (unranged i j hi hj ni, unranged i k hi hk ni, unranged k j hk hj nk) (copies-triangular m ss i k j x q.0 r.0 h t p q.1 r.1)
    within i k j hi hk hj e f None p =
        let b : block ss i ≡ 1 = ap (source_block (i / 2)) p in
        let q : slice_get ss (k / 2) ≡ None = zero-block (k / 2) (slice_get ss (k / 2)) (sym e ∙ b) in
        let r : slice_get ss (j / 2) ≡ None = zero-block (j / 2) (slice_get ss (j / 2)) (sym f ∙ sym e ∙ b) in
        let ni : IsRanged (slice_get ss (i / 2)) → ⊥ = λ g. subst IsRanged p g in
        let nk : IsRanged (slice_get ss (k / 2)) → ⊥ = λ g. subst IsRanged q g in
        rw (unranged i j hi hj ni ∙ is_zero i j p r, unranged i k hi hk ni ∙ is_zero i k p q, unranged k j hk hj nk ∙ is_zero k j q r) (add_zero (Some (pos 0)))
    within i k j hi hk hj e f (Some (InRange x)) p =
        let b : block ss i ≡ i / 2 + 2 = ap (source_block (i / 2)) p in
        let ek : k / 2 ≡ i / 2 = range-block (k / 2) (i / 2) (slice_get ss (k / 2)) (sym e ∙ b) in
        let ej : j / 2 ≡ i / 2 = range-block (j / 2) (i / 2) (slice_get ss (j / 2)) (sym f ∙ sym e ∙ b) in
        let l : i / 2 < length kinds = omega arith in
        let g : IsRanged (slice_get ss (i / 2)) = subst IsRanged (sym p) tt in
        single-triangles (entry w) (2 * length kinds) (i / 2) zero (ordered-own (slice_get ss (i / 2)) (entry w (2 * (i / 2) + 1) (2 * (i / 2))) (entry w (2 * (i / 2)) (2 * (i / 2) + 1)) g (ordered-at ss o (i / 2)) (d.own (i / 2) l g)) i k j hi hk hj refl ek ej

pub enter_obeys : (m : HalfMatrix) (kinds : List Bool) (ss : List ArgumentSource) → IsClosed m → IsWhole m → length kinds ≤ 16 → AreOrdered ss → ObeysTriangles (meet_sources (matrix_of kinds (entered m ss)) 0 ss)
enter_obeys m kinds ss h t few o = entered-obeys m kinds ss (meet_sources (matrix_of kinds (entered m ss)) 0 ss) h t o
    (sources-entered m kinds ss (matrix_of kinds (entered m ss)) 0 ss (λ j. ap (slice_get ss) (zero-add j)) (first-entered m kinds ss h.1.matrix few))

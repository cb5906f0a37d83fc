-- Casts of numbers of 64 bits, and the ends of ranges.
use Rattle.std.proofs.Common.{◌≡◌, sym, subst, ℕ, ◌<◌, ◌*◌, ◌+◌, ℤ, pos, neg_ℤ, ◌≤ℤ◌, FitsSigned, to_z, of_z, w64, Bool, true, false, length, slice_index_or, Option, Some, None, arith, inl, inr}
use Rattle.std.proofs.lemmas.Bool.{cases_lt}
use Rattle.std.specs.Int.{int_max, int_min, int_div_euclid}
use Rattle.std.proofs.lemmas.Int.{to_z-of_z, ints, clamps}
use mir.Syntax.{w128}
use Rattle.dbm_core.specs.Half.{HalfMatrix, IsMatrix, entry}
use Rattle.dbm_close.specs.Close.{slot_high, slot_low}
use Rattle.dbm_close.specs.Steps.{extreme_high, extreme_low, range_high, range_low}
use Rattle.num_bounds.specs.Bounds.{IsRange, least, greatest}
use Rattle.dom_octagon_meaning.specs.Ranges.{range_at}
use Rattle.dom_octagon_meaning.proofs.Ranges.{range_at-outside}
use Rattle.dom_octagon_states.specs.Limits.{IsTight}

pub word-same : (z : ℤ) → least ≤ℤ z → z ≤ℤ greatest → to_z w64 (of_z w64 (to_z w128 (of_z w128 z))) ≡ z
word-same z p q =
    let f : FitsSigned w128 z = omega (arith, ints) in
    let g : FitsSigned w64 z = omega (arith, ints) in
    rw (to_z-of_z w128 z f) (to_z-of_z w64 z g)

pub word-fits : (z : ℤ) → least ≤ℤ z → z ≤ℤ greatest → FitsSigned w64 (to_z w128 (of_z w128 z))
word-fits z p q =
    let f : FitsSigned w128 z = omega (arith, ints) in
    let g : FitsSigned w64 z = omega (arith, ints) in
    rw (to_z-of_z w128 z f) g

low-least : (b : Bool) (a : Option ℤ) → least ≤ℤ range_low b a
low-least true None = omega (arith, ints)
low-least false None = omega (arith, ints)
low-least b (Some x) = by b (neg_ℤ (int_div_euclid x (pos 2)))
  where
    by : (b : Bool) (z : ℤ) → least ≤ℤ int_max (extreme_low b) z
    by true z = omega (arith, ints, clamps)
    by false z = omega (arith, ints, clamps)

high-greatest : (b : Bool) (a : Option ℤ) → range_high b a ≤ℤ greatest
high-greatest true None = omega (arith, ints)
high-greatest false None = omega (arith, ints)
high-greatest b (Some x) = by b (int_div_euclid x (pos 2))
  where
    by : (b : Bool) (z : ℤ) → int_min (extreme_high b) z ≤ℤ greatest
    by true z = omega (arith, ints, clamps)
    by false z = omega (arith, ints, clamps)

-- the range of a slot of a closed matrix is one of integers of 64 bits
pub slot-range : (m : HalfMatrix) (k : ℕ) → IsTight m → k < length m.kinds → IsRange (record { lo = slot_low m.kinds (entry m) k; hi = slot_high m.kinds (entry m) k })
slot-range m k h l = record {
  low = low-least (slice_index_or m.kinds k false) (entry m (2 * k) (2 * k + 1));
  ordered = h.ranges k l;
  high = high-greatest (slice_index_or m.kinds k false) (entry m (2 * k + 1) (2 * k));
}

-- so is the range of each slot, and of what is none
pub ranges-are : (m : HalfMatrix) → IsMatrix m → IsTight m → (k : ℕ) → IsRange (range_at m k)
unfolding range_at
ranges-are m h t k = elim (cases_lt k (length m.kinds)) [
  | inl l ↦ slot-range m k t l
  | inr l ↦ subst IsRange (sym (range_at-outside m h k l)) full
]
  where
    full : IsRange (record { lo = least; hi = greatest })
    full = record { low = omega (arith, ints); ordered = omega (arith, ints); high = omega (arith, ints) }

-- Widening covers both sides and keeps what fits.
use Rattle.std.proofs.Common.{◌≡◌, refl, sym, subst, ℤ, ◌≤ℤ◌, ◌<ℤ◌, int_le, Bool, true, false, ◌&&◌, List, [], ◌∷◌, arith, if◌then◌else◌, ◌∙◌}
use Rattle.std.proofs.lemmas.Int.{ints, clamps}
use Rattle.std.proofs.lemmas.Bool.{and_parts}
use Rattle.std.specs.Int.{int_max, int_min}
use Rattle.imp_slots.specs.Plain.{Numeric, Layout}
use Rattle.concrete_sem.specs.Values.{Number, Variables}
use Rattle.num_bounds.specs.Bounds.{Bounds}
use Rattle.dom_interval_meaning.specs.State.{Intervals, Empty, Within}
use Rattle.dom_interval_meaning.specs.Ranges.{extremes}
use Rattle.dom_interval_meaning.specs.Widening.{threshold_below, threshold_above, widen_range, widen_slot, widen}
use Rattle.dom_numeric.specs.Measures.{measure}
use Rattle.dom_interval_meaning.specs.Covers.{Holds}
use Rattle.dom_interval_meaning.proofs.SlotLaws.{FitsSlot, FitsRange}
use Rattle.dom_interval_meaning.proofs.CompareLaws.{FitsState, Describes, zip-fits, zip-left, zip-right}
use Rattle.dom_interval_meaning.specs.declared.slot_range.SlotRange.{SlotRange}
use Rattle.num_bounds.proofs.Ends.{le-true}
use Rattle.base_values.proofs.Integers.{between}

-- the threshold below is not above, and within the extremes
pub threshold_below-bounds : (ms : List ℤ) (e : Bounds) (z : ℤ) → e.lo ≤ℤ z → z ≤ℤ e.hi → (e.lo ≤ℤ threshold_below ms e z) × (threshold_below ms e z ≤ℤ z)
threshold_below-bounds [] e z p q = (omega (arith, ints, clamps), omega (arith, ints, clamps))
threshold_below-bounds (m ∷ ms) e z p q = by (int_le m z && int_le m e.hi) refl (threshold_below-bounds ms e z p q)
  where
    by : (b : Bool) → (int_le m z && int_le m e.hi) ≡ b → (e.lo ≤ℤ threshold_below ms e z) × (threshold_below ms e z ≤ℤ z) → (e.lo ≤ℤ (if b then int_max m (threshold_below ms e z) else threshold_below ms e z)) × ((if b then int_max m (threshold_below ms e z) else threshold_below ms e z) ≤ℤ z)
    by true t h =
        let w = and_parts (int_le m z) (int_le m e.hi) t in
        let le : m ≤ℤ z = le-true m z w.0 in
        let a : e.lo ≤ℤ threshold_below ms e z = h.0 in
        let b : threshold_below ms e z ≤ℤ z = h.1 in
        (omega (arith, ints, clamps), omega (arith, ints, clamps))
    by false t h = h

pub threshold_above-bounds : (ms : List ℤ) (e : Bounds) (z : ℤ) → e.lo ≤ℤ z → z ≤ℤ e.hi → (z ≤ℤ threshold_above ms e z) × (threshold_above ms e z ≤ℤ e.hi)
threshold_above-bounds [] e z p q = (omega (arith, ints, clamps), omega (arith, ints, clamps))
threshold_above-bounds (m ∷ ms) e z p q = by (int_le z m && int_le e.lo m) refl (threshold_above-bounds ms e z p q)
  where
    by : (b : Bool) → (int_le z m && int_le e.lo m) ≡ b → (z ≤ℤ threshold_above ms e z) × (threshold_above ms e z ≤ℤ e.hi) → (z ≤ℤ (if b then int_min m (threshold_above ms e z) else threshold_above ms e z)) × ((if b then int_min m (threshold_above ms e z) else threshold_above ms e z) ≤ℤ e.hi)
    by true t h =
        let w = and_parts (int_le z m) (int_le e.lo m) t in
        let le : z ≤ℤ m = le-true z m w.0 in
        let a : z ≤ℤ threshold_above ms e z = h.0 in
        let b : threshold_above ms e z ≤ℤ e.hi = h.1 in
        (omega (arith, ints, clamps), omega (arith, ints, clamps))
    by false t h = h

-- the widened ends: within the extremes, and neither range passes them
record Widened (e : Bounds) (l r w : Bounds) : Type 0 where
  low : e.lo ≤ℤ w.lo
  left_low : w.lo ≤ℤ l.lo
  right_low : w.lo ≤ℤ r.lo
  left_high : l.hi ≤ℤ w.hi
  right_high : r.hi ≤ℤ w.hi
  high : w.hi ≤ℤ e.hi

low-widened : (ms : List ℤ) (e : Bounds) (l r : ℤ) → e.lo ≤ℤ l → e.lo ≤ℤ r → r ≤ℤ e.hi → (e.lo ≤ℤ (if int_le l r then l else threshold_below ms e r)) × ((if int_le l r then l else threshold_below ms e r) ≤ℤ l) × ((if int_le l r then l else threshold_below ms e r) ≤ℤ r)
low-widened ms e l r a b c = by (int_le l r) refl
  where
    by : (t : Bool) → int_le l r ≡ t → (e.lo ≤ℤ (if t then l else threshold_below ms e r)) × ((if t then l else threshold_below ms e r) ≤ℤ l) × ((if t then l else threshold_below ms e r) ≤ℤ r)
    by true t = let le : l ≤ℤ r = le-true l r t in (a, omega (arith, ints), le)
    by false t =
        let lt : r <ℤ l = grind (arith, ints) in
        let w = threshold_below-bounds ms e r b c in
        let p : e.lo ≤ℤ threshold_below ms e r = w.0 in
        let q : threshold_below ms e r ≤ℤ r = w.1 in
        (p, omega (arith, ints), q)

high-widened : (ms : List ℤ) (e : Bounds) (l r : ℤ) → l ≤ℤ e.hi → e.lo ≤ℤ r → r ≤ℤ e.hi → (l ≤ℤ (if int_le r l then l else threshold_above ms e r)) × (r ≤ℤ (if int_le r l then l else threshold_above ms e r)) × ((if int_le r l then l else threshold_above ms e r) ≤ℤ e.hi)
high-widened ms e l r a b c = by (int_le r l) refl
  where
    by : (t : Bool) → int_le r l ≡ t → (l ≤ℤ (if t then l else threshold_above ms e r)) × (r ≤ℤ (if t then l else threshold_above ms e r)) × ((if t then l else threshold_above ms e r) ≤ℤ e.hi)
    by true t = let le : r ≤ℤ l = le-true r l t in (omega (arith, ints), le, a)
    by false t =
        let lt : l <ℤ r = grind (arith, ints) in
        let w = threshold_above-bounds ms e r b c in
        let p : r ≤ℤ threshold_above ms e r = w.0 in
        let q : threshold_above ms e r ≤ℤ e.hi = w.1 in
        (omega (arith, ints), p, q)

widened : (ms : List ℤ) (b : Bool) (l r : Bounds) → FitsRange b l → FitsRange b r → Widened (extremes b) l r (widen_range ms (extremes b) l r)
widened ms b l r h k = from (extremes b) h.low h.ordered h.high k.low k.ordered k.high
  where
    from : (e : Bounds) → e.lo ≤ℤ l.lo → l.lo ≤ℤ l.hi → l.hi ≤ℤ e.hi → e.lo ≤ℤ r.lo → r.lo ≤ℤ r.hi → r.hi ≤ℤ e.hi → Widened e l r (widen_range ms e l r)
    from e a c d f g i =
        let x : r.lo ≤ℤ e.hi = omega (arith, ints) in
        let y : e.lo ≤ℤ r.hi = omega (arith, ints) in
        let lows = low-widened ms e l.lo r.lo a f x in
        let highs = high-widened ms e l.hi r.hi d y i in
        record { low = lows.0; left_low = lows.1; right_low = lows.2; left_high = highs.0; right_high = highs.1; high = highs.2 }

widen_range-fits : (ms : List ℤ) (b : Bool) (l r : Bounds) → FitsRange b l → FitsRange b r → FitsRange b (widen_range ms (extremes b) l r)
widen_range-fits ms b l r h k =
    let w = widened ms b l r h k in
    let a : (widen_range ms (extremes b) l r).lo ≤ℤ l.lo = w.left_low in
    let c : l.lo ≤ℤ l.hi = h.ordered in
    let d : l.hi ≤ℤ (widen_range ms (extremes b) l r).hi = w.left_high in
    record { low = w.low; ordered = between (widen_range ms (extremes b) l r).lo l.lo l.hi (widen_range ms (extremes b) l r).hi a c d; high = w.high }

-- what lies between two ends lies between ends outside of them
pub outside : (z l h m n : ℤ) → l ≤ℤ m → n ≤ℤ h → m ≤ℤ z → z ≤ℤ n → (l ≤ℤ z) × (z ≤ℤ h)
outside z l h m n p q r s = (omega (arith, ints), omega (arith, ints))

same-kind : (k : Numeric) (r s : SlotRange) → FitsSlot k r → FitsSlot k s → FitsRange r.is_array s.range
same-kind k r s h g = subst (λ b. FitsRange b s.range) (sym g.0 ∙ h.0) g.1

widen_slot-fits : (ms : List ℤ) (k : Numeric) (r s : SlotRange) → FitsSlot k r → FitsSlot k s → FitsSlot k (widen_slot ms r s)
widen_slot-fits ms k r s h g = (h.0, widen_range-fits ms r.is_array r.range s.range h.1 (same-kind k r s h g))

widen_slot-left : (ms : List ℤ) (k : Numeric) (r s : SlotRange) (n : Number) → FitsSlot k r → FitsSlot k s → Holds r n → Holds (widen_slot ms r s) n
widen_slot-left ms k r s n h g w =
    let v = widened ms r.is_array r.range s.range h.1 (same-kind k r s h g) in
    outside (measure n) _ _ r.range.lo r.range.hi v.left_low v.left_high w.0 w.1

widen_slot-right : (ms : List ℤ) (k : Numeric) (r s : SlotRange) (n : Number) → FitsSlot k r → FitsSlot k s → Holds s n → Holds (widen_slot ms r s) n
widen_slot-right ms k r s n h g w =
    let v = widened ms r.is_array r.range s.range h.1 (same-kind k r s h g) in
    outside (measure n) _ _ s.range.lo s.range.hi v.right_low v.right_high w.0 w.1

pub widen-fits : (ms : List ℤ) (l : Layout) (s t : Intervals) → FitsState l s → FitsState l t → FitsState l (widen ms s t)
unfolding widen
widen-fits ms l Empty t h k = k
widen-fits ms l (Within rs) Empty h k = h
widen-fits ms l (Within rs) (Within qs) h k = zip-fits (widen_slot ms) (widen_slot-fits ms) l.numbers rs qs h k

pub widen-left : (ms : List ℤ) (l : Layout) (v : Variables) (s t : Intervals) → FitsState l s → FitsState l t → Describes v s → Describes v (widen ms s t)
unfolding widen
widen-left ms l v Empty t h k w = absurd w
widen-left ms l v (Within rs) Empty h k w = w
widen-left ms l v (Within rs) (Within qs) h k w = zip-left (widen_slot ms) (widen_slot-left ms) l.numbers rs qs v.numbers h k w

pub widen-right : (ms : List ℤ) (l : Layout) (v : Variables) (s t : Intervals) → FitsState l s → FitsState l t → Describes v t → Describes v (widen ms s t)
unfolding widen
widen-right ms l v Empty t h k w = w
widen-right ms l v (Within rs) Empty h k w = absurd w
widen-right ms l v (Within rs) (Within qs) h k w = zip-right (widen_slot ms) (widen_slot-right ms) l.numbers rs qs v.numbers h k w

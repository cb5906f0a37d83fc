-- The nearest threshold is the bounded one, and a widened range is not empty.
use Rattle.std.proofs.Common.{◌≡◌, refl, ap, sym, ◌∙◌, ℤ, ◌≤ℤ◌, int_le, int_lt, Bool, true, false, ◌&&◌, List, [], ◌∷◌, arith, if◌then◌else◌, Some, None}
use Rattle.std.specs.Prelude.{Option}
use Rattle.std.proofs.lemmas.Int.{ints, clamps}
use Rattle.std.proofs.lemmas.Bool.{and_parts}
use Rattle.std.specs.Int.{int_max, int_min}
use Rattle.num_bounds.specs.Bounds.{Bounds}
use Rattle.num_thresholds.specs.Thresholds.{greater, greatest_to, least_from, lesser}
use Rattle.dom_interval.specs.Nearest.{at_least, at_most}
use Rattle.dom_interval_meaning.specs.Widening.{threshold_below, threshold_above}

greater-bounded : (m : ℤ) (o : Option ℤ) (b : ℤ) → at_least (Some (greater m o)) b ≡ int_max m (at_least o b)
greater-bounded m None b = refl
greater-bounded m (Some n) b = omega (arith, ints, clamps)

lesser-bounded : (m : ℤ) (o : Option ℤ) (b : ℤ) → at_most (Some (lesser m o)) b ≡ int_min m (at_most o b)
lesser-bounded m None b = refl
lesser-bounded m (Some n) b = omega (arith, ints, clamps)

-- a test of the lesser of two is both tests, and one of the greater
test-below : (m z h : ℤ) → (int_le m z && int_le m h) ≡ (if int_lt (int_min h z) m then false else true)
test-below m z h = grind (arith, ints, clamps)

test-above : (m z l : ℤ) → (int_le z m && int_le l m) ≡ (if int_lt m (int_max l z) then false else true)
test-above m z l = grind (arith, ints, clamps)

pub below-is : (ms : List ℤ) (e : Bounds) (z : ℤ) → at_least (greatest_to ms (int_min e.hi z)) (int_min e.lo z) ≡ threshold_below ms e z
below-is [] e z = refl
below-is (m ∷ ms) e z = by (int_lt (int_min e.hi z) m) (below-is ms e z) ∙ ap (λ t. if t then int_max m (threshold_below ms e z) else threshold_below ms e z) (sym (test-below m z e.hi))
  where
    by : (t : Bool) → at_least (greatest_to ms (int_min e.hi z)) (int_min e.lo z) ≡ threshold_below ms e z →
        at_least (if t then greatest_to ms (int_min e.hi z) else Some (greater m (greatest_to ms (int_min e.hi z)))) (int_min e.lo z) ≡ (if (if t then false else true) then int_max m (threshold_below ms e z) else threshold_below ms e z)
    by true rest = rest
    by false rest = greater-bounded m (greatest_to ms (int_min e.hi z)) (int_min e.lo z) ∙ ap (int_max m) rest

pub above-is : (ms : List ℤ) (e : Bounds) (z : ℤ) → at_most (least_from ms (int_max e.lo z)) (int_max e.hi z) ≡ threshold_above ms e z
above-is [] e z = refl
above-is (m ∷ ms) e z = by (int_lt m (int_max e.lo z)) (above-is ms e z) ∙ ap (λ t. if t then int_min m (threshold_above ms e z) else threshold_above ms e z) (sym (test-above m z e.lo))
  where
    by : (t : Bool) → at_most (least_from ms (int_max e.lo z)) (int_max e.hi z) ≡ threshold_above ms e z →
        at_most (if t then least_from ms (int_max e.lo z) else Some (lesser m (least_from ms (int_max e.lo z)))) (int_max e.hi z) ≡ (if (if t then false else true) then int_min m (threshold_above ms e z) else threshold_above ms e z)
    by true rest = rest
    by false rest = lesser-bounded m (least_from ms (int_max e.lo z)) (int_max e.hi z) ∙ ap (int_min m) rest

-- a widened range is not empty
low-below : (ms : List ℤ) (e : Bounds) (z : ℤ) → threshold_below ms e z ≤ℤ z
low-below [] e z = omega (arith, ints, clamps)
low-below (m ∷ ms) e z = by (int_le m z && int_le m e.hi) refl (low-below ms e z)
  where
    by : (b : Bool) → (int_le m z && int_le m e.hi) ≡ b → threshold_below ms e z ≤ℤ z → (if b then int_max m (threshold_below ms e z) else threshold_below ms e z) ≤ℤ z
    by true t h = let w = (and_parts (int_le m z) (int_le m e.hi) t).0 in let le : m ≤ℤ z = grind (arith, ints) in omega (arith, ints, clamps)
    by false t h = h

high-above : (ms : List ℤ) (e : Bounds) (z : ℤ) → z ≤ℤ threshold_above ms e z
high-above [] e z = omega (arith, ints, clamps)
high-above (m ∷ ms) e z = by (int_le z m && int_le e.lo m) refl (high-above ms e z)
  where
    by : (b : Bool) → (int_le z m && int_le e.lo m) ≡ b → z ≤ℤ threshold_above ms e z → z ≤ℤ (if b then int_min m (threshold_above ms e z) else threshold_above ms e z)
    by true t h = let w = (and_parts (int_le z m) (int_le e.lo m) t).0 in let le : z ≤ℤ m = grind (arith, ints) in omega (arith, ints, clamps)
    by false t h = h

low-side : (ms : List ℤ) (e : Bounds) (l r : ℤ) → (if int_le l r then l else threshold_below ms e r) ≤ℤ r
low-side ms e l r = by (int_le l r) refl
  where
    by : (b : Bool) → int_le l r ≡ b → (if b then l else threshold_below ms e r) ≤ℤ r
    by true t = grind (arith, ints)
    by false t = low-below ms e r

high-side : (ms : List ℤ) (e : Bounds) (l r : ℤ) → r ≤ℤ (if int_le r l then l else threshold_above ms e r)
high-side ms e l r = by (int_le r l) refl
  where
    by : (b : Bool) → int_le r l ≡ b → r ≤ℤ (if b then l else threshold_above ms e r)
    by true t = grind (arith, ints)
    by false t = high-above ms e r

pub ends_ordered : (ms : List ℤ) (e l r : Bounds) (low high : ℤ) → low ≡ (if int_le l.lo r.lo then l.lo else threshold_below ms e r.lo) → high ≡ (if int_le r.hi l.hi then l.hi else threshold_above ms e r.hi) → r.lo ≤ℤ r.hi → low ≤ℤ high
ends_ordered ms e l r low high p q h =
    let a : low ≤ℤ r.lo = rw p (low-side ms e l.lo r.lo) in
    let b : r.hi ≤ℤ high = rw q (high-side ms e l.hi r.hi) in
    omega (arith, ints)

-- A state changes under widening so often and no more.
use Rattle.std.proofs.Common.{◌≡◌, refl, sym, ap, ◌∙◌, subst, ℕ, suc, ◌+◌, ◌*◌, ◌<◌, ◌≤◌, ℤ, ◌≤ℤ◌, ◌<ℤ◌, int_le, int_lt, Bool, true, false, ◌&&◌, List, [], ◌∷◌, length, map, arith, if◌then◌else◌, ◌⊎◌, inl, inr}
use Rattle.std.proofs.lemmas.Int.{ints, clamps}
use Rattle.std.proofs.lemmas.Bool.{and_parts, and_from}
use Rattle.std.specs.Int.{int_max, int_min}
use Rattle.std.specs.List.{AllZip, zip}
use Rattle.imp_slots.specs.Plain.{Numeric, Layout}
use Rattle.num_bounds.specs.Bounds.{Bounds}
use Rattle.dom_interval_meaning.specs.State.{Intervals, Empty, Within}
use Rattle.dom_interval_meaning.specs.Ranges.{extremes}
use Rattle.dom_interval_meaning.specs.Widening.{threshold_below, threshold_above, widen_range, widen_slot, widen}
use Rattle.dom_interval_meaning.specs.Covers.{fits}
use Rattle.dom_interval_meaning.proofs.SlotLaws.{FitsSlot, FitsRange, fits_slots-true}
use Rattle.dom_interval_meaning.proofs.WidenLaws.{threshold_below-bounds, threshold_above-bounds}
use Rattle.dom_interval_meaning.specs.declared.slot_range.SlotRange.{SlotRange}
use Rattle.dom_interval_meaning.specs.Convergence.{low_falls, high_rises, slot_changes, slots_changes, most_changes, changes_left, WideningEnds}
use Rattle.num_bounds.proofs.Ends.{le-false}
use Rattle.base_values.proofs.Integers.{lower_of}

true-lt : (a b : ℤ) → a <ℤ b → int_lt a b ≡ true
true-lt a b h = grind (arith, ints)

abbrev one_if : Bool → ℕ
one_if b = if b then 1 else 0

one_if-most : (b : Bool) → one_if b ≤ 1
one_if-most true = omega arith
one_if-most false = omega arith

one_if-le : (b c : Bool) → (b ≡ true → c ≡ true) → one_if b ≤ one_if c
one_if-le true true f = omega arith
one_if-le true false f = let h : false ≡ true = f refl in cc
one_if-le false c f = omega arith

-- one of the thresholds
abbrev Member : ℤ → List ℤ → Type 0
Member w [] = ⊥
Member w (m ∷ ms) = (w ≡ m) ⊎ Member w ms

-- Low ends.
low_falls-most : (ms : List ℤ) (e : Bounds) (z : ℤ) → low_falls ms e z ≤ length ms + 1
low_falls-most [] e z = let h = one_if-most (int_lt e.lo z) in omega arith
low_falls-most (m ∷ ms) e z = let h = one_if-most (int_lt e.lo m && int_lt m z) in let k = low_falls-most ms e z in omega arith

low_falls-mono : (ms : List ℤ) (e : Bounds) (w z : ℤ) → w ≤ℤ z → low_falls ms e w ≤ low_falls ms e z
low_falls-mono [] e w z h = one_if-le (int_lt e.lo w) (int_lt e.lo z) (λ t. let a : e.lo <ℤ w = lower_of e.lo w t in let b : e.lo <ℤ z = omega (arith, ints) in true-lt e.lo z b)
low_falls-mono (m ∷ ms) e w z h =
    let k = low_falls-mono ms e w z h in
    let j = one_if-le (int_lt e.lo m && int_lt m w) (int_lt e.lo m && int_lt m z) (λ t.
    let p = and_parts (int_lt e.lo m) (int_lt m w) t in
    let a : m <ℤ w = lower_of m w p.1 in
    let b : m <ℤ z = omega (arith, ints) in
    and_from (int_lt e.lo m) (int_lt m z) p.0 (true-lt m z b)) in
    omega arith

low_falls-positive : (ms : List ℤ) (e : Bounds) (z : ℤ) → e.lo <ℤ z → 0 < low_falls ms e z
low_falls-positive [] e z h = rw (true-lt e.lo z h) (omega arith)
low_falls-positive (m ∷ ms) e z h = let k = low_falls-positive ms e z h in omega arith

never : (a b : Bool) → (a ≡ true → b ≡ true → ⊥) → (a && b) ≡ false
never true true f = absurd (f refl refl)
never true false f = refl
never false b f = refl

low_falls-zero : (ms : List ℤ) (e : Bounds) → low_falls ms e e.lo ≡ 0
low_falls-zero [] e = let no : int_lt e.lo e.lo ≡ false = grind (arith, ints) in rw no refl
low_falls-zero (m ∷ ms) e = let no : (int_lt e.lo m && int_lt m e.lo) ≡ false = never (int_lt e.lo m) (int_lt m e.lo) (λ p q. let a : e.lo <ℤ m = lower_of e.lo m p in let b : m <ℤ e.lo = lower_of m e.lo q in omega (arith, ints)) in let k = low_falls-zero ms e in rw no (omega arith)

low_falls-strict : (ms : List ℤ) (e : Bounds) (w z : ℤ) → Member w ms → e.lo <ℤ w → w <ℤ z → low_falls ms e w < low_falls ms e z
low_falls-strict [] e w z k h j = absurd k
low_falls-strict (m ∷ ms) e w z k h j =
    let le : w ≤ℤ z = omega (arith, ints) in
    let rest = low_falls-mono ms e w z le in
    let here = one_if-le (int_lt e.lo m && int_lt m w) (int_lt e.lo m && int_lt m z) (λ t.
    let p = and_parts (int_lt e.lo m) (int_lt m w) t in
    let a : m <ℤ w = lower_of m w p.1 in
    let b : m <ℤ z = omega (arith, ints) in
    and_from (int_lt e.lo m) (int_lt m z) p.0 (true-lt m z b)) in
    elim k [
      | inl s ↦
          let a : int_lt e.lo m ≡ true = let q : e.lo <ℤ m = omega (arith, ints) in true-lt e.lo m q in
          let b : int_lt m z ≡ true = let q : m <ℤ z = omega (arith, ints) in true-lt m z q in
          let c : int_lt m w ≡ false = grind (arith, ints) in
          let x : one_if (int_lt e.lo m && int_lt m w) ≡ 0 = rw (a, c) refl in
          let y : one_if (int_lt e.lo m && int_lt m z) ≡ 1 = rw (a, b) refl in
          omega arith
      | inr s ↦ let more = low_falls-strict ms e w z s h j in omega arith
    ]

threshold_below-is : (ms : List ℤ) (e : Bounds) (z : ℤ) → e.lo ≤ℤ z → (threshold_below ms e z ≡ e.lo) ⊎ Member (threshold_below ms e z) ms
threshold_below-is [] e z h = inl (omega (arith, ints, clamps))
threshold_below-is (m ∷ ms) e z h = by (int_le m z && int_le m e.hi) (threshold_below-is ms e z h)
  where
    larger : (m r : ℤ) → (int_max m r ≡ m) ⊎ (int_max m r ≡ r)
    larger m r = pick (int_lt r m)
      where
        pick : (b : Bool) → ((if b then m else r) ≡ m) ⊎ ((if b then m else r) ≡ r)
        pick true = inl refl
        pick false = inr refl

    by : (b : Bool) → (threshold_below ms e z ≡ e.lo) ⊎ Member (threshold_below ms e z) ms → ((if b then int_max m (threshold_below ms e z) else threshold_below ms e z) ≡ e.lo) ⊎ (((if b then int_max m (threshold_below ms e z) else threshold_below ms e z) ≡ m) ⊎ Member (if b then int_max m (threshold_below ms e z) else threshold_below ms e z) ms)
    by true k =
        elim (larger m (threshold_below ms e z)) [
          | inl s ↦ inr (inl s)
          | inr s ↦ elim k [
            | inl t ↦ inl (s ∙ t)
            | inr t ↦ inr (inr (subst (λ x. Member x ms) (sym s) t))
          ]
        ]
    by false k = elim k [ inl t ↦ inl t | inr t ↦ inr (inr t) ]

-- a low end that falls to a threshold falls seldom enough
low-falls : (ms : List ℤ) (e : Bounds) (l r : ℤ) → e.lo ≤ℤ r → r ≤ℤ e.hi → r <ℤ l → low_falls ms e (threshold_below ms e r) < low_falls ms e l
low-falls ms e l r p t q =
    let w = threshold_below-bounds ms e r p t in
    elim (threshold_below-is ms e r p) [
      | inl s ↦ let up : e.lo <ℤ l = omega (arith, ints) in let k = low_falls-positive ms e l up in subst (λ x. low_falls ms e x < low_falls ms e l) (sym s) (let z = low_falls-zero ms e in omega arith)
      | inr s ↦ at_threshold (threshold_below ms e r) (int_lt e.lo (threshold_below ms e r)) refl s w.1 w.0
    ]
  where
    at_threshold : (w : ℤ) (b : Bool) → int_lt e.lo w ≡ b → Member w ms → w ≤ℤ r → e.lo ≤ℤ w → low_falls ms e w < low_falls ms e l
    at_threshold w true t s h k = let a : e.lo <ℤ w = lower_of e.lo w t in let b : w <ℤ l = omega (arith, ints) in low_falls-strict ms e w l s a b
    at_threshold w false t s h k =
        let same : w ≡ e.lo = grind (arith, ints) in
        let up : e.lo <ℤ l = omega (arith, ints) in
        let j = low_falls-positive ms e l up in
        subst (λ x. low_falls ms e x < low_falls ms e l) (sym same) (let z = low_falls-zero ms e in omega arith)

-- High ends.
high_rises-most : (ms : List ℤ) (e : Bounds) (z : ℤ) → high_rises ms e z ≤ length ms + 1
high_rises-most [] e z = let h = one_if-most (int_lt z e.hi) in omega arith
high_rises-most (m ∷ ms) e z = let h = one_if-most (int_lt m e.hi && int_lt z m) in let k = high_rises-most ms e z in omega arith

high_rises-mono : (ms : List ℤ) (e : Bounds) (w z : ℤ) → z ≤ℤ w → high_rises ms e w ≤ high_rises ms e z
high_rises-mono [] e w z h = one_if-le (int_lt w e.hi) (int_lt z e.hi) (λ t. let a : w <ℤ e.hi = lower_of w e.hi t in let b : z <ℤ e.hi = omega (arith, ints) in true-lt z e.hi b)
high_rises-mono (m ∷ ms) e w z h =
    let k = high_rises-mono ms e w z h in
    let j = one_if-le (int_lt m e.hi && int_lt w m) (int_lt m e.hi && int_lt z m) (λ t.
    let p = and_parts (int_lt m e.hi) (int_lt w m) t in
    let a : w <ℤ m = lower_of w m p.1 in
    let b : z <ℤ m = omega (arith, ints) in
    and_from (int_lt m e.hi) (int_lt z m) p.0 (true-lt z m b)) in
    omega arith

high_rises-positive : (ms : List ℤ) (e : Bounds) (z : ℤ) → z <ℤ e.hi → 0 < high_rises ms e z
high_rises-positive [] e z h = rw (true-lt z e.hi h) (omega arith)
high_rises-positive (m ∷ ms) e z h = let k = high_rises-positive ms e z h in omega arith

high_rises-zero : (ms : List ℤ) (e : Bounds) → high_rises ms e e.hi ≡ 0
high_rises-zero [] e = let no : int_lt e.hi e.hi ≡ false = grind (arith, ints) in rw no refl
high_rises-zero (m ∷ ms) e = let no : (int_lt m e.hi && int_lt e.hi m) ≡ false = never (int_lt m e.hi) (int_lt e.hi m) (λ p q. let a : m <ℤ e.hi = lower_of m e.hi p in let b : e.hi <ℤ m = lower_of e.hi m q in omega (arith, ints)) in let k = high_rises-zero ms e in rw no (omega arith)

high_rises-strict : (ms : List ℤ) (e : Bounds) (w z : ℤ) → Member w ms → w <ℤ e.hi → z <ℤ w → high_rises ms e w < high_rises ms e z
high_rises-strict [] e w z k h j = absurd k
high_rises-strict (m ∷ ms) e w z k h j =
    let le : z ≤ℤ w = omega (arith, ints) in
    let rest = high_rises-mono ms e w z le in
    let here = one_if-le (int_lt m e.hi && int_lt w m) (int_lt m e.hi && int_lt z m) (λ t.
    let p = and_parts (int_lt m e.hi) (int_lt w m) t in
    let a : w <ℤ m = lower_of w m p.1 in
    let b : z <ℤ m = omega (arith, ints) in
    and_from (int_lt m e.hi) (int_lt z m) p.0 (true-lt z m b)) in
    elim k [
      | inl s ↦
          let a : int_lt m e.hi ≡ true = let q : m <ℤ e.hi = omega (arith, ints) in true-lt m e.hi q in
          let b : int_lt z m ≡ true = let q : z <ℤ m = omega (arith, ints) in true-lt z m q in
          let c : int_lt w m ≡ false = grind (arith, ints) in
          let x : one_if (int_lt m e.hi && int_lt w m) ≡ 0 = rw (a, c) refl in
          let y : one_if (int_lt m e.hi && int_lt z m) ≡ 1 = rw (a, b) refl in
          omega arith
      | inr s ↦ let more = high_rises-strict ms e w z s h j in omega arith
    ]

threshold_above-is : (ms : List ℤ) (e : Bounds) (z : ℤ) → z ≤ℤ e.hi → (threshold_above ms e z ≡ e.hi) ⊎ Member (threshold_above ms e z) ms
threshold_above-is [] e z h = inl (omega (arith, ints, clamps))
threshold_above-is (m ∷ ms) e z h = by (int_le z m && int_le e.lo m) (threshold_above-is ms e z h)
  where
    smaller : (m r : ℤ) → (int_min m r ≡ m) ⊎ (int_min m r ≡ r)
    smaller m r = pick (int_lt r m)
      where
        pick : (b : Bool) → ((if b then r else m) ≡ m) ⊎ ((if b then r else m) ≡ r)
        pick true = inr refl
        pick false = inl refl

    by : (b : Bool) → (threshold_above ms e z ≡ e.hi) ⊎ Member (threshold_above ms e z) ms → ((if b then int_min m (threshold_above ms e z) else threshold_above ms e z) ≡ e.hi) ⊎ (((if b then int_min m (threshold_above ms e z) else threshold_above ms e z) ≡ m) ⊎ Member (if b then int_min m (threshold_above ms e z) else threshold_above ms e z) ms)
    by true k =
        elim (smaller m (threshold_above ms e z)) [
          | inl s ↦ inr (inl s)
          | inr s ↦ elim k [
            | inl t ↦ inl (s ∙ t)
            | inr t ↦ inr (inr (subst (λ x. Member x ms) (sym s) t))
          ]
        ]
    by false k = elim k [ inl t ↦ inl t | inr t ↦ inr (inr t) ]

-- a high end that rises to a threshold rises seldom enough
high-rises : (ms : List ℤ) (e : Bounds) (l r : ℤ) → e.lo ≤ℤ r → r ≤ℤ e.hi → l <ℤ r → high_rises ms e (threshold_above ms e r) < high_rises ms e l
high-rises ms e l r p t q =
    let w = threshold_above-bounds ms e r p t in
    elim (threshold_above-is ms e r t) [
      | inl s ↦ let up : l <ℤ e.hi = omega (arith, ints) in let k = high_rises-positive ms e l up in subst (λ x. high_rises ms e x < high_rises ms e l) (sym s) (let z = high_rises-zero ms e in omega arith)
      | inr s ↦ at_threshold (threshold_above ms e r) (int_lt (threshold_above ms e r) e.hi) refl s w.0 w.1
    ]
  where
    at_threshold : (w : ℤ) (b : Bool) → int_lt w e.hi ≡ b → Member w ms → r ≤ℤ w → w ≤ℤ e.hi → high_rises ms e w < high_rises ms e l
    at_threshold w true t s h k = let a : w <ℤ e.hi = lower_of w e.hi t in let b : l <ℤ w = omega (arith, ints) in high_rises-strict ms e w l s a b
    at_threshold w false t s h k =
        let same : w ≡ e.hi = grind (arith, ints) in
        let up : l <ℤ e.hi = omega (arith, ints) in
        let j = high_rises-positive ms e l up in
        subst (λ x. high_rises ms e x < high_rises ms e l) (sym same) (let z = high_rises-zero ms e in omega arith)

-- An end stays, or there are fewer changes left.
abbrev Stays : {A : Type 0} → (A → ℕ) → A → A → Type 0
Stays left new old = (new ≡ old) ⊎ (left new < left old)

low-step : (ms : List ℤ) (e : Bounds) (l r : ℤ) → e.lo ≤ℤ r → r ≤ℤ e.hi → Stays (low_falls ms e) (if int_le l r then l else threshold_below ms e r) l
low-step ms e l r p q = by (int_le l r) refl
  where
    by : (b : Bool) → int_le l r ≡ b → Stays (low_falls ms e) (if b then l else threshold_below ms e r) l
    by true t = inl refl
    by false t = inr (low-falls ms e l r p q (le-false l r t))

high-step : (ms : List ℤ) (e : Bounds) (l r : ℤ) → e.lo ≤ℤ r → r ≤ℤ e.hi → Stays (high_rises ms e) (if int_le r l then l else threshold_above ms e r) l
high-step ms e l r p q = by (int_le r l) refl
  where
    by : (b : Bool) → int_le r l ≡ b → Stays (high_rises ms e) (if b then l else threshold_above ms e r) l
    by true t = inl refl
    by false t = inr (high-rises ms e l r p q (le-false r l t))

-- two parts, each of which stays or has fewer changes left
two-step : (a b c d : ℕ) → (a ≡ b) ⊎ (a < b) → (c ≡ d) ⊎ (c < d) → (a < b) ⊎ (c < d) → a + c < b + d
two-step a b c d p q r =
    elim r [
      | inl s ↦ elim q [ inl t ↦ omega arith | inr t ↦ omega arith ]
      | inr s ↦ elim p [ inl t ↦ omega arith | inr t ↦ omega arith ]
    ]

as-count : {A : Type 0} (left : A → ℕ) (new old : A) → Stays left new old → (left new ≡ left old) ⊎ (left new < left old)
as-count left new old h = elim h [ inl s ↦ inl (ap left s) | inr s ↦ inr s ]

range-step : (ms : List ℤ) (b : Bool) (l r : Bounds) → FitsRange b r → Stays (λ (w : Bounds). low_falls ms (extremes b) w.lo + high_rises ms (extremes b) w.hi) (widen_range ms (extremes b) l r) l
range-step ms b l r h = from (extremes b) h.low h.ordered h.high
  where
    from : (e : Bounds) → e.lo ≤ℤ r.lo → r.lo ≤ℤ r.hi → r.hi ≤ℤ e.hi → Stays (λ (w : Bounds). low_falls ms e w.lo + high_rises ms e w.hi) (widen_range ms e l r) l
    from e p q t =
        let x : r.lo ≤ℤ e.hi = omega (arith, ints) in
        let y : e.lo ≤ℤ r.hi = omega (arith, ints) in
        let lows = low-step ms e l.lo r.lo p x in
        let highs = high-step ms e l.hi r.hi y t in
        let new = widen_range ms e l r in
        elim lows [
          | inl s ↦ elim highs [
            | inl u ↦ inl (λ i. record { lo = s i; hi = u i })
            | inr u ↦ inr (two-step (low_falls ms e new.lo) (low_falls ms e l.lo) (high_rises ms e new.hi) (high_rises ms e l.hi) (inl (ap (low_falls ms e) s)) (inr u) (inr u))
          ]
          | inr s ↦ inr (two-step (low_falls ms e new.lo) (low_falls ms e l.lo) (high_rises ms e new.hi) (high_rises ms e l.hi) (inr s) (as-count (high_rises ms e) new.hi l.hi highs) (inl s))
        ]

slot-step : (ms : List ℤ) (k : Numeric) (r s : SlotRange) → FitsSlot k r → FitsSlot k s → Stays (slot_changes ms) (widen_slot ms r s) r
slot-step ms k r s h g =
    let fits = subst (λ b. FitsRange b s.range) (sym g.0 ∙ h.0) g.1 in
    elim (range-step ms r.is_array r.range s.range fits) [
      | inl t ↦ inl (λ i. record { is_array = r.is_array; range = t i })
      | inr t ↦ inr t
    ]

slots-step : (ms : List ℤ) (ks : List Numeric) (rs qs : List SlotRange) → AllZip FitsSlot ks rs → AllZip FitsSlot ks qs → Stays (slots_changes ms) (map (λ p. widen_slot ms p.0 p.1) (zip rs qs)) rs
slots-step ms [] [] [] h k = inl refl
slots-step ms [] [] (q ∷ qs) h k = absurd k
slots-step ms [] (r ∷ rs) qs h k = absurd h
slots-step ms (n ∷ ks) [] qs h k = absurd h
slots-step ms (n ∷ ks) (r ∷ rs) [] h k = absurd k
slots-step ms (n ∷ ks) (r ∷ rs) (q ∷ qs) h k =
    let rest = slots-step ms ks rs qs h.1 k.1 in
    let new = map (λ p. widen_slot ms p.0 p.1) (zip rs qs) in
    elim (slot-step ms n r q h.0 k.0) [
      | inl s ↦ elim rest [
        | inl t ↦ inl (λ i. s i ∷ t i)
        | inr t ↦ inr (two-step (slot_changes ms (widen_slot ms r q)) (slot_changes ms r) (slots_changes ms new) (slots_changes ms rs) (inl (ap (slot_changes ms) s)) (inr t) (inr t))
      ]
      | inr s ↦ inr (two-step (slot_changes ms (widen_slot ms r q)) (slot_changes ms r) (slots_changes ms new) (slots_changes ms rs) (inr s) (as-count (slots_changes ms) new rs rest) (inl s))
    ]

slot_changes-most : (ms : List ℤ) (s : SlotRange) → slot_changes ms s ≤ 2 * (length ms + 1)
slot_changes-most ms s = let a = low_falls-most ms (extremes s.is_array) s.range.lo in let b = high_rises-most ms (extremes s.is_array) s.range.hi in omega arith

slots_changes-most : (ms : List ℤ) (ks : List Numeric) (rs : List SlotRange) → AllZip FitsSlot ks rs → slots_changes ms rs ≤ most_changes (length ks) (length ms)
slots_changes-most ms [] [] h = omega arith
slots_changes-most ms [] (r ∷ rs) h = absurd h
slots_changes-most ms (k ∷ ks) [] h = absurd h
slots_changes-most ms (k ∷ ks) (r ∷ rs) h =
    let a = slots_changes-most ms ks rs h.1 in
    let b = slot_changes-most ms r in
    rw (spread (length ks) (length ms)) (omega arith)
  where
    spread : (n m : ℕ) → 2 * suc n * (m + 1) ≡ 2 * n * (m + 1) + 2 * (m + 1)
    spread n m = grind arith

state-step : (ms : List ℤ) (l : Layout) (ls : List Layout) (s t : Intervals) → fits s (l ∷ ls) ≡ true → fits t (l ∷ ls) ≡ true → (widen ms s t ≡ s) ⊎ (changes_left ms l (widen ms s t) < changes_left ms l s)
unfolding widen changes_left fits
state-step ms l ls Empty Empty h k = inl refl
state-step ms l ls Empty (Within qs) h k = let a = slots_changes-most ms l.numbers qs (fits_slots-true l.numbers qs k) in inr (omega arith)
state-step ms l ls (Within rs) Empty h k = inl refl
state-step ms l ls (Within rs) (Within qs) h k =
    elim (slots-step ms l.numbers rs qs (fits_slots-true l.numbers rs h) (fits_slots-true l.numbers qs k)) [
      | inl s ↦ inl (ap Within s)
      | inr s ↦ inr s
    ]

state-few : (ms : List ℤ) (l : Layout) (ls : List Layout) (rs : List SlotRange) → fits (Within rs) (l ∷ ls) ≡ true → changes_left ms l (Within rs) ≤ most_changes (length l.numbers) (length ms)
unfolding changes_left fits
state-few ms l ls rs h = slots_changes-most ms l.numbers rs (fits_slots-true l.numbers rs h)

empty-few : (ms : List ℤ) (l : Layout) → changes_left ms l Empty ≡ most_changes (length l.numbers) (length ms) + 1
unfolding changes_left
empty-few ms l = refl

pub widening_does_end : WideningEnds
widening_does_end = record { falls = state-step; few = state-few; few_from_empty = empty-few }

-- The check of an index, and the writing of an element.
use Rattle.std.proofs.Common.{◌≡◌, refl, sym, ap, ◌∙◌, subst, ℕ, zero, suc, ◌<◌, ℤ, pos, negsuc, ◌≤ℤ◌, ◌<ℤ◌, neg_ℤ, int_le, int_lt, ◌&&◌, Bool, true, false, List, [], ◌∷◌, length, slice_set, slice_index_or, Option, Some, None, IfSome, arith, if◌then◌else◌}
use Rattle.std.proofs.lemmas.Int.{ints, clamps}
use Rattle.std.proofs.lemmas.Bool.{and_parts, and_from}
use Rattle.std.proofs.lemmas.List.{length-set, get_or-set_same, get_or-set_other}
use Rattle.std.specs.Int.{int_max, int_min}
use Rattle.std.specs.List.{AllZip}
use Rattle.base_values.proofs.Cases.{less_test}
use Rattle.imp_syntax.specs.declared.words.Relation.TheVariants.{Less, AtMost}
use Rattle.imp_slots.specs.Plain.{Numeric, Layout, Term, Literal, Slot, Length, Negative, Binary, Guard, Compare, And, WriteElement, Does}
use Rattle.imp_slots.specs.Fits.{fits_term, fits_guard, fits_effect, is_array}
use Rattle.concrete_sem.specs.Values.{Number, Int, Array, Variables, Heap, Gives, as_array, number_at, array_at, with_number}
use Rattle.concrete_sem.specs.Evaluation.{value_of, truth_of}
use Rattle.concrete_sem.specs.Effects.{effect_of, with_element}
use Rattle.concrete_sem.specs.Proper.{IsNumber}
use Rattle.concrete_sem.proofs.Numbers.{gives_same}
use Rattle.num_bounds.specs.Bounds.{Bounds, IsPart, Within as Lies, greatest}
use Rattle.num_bounds.specs.Operations.{cut_of}
use Rattle.num_bounds.proofs.Ends.{between-left, le-true, true-le}
use Rattle.dom_numeric.specs.Measures.{measure}
use Rattle.dom_numeric.proofs.Slots.{array-at, slot-measure}
use Rattle.dom_interval_meaning.specs.State.{Intervals, Empty, Within}
use Rattle.dom_interval_meaning.specs.Ranges.{range_at, with_range}
use Rattle.dom_interval_meaning.specs.Operations.{needs, unless_empty, side_of, cut_side, compare, compare_ranges, assume, does, post}
use Rattle.dom_interval_meaning.specs.Covers.{fits}
use Rattle.dom_interval_meaning.specs.declared.slot_range.SlotRange.{SlotRange}
use Rattle.dom_interval_meaning.proofs.SlotLaws.{FitsSlot, at-holds}
use Rattle.dom_interval_meaning.proofs.CompareLaws.{FitsState, assume-fits}
use Rattle.dom_interval_meaning.proofs.Laws.{fits-state}
use Rattle.dom_interval_precise.specs.Best.{IsSlotPart, IsBest}
use Rattle.dom_interval_precise.specs.Sets.{Of, Where, After}
use Rattle.dom_interval_precise.specs.Claims.{IsOperand, AreApart}
use Rattle.dom_interval_precise.proofs.Tight.{Takes, Tight, tight-smallest, tight-more}
use Rattle.dom_interval_precise.proofs.Frames.{fits-length}
use Rattle.dom_interval_precise.proofs.Own.{part-holds}
use Rattle.dom_interval_precise.proofs.Stages.{range-here, by-slot}
use Rattle.dom_interval_precise.proofs.Words.{word-fits}
use Rattle.dom_interval_precise.proofs.Comparisons.{numeral, numeral-value, numeral-ends, operand_range, operand_range-range, range_of-operand, assume-tight, assume-sound, after-sound}
use Rattle.dom_interval_precise.proofs.Statements.{slot-there}

self-parts : (rs : List SlotRange) → AllZip IsSlotPart rs rs
self-parts [] = tt
self-parts (r ∷ rs) = ((omega (arith, ints), omega (arith, ints)), self-parts rs)

-- a slot gets a part of its range
set-parts : (rs : List SlotRange) (x : ℕ) (r : Bounds) → IsPart r (range_at rs x) → AllZip IsSlotPart (with_range rs x r) rs
set-parts [] x r p = tt
set-parts (s ∷ rs) zero r p = (p, self-parts rs)
set-parts (s ∷ rs) (suc x) r p = ((omega (arith, ints), omega (arith, ints)), set-parts rs x r p)

-- an operand has a value in any frame
pub operand-gives : (l : Layout) (v : Variables) (t : Term) → IsOperand t → fits_term l t ≡ true → (z : ℤ) × (value_of v t ≡ Gives z)
unfolding value_of fits_term
operand-gives l v (Literal n) i f = (pos n, refl)
operand-gives l v (Slot x) i f = (_, refl)
operand-gives l v (Length a) i f = (_, refl)
operand-gives l v (Negative t) i f =
    let k = numeral-ends l t i f in
    (neg_ℤ (numeral t), rw (numeral-value v t i) (word-fits (neg_ℤ (numeral t)) (neg_ℤ (numeral t)) refl (omega (arith, ints, k.1)) (omega (arith, ints, k.0))))
operand-gives l v (Binary o a b) i f = absurd i

module _ (l : Layout) (ls : List Layout) (rs : List SlotRange) (fit : AllZip FitsSlot l.numbers rs) where
  -- what is left where 0 is at most an operand is what there is of such
  abbrev Left : Term → Intervals → Type 0
  Left e s = (h : Heap) (vs : List Variables) → Of (l ∷ ls) s h vs → Where (l ∷ ls) (Compare AtMost (Literal 0) e) true (Within rs) h vs

  at_most-true : (v : Variables) (e : Term) (z : ℤ) → value_of v e ≡ Gives z → pos 0 ≤ℤ z → truth_of v (Compare AtMost (Literal 0) e) ≡ Gives true
  unfolding truth_of value_of
  at_most-true v e z g p = rw g (ap Gives (true-le (pos 0) z p))

  kept-left : (e : Term) → ((v : Variables) → (z : ℤ) × (value_of v e ≡ Gives z) × (pos 0 ≤ℤ z)) → Left e (Within rs)
  kept-left e f h [] d = absurd (d.1)
  kept-left e f h (v ∷ vs) d = let z = f v in (d, at_most-true v e z.0 z.1 z.2)

  cut-left : (x : ℕ) (r : Bounds) → fits_term l (Slot x) ≡ true → IsPart r (range_at rs x) → pos 0 ≤ℤ r.lo → Left (Slot x) (Within (with_range rs x r))
  unfolding value_of fits_term
  cut-left x r f p low h [] d = absurd (d.1)
  cut-left x r f p low h (v ∷ vs) d =
      let all = part-holds (with_range rs x r) rs v.numbers (set-parts rs x r p) d.1 in
      let at = subst (λ c. Lies (measure (number_at v x)) c) (range-here rs x r (there f)) (at-holds (with_range rs x r) v.numbers x d.1) in
      let same = slot-measure l v x _ d.0.frames.0.numbers f refl in
      let above : pos 0 ≤ℤ measure (number_at v x) = omega (arith, ints, at.0) in
      ((d.0, all), at_most-true v (Slot x) _ refl (subst (λ z. pos 0 ≤ℤ z) same above))
    where
      there : fits_term l (Slot x) ≡ true → x < length rs
      there f = subst (λ n. x < n) (sym (fits-length l.numbers rs fit)) (slot-there l.numbers false x f)

  needs-left : (e : Term) (o : Option Bounds) (f : Bounds → Intervals) → IfSome o (λ r. Left e (f r)) → Left e (needs o f)
  needs-left e None f h k [] d = absurd (d.1)
  needs-left e None f h k (v ∷ vs) d = absurd (d.1)
  needs-left e (Some r) f h k vs d = h k vs d

  if-left : (e : Term) (b : Bool) (s : Intervals) → (b ≡ false → Left e s) → Left e (if b then Empty else s)
  if-left e true s f h [] d = absurd (d.1)
  if-left e true s f h (v ∷ vs) d = absurd (d.1)
  if-left e false s f h vs d = f refl h vs d

  length-left : (a : ℕ) (r : Bounds) → IsPart r (range_at rs a) → Left (Length a) (Within (with_range rs a r))
  unfolding value_of
  length-left a r p h [] d = absurd (d.1)
  length-left a r p h (v ∷ vs) d = ((d.0, part-holds (with_range rs a r) rs v.numbers (set-parts rs a r p) d.1), at_most-true v (Length a) _ refl (omega (arith, ints)))

  cut-part : (b : Bounds) → b.hi ≤ℤ greatest → IsPart (record { lo = int_max b.lo (pos 0); hi = int_min b.hi greatest }) b
  cut-part b h = (omega (arith, ints, clamps), omega (arith, ints, clamps))

  not-below : (z : ℤ) → int_lt z (pos 0) ≡ false → pos 0 ≤ℤ z
  not-below z h = grind (arith, ints)

  operand-left : (e : Term) → IsOperand e → fits_term l e ≡ true → Left e (if int_lt (operand_range rs e).hi (pos 0) then Empty else cut_side (side_of e) (pos 0) greatest rs)
  unfolding value_of fits_term
  operand-left (Literal n) i f = if-left (Literal n) (int_lt (pos n) (pos 0)) (Within rs) (λ t. kept-left (Literal n) (λ v. (pos n, refl, omega (arith, ints))))
  operand-left (Slot x) i f =
      if-left (Slot x) (int_lt (range_at rs x).hi (pos 0)) (cut_side (Some x) (pos 0) greatest rs) (λ t.
      needs-left (Slot x) (cut_of (range_at rs x) (pos 0) greatest) (λ r. Within (with_range rs x r))
      (between-left (int_max (range_at rs x).lo (pos 0)) (int_min (range_at rs x).hi greatest) (λ r. Left (Slot x) (Within (with_range rs x r))) (λ o.
      cut-left x (record { lo = int_max (range_at rs x).lo (pos 0); hi = int_min (range_at rs x).hi greatest }) f (cut-part (range_at rs x) (operand_range-range l rs (Slot x) tt f fit).high) (omega (arith, ints, clamps)))))
  operand-left (Length a) i f =
      if-left (Length a) (int_lt (range_at rs a).hi (pos 0)) (cut_side (Some a) (pos 0) greatest rs) (λ t.
      needs-left (Length a) (cut_of (range_at rs a) (pos 0) greatest) (λ r. Within (with_range rs a r))
      (between-left (int_max (range_at rs a).lo (pos 0)) (int_min (range_at rs a).hi greatest) (λ r. Left (Length a) (Within (with_range rs a r))) (λ o.
      length-left a (record { lo = int_max (range_at rs a).lo (pos 0); hi = int_min (range_at rs a).hi greatest }) (cut-part (range_at rs a) (operand_range-range l rs (Length a) tt f fit).high))))
  operand-left (Negative t) i f =
      let k = numeral-ends l t i f in
      if-left (Negative t) (int_lt (neg_ℤ (numeral t)) (pos 0)) (Within rs) (λ e.
      kept-left (Negative t) (λ v. (neg_ℤ (numeral t), rw (numeral-value v t i) (word-fits (neg_ℤ (numeral t)) (neg_ℤ (numeral t)) refl (omega (arith, ints, k.1)) (omega (arith, ints, k.0))), not-below (neg_ℤ (numeral t)) e)))
  operand-left (Binary o a b) i f = absurd i

  zero-fits : fits_term l (Literal 0) ≡ true
  unfolding fits_term
  zero-fits = refl

  pub low-left : (e : Term) → IsOperand e → fits_term l e ≡ true → Left e (compare_ranges AtMost (Literal 0) e rs)
  low-left e i f = rw (range_of-operand l rs (Literal 0) tt zero-fits, range_of-operand l rs e i f) (operand-left e i f)

-- the check of an index of an array
abbrev pub index_check : ℕ → Term → Guard
index_check a e = And (Compare AtMost (Literal 0) e) (Compare Less e (Length a))

both-hold : (v : Variables) (g k : Guard) → truth_of v g ≡ Gives true → truth_of v k ≡ Gives true → truth_of v (And g k) ≡ Gives true
unfolding truth_of
both-hold v g k e f = rw e (rw f refl)

-- where the first comparison is assumed and the second is best, the check is best
pub check-tight : (l : Layout) (ls : List Layout) (a : ℕ) (e : Term) (s : Intervals) → FitsState l s → IsOperand e → AreApart (side_of e) (Some a) → is_array l a ≡ true → fits_term l e ≡ true → Tight (Where (l ∷ ls) (index_check a e) true s) (length l.numbers) (assume (index_check a e) true s)
unfolding assume fits_term fits_guard
check-tight l ls a e s h i apart f g =
    let first = compare AtMost (Literal 0) e s in
    let fits_first : FitsState l first = assume-fits l (Compare AtMost (Literal 0) e) true s (and_from (fits_term l (Literal 0)) (fits_term l e) refl g) h in
    tight-more (Where (l ∷ ls) (Compare Less e (Length a)) true first) (Where (l ∷ ls) (index_check a e) true s) (within s h) (length l.numbers) (compare Less e (Length a) first)
    (assume-tight l ls first Less e (Length a) true fits_first i tt apart g f)
  where
    within : (s : Intervals) → FitsState l s → (k : Heap) (vs : List Variables) → Where (l ∷ ls) (Compare Less e (Length a)) true (compare AtMost (Literal 0) e s) k vs → Where (l ∷ ls) (index_check a e) true s k vs
    within s h k [] d = absurd d
    within Empty h k (v ∷ vs) d = absurd (d.0.1)
    within (Within rs) h k (v ∷ vs) d =
        let w = low-left l ls rs h e i g k (v ∷ vs) d.0 in
        (w.0, both-hold v (Compare AtMost (Literal 0) e) (Compare Less e (Length a)) w.1 d.1)

check-parts : (l : Layout) (a : ℕ) (e : Term) → fits_guard l (index_check a e) ≡ true → (fits_term l e ≡ true) × (is_array l a ≡ true)
unfolding fits_guard fits_term
check-parts l a e f =
    let p = and_parts (fits_term l (Literal 0) && fits_term l e) (fits_term l e && fits_term l (Length a)) f in
    let q = and_parts (fits_term l e) (fits_term l (Length a)) p.1 in
    (q.0, q.1)

pub check-best : (l : Layout) (ls : List Layout) (a : ℕ) (e : Term) (s : Intervals) → IsOperand e → AreApart (side_of e) (Some a) → fits_guard l (index_check a e) ≡ true → fits s (l ∷ ls) ≡ true → IsBest (Where (l ∷ ls) (index_check a e) true s) (assume (index_check a e) true s)
check-best l ls a e s i apart f g =
    let p = check-parts l a e f in record {
      sound = assume-sound l ls (index_check a e) true s f g;
      smallest = λ t c. tight-smallest (Where (l ∷ ls) (index_check a e) true s) (length l.numbers) (assume (index_check a e) true s) t (check-tight l ls a e s (fits-state s l ls g) i apart p.1 p.0) c;
    }

-- each configuration of the one set has one of the other whose slots measure the same
pub tight-along : (a b : Heap → List Variables → Type 0) → ((h : Heap) (v : Variables) (vs : List Variables) → a h (v ∷ vs) → (k : Heap) × (u : Variables) × b k (u ∷ vs) × (length u.numbers ≡ length v.numbers) × ((x : ℕ) → measure (number_at u x) ≡ measure (number_at v x))) → (n : ℕ) (s : Intervals) → Tight a n s → Tight b n s
tight-along a b f n Empty h = tt
tight-along a b f n (Within rs) h =
    let s = h.0 in
    let t = f s.0 s.1 s.2 s.3 in
    ((t.0, t.1, s.2, t.2, t.3 ∙ s.4), h.1, λ x lt. (moved x (range_at rs x).lo (h.2 x lt).0, moved x (range_at rs x).hi (h.2 x lt).1))
  where
    moved : (x : ℕ) (z : ℤ) → Takes a x z → Takes b x z
    moved x z t = let u = f t.0 t.1 t.2 t.3 in (u.0, u.1, t.2, u.2, u.4 x ∙ t.4)

-- an index that passes its check is one of the array
pub index-of : (v : Variables) (a : ℕ) (e : Term) (z : ℤ) → value_of v e ≡ Gives z → truth_of v (index_check a e) ≡ Gives true → (pos 0 ≤ℤ z) × (z <ℤ pos (length (array_at v a)))
unfolding value_of truth_of
index-of v a e z g t = by (int_le (pos 0) z) refl (rw g at t)
  where
    by : (b : Bool) → int_le (pos 0) z ≡ b → (if b then Gives (int_lt z (pos (length (array_at v a)))) else Gives false) ≡ Gives true → (pos 0 ≤ℤ z) × (z <ℤ pos (length (array_at v a)))
    by true p q = let r : int_lt z (pos (length (array_at v a))) ≡ true = gives_same q in (le-true (pos 0) z p, grind (arith, ints))
    by false p q = cc

written : (zs : List ℤ) (i z : ℤ) → pos 0 ≤ℤ i → i <ℤ pos (length zs) → (k : ℕ) × (with_element zs i z ≡ Gives (slice_set zs k z))
written zs (pos k) z p q = (k, rw (less_test k (length zs) (omega (arith, ints))) refl)
written zs (negsuc k) z p q = absurd (omega (arith, ints))

-- an array of the same length measures the same
pub same-measure : (ns : List Number) (a x : ℕ) (zs : List ℤ) → a < length ns → measure (slice_index_or ns a (Int (pos 0))) ≡ pos (length zs) → measure (slice_index_or (slice_set ns a (Array zs)) x (Int (pos 0))) ≡ measure (slice_index_or ns x (Int (pos 0)))
same-measure ns a x zs lt e =
    by-slot a x
    (λ same. subst (λ y. measure (slice_index_or (slice_set ns a (Array zs)) y (Int (pos 0))) ≡ measure (slice_index_or ns y (Int (pos 0)))) same (ap measure (get_or-set_same ns a (Array zs) (Int (pos 0)) lt) ∙ sym e))
    (λ ne. ap measure (get_or-set_other ns a x (Array zs) (Int (pos 0)) (λ e. ne (sym e))))

pub numbers-count : (ks : List Numeric) (ns : List Number) → AllZip IsNumber ks ns → length ns ≡ length ks
numbers-count [] [] h = refl
numbers-count [] (n ∷ ns) h = absurd h
numbers-count (k ∷ ks) [] h = absurd h
numbers-count (k ∷ ks) (n ∷ ns) h = ap suc (numbers-count ks ns h.1)

write-along : (l : Layout) (ls : List Layout) (a : ℕ) (e t : Term) (s : Intervals) → is_array l a ≡ true → IsOperand e → fits_term l e ≡ true → IsOperand t → fits_term l t ≡ true → (h : Heap) (v : Variables) (vs : List Variables) → Where (l ∷ ls) (index_check a e) true s h (v ∷ vs) → (k : Heap) × (u : Variables) × After (l ∷ ls) (WriteElement a e t) s k (u ∷ vs) × (length u.numbers ≡ length v.numbers) × ((x : ℕ) → measure (number_at u x) ≡ measure (number_at v x))
unfolding effect_of
write-along l ls a e t s g i f j m h v vs d =
    let numbers = d.0.0.frames.0.numbers in
    let index = operand-gives l v e i f in
    let item = operand-gives l v t j m in
    let inside = index-of v a e index.0 index.1 d.1 in
    let w = written (array_at v a) index.0 item.0 inside.0 inside.1 in
    let zs = slice_set (array_at v a) w.0 item.0 in
    let held = array-at l.numbers v.numbers a numbers g in
    let size : measure (number_at v a) ≡ pos (length zs) = ap measure held.1 ∙ sym (ap (λ n. pos (length (as_array n))) held.1) ∙ ap pos (sym (length-set (array_at v a) w.0 item.0)) in
    let lt : a < length v.numbers = subst (λ n. a < n) (sym (numbers-count l.numbers v.numbers numbers)) (slot-there l.numbers true a g) in
    (h, with_number v a (Array zs), (h, v, d.0, rw (index.1) (rw (item.1) (rw (w.1) refl))), length-set v.numbers a (Array zs), λ x. same-measure v.numbers a x zs lt size)

write-tight : (l : Layout) (ls : List Layout) (a : ℕ) (e t : Term) (s : Intervals) → FitsState l s → IsOperand e → IsOperand t → AreApart (side_of e) (Some a) → is_array l a ≡ true → fits_term l e ≡ true → fits_term l t ≡ true → Tight (After (l ∷ ls) (WriteElement a e t) s) (length l.numbers) (post (Does (WriteElement a e t)) s)
unfolding post does
write-tight l ls a e t s h i j apart g f m =
    by (assume (index_check a e) true s)
    (tight-along (Where (l ∷ ls) (index_check a e) true s) (After (l ∷ ls) (WriteElement a e t) s) (write-along l ls a e t s g i f j m) (length l.numbers) (assume (index_check a e) true s)
    (check-tight l ls a e s h i apart g f))
  where
    by : (r : Intervals) → Tight (After (l ∷ ls) (WriteElement a e t) s) (length l.numbers) r → Tight (After (l ∷ ls) (WriteElement a e t) s) (length l.numbers) (unless_empty r (does (WriteElement a e t)))
    by Empty w = tt
    by (Within rs) w = rw (range_of-operand l rs t j m) w

write-parts : (l : Layout) (a : ℕ) (e t : Term) → fits_effect l (WriteElement a e t) ≡ true → (is_array l a ≡ true) × (fits_term l e ≡ true) × (fits_term l t ≡ true)
unfolding fits_effect
write-parts l a e t f =
    let p = and_parts (is_array l a) (fits_term l e && fits_term l t) f in
    let q = and_parts (fits_term l e) (fits_term l t) p.1 in
    (p.0, q.0, q.1)

pub write-best : (l : Layout) (ls : List Layout) (a : ℕ) (e t : Term) (s : Intervals) → IsOperand e → IsOperand t → AreApart (side_of e) (Some a) → fits_effect l (WriteElement a e t) ≡ true → fits s (l ∷ ls) ≡ true → IsBest (After (l ∷ ls) (WriteElement a e t) s) (post (Does (WriteElement a e t)) s)
write-best l ls a e t s i j apart f g =
    let p = write-parts l a e t f in record {
      sound = after-sound l ls (WriteElement a e t) s f g;
      smallest = λ r c. tight-smallest (After (l ∷ ls) (WriteElement a e t) s) (length l.numbers) (post (Does (WriteElement a e t)) s) r (write-tight l ls a e t s (fits-state s l ls g) i j apart p.0 p.1 p.2) c;
    }

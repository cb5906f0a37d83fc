-- The reading of an element: after the check of the index the element may be any word.
use Rattle.std.proofs.Common.{◌≡◌, ◌≢◌, refl, sym, ap, ◌∙◌, subst, ℕ, zero, suc, ◌<◌, ◌^◌, ◌-◌, ℤ, pos, negsuc, ◌≤ℤ◌, ◌<ℤ◌, true, false, ◌&&◌, List, [], ◌∷◌, length, slice_set, slice_index_or, Some, arith}
use Rattle.std.proofs.lemmas.Int.{ints}
use Rattle.std.proofs.lemmas.Bool.{and_parts, and_from}
use Rattle.std.proofs.lemmas.List.{length-set, get_or-set_same, get_or-set_other}
use Rattle.std.proofs.lemmas.Option.{slice_get-get_or}
use Rattle.std.specs.List.{AllZip}
use Rattle.base_values.proofs.Cases.{less_test}
use Rattle.imp_syntax.specs.declared.words.Operator.TheVariants.{Subtract}
use Rattle.imp_slots.specs.Plain.{Layout, Term, Literal, Slot, Length, Negative, Binary, ReadElement, WriteElement, Does}
use Rattle.imp_slots.specs.Fits.{fits_term, fits_effect, is_int, is_array}
use Rattle.concrete_sem.specs.Values.{Number, Int, Array, Variables, Heap, Gives, as_int, as_array, number_at, array_at, with_number}
use Rattle.concrete_sem.specs.Evaluation.{value_of}
use Rattle.concrete_sem.specs.Effects.{effect_of, element, with_element}
use Rattle.concrete_sem.proofs.Keeps.{effects_keep}
use Rattle.num_bounds.specs.Bounds.{Within as Lies, least, greatest}
use Rattle.dom_numeric.specs.Measures.{measure}
use Rattle.dom_numeric.proofs.Slots.{array-at}
use Rattle.dom_interval_meaning.specs.State.{Intervals, Empty, Within}
use Rattle.dom_interval_meaning.specs.Ranges.{full, range_at, with_range}
use Rattle.dom_interval_meaning.specs.Operations.{unless_empty, side_of, assume, does, post}
use Rattle.dom_interval_meaning.specs.Covers.{Holds, covers, fits}
use Rattle.dom_interval_meaning.specs.declared.slot_range.SlotRange.{SlotRange}
use Rattle.dom_interval_meaning.proofs.CompareLaws.{FitsState}
use Rattle.dom_interval_meaning.proofs.Laws.{fits-state}
use Rattle.dom_interval_precise.specs.Best.{IsBest}
use Rattle.dom_interval_precise.specs.Sets.{Where, After}
use Rattle.dom_interval_precise.specs.Claims.{IsOperand, AreApart}
use Rattle.dom_interval_precise.proofs.Tight.{HasSome, Takes, TakesEnds, Tight, tight-smallest}
use Rattle.dom_interval_precise.proofs.Stages.{range-here, range-else, with-length, by-slot}
use Rattle.dom_interval_precise.proofs.Comparisons.{after-sound, numeral-value}
use Rattle.dom_interval_precise.proofs.Statements.{slot-there}
use Rattle.dom_interval_precise.proofs.Elements.{operand-gives, index_check, check-tight, index-of, same-measure, numbers-count}

-- an expression without variables that has this value
record Constant (z : ℤ) : Type 0 where
  term : Term
  fit : (l : Layout) → fits_term l term ≡ true
  gives : (v : Variables) → value_of v term ≡ Gives z

highest : Constant greatest
unfolding value_of fits_term
highest = record { term = Literal (2 ^ 63 - 1); fit = λ l. refl; gives = λ v. refl }

lowest : Constant least
unfolding value_of fits_term
lowest = record { term = Binary Subtract (Negative (Literal (2 ^ 63 - 1))) (Literal 1); fit = λ l. refl; gives = λ v. refl }

-- The array with z at an index, and what is read there.
record Replaced (zs : List ℤ) (i z : ℤ) : Type 0 where
  place : ℕ
  writes : with_element zs i z ≡ Gives (slice_set zs place z)
  reads : element (slice_set zs place z) i ≡ Gives z

replaced : (zs : List ℤ) (i z : ℤ) → pos 0 ≤ℤ i → i <ℤ pos (length zs) → Replaced zs i z
replaced zs (pos k) z p q =
    let lt : k < length zs = omega (arith, ints) in
    let there : k < length (slice_set zs k z) = subst (λ n. k < n) (sym (length-set zs k z)) lt in
    record {
      place = k;
      writes = rw (less_test k (length zs) lt) refl;
      reads = rw (slice_get-get_or (slice_set zs k z) k (pos 0) there) (ap Gives (get_or-set_same zs k z (pos 0) lt));
    }
replaced zs (negsuc k) z p q = absurd (omega (arith, ints))

-- an operand that is not of the slot keeps its value
value-kept : (v : Variables) (a : ℕ) (m : Number) (e : Term) → IsOperand e → AreApart (side_of e) (Some a) → value_of (with_number v a m) e ≡ value_of v e
unfolding value_of
value-kept v a m (Literal n) i d = refl
value-kept v a m (Slot x) i d = ap (λ n. Gives (as_int n)) (get_or-set_other v.numbers a x m (Int (pos 0)) (λ e. d x refl (ap Some (sym e))))
value-kept v a m (Length b) i d = ap (λ n. Gives (pos (length (as_array n)))) (get_or-set_other v.numbers a b m (Int (pos 0)) (λ e. d b refl (ap Some (sym e))))
value-kept v a m (Negative t) i d = rw (numeral-value v t i, numeral-value (with_number v a m) t i) refl
value-kept v a m (Binary o x y) i d = absurd i

-- an array of the same length lies in the ranges where the array did
still-holds : (rs : List SlotRange) (ns : List Number) (a : ℕ) (m : Number) → measure (slice_index_or ns a (Int (pos 0))) ≡ measure m → AllZip Holds rs ns → AllZip Holds rs (slice_set ns a m)
still-holds [] [] a m e h = tt
still-holds [] (n ∷ ns) a m e h = absurd h
still-holds (r ∷ rs) [] a m e h = absurd h
still-holds (r ∷ rs) (n ∷ ns) zero m e h = (subst (λ z. Lies z r.range) e h.0, h.1)
still-holds (r ∷ rs) (n ∷ ns) (suc a) m e h = (h.0, still-holds rs ns a m e h.1)

still-covers : (s : Intervals) (h : Heap) (v : Variables) (vs : List Variables) (a : ℕ) (m : Number) → measure (number_at v a) ≡ measure m → covers s h (v ∷ vs) → covers s h (with_number v a m ∷ vs)
still-covers Empty h v vs a m e c = absurd c
still-covers (Within rs) h v vs a m e c = still-holds rs v.numbers a m e c

-- A configuration after the reading: x is z, and all else measures what it did.
record Reads (l : Layout) (ls : List Layout) (x a : ℕ) (e : Term) (s : Intervals) (v : Variables) (vs : List Variables) (z : ℤ) : Type 0 where
  heap : Heap
  after : Variables
  reached : After (l ∷ ls) (ReadElement x a e) s heap (after ∷ vs)
  count : length after.numbers ≡ length v.numbers
  here : x < length v.numbers → measure (number_at after x) ≡ z
  others : (y : ℕ) → x ≢ y → measure (number_at after y) ≡ measure (number_at v y)

module _ (l : Layout) (ls : List Layout) (x a : ℕ) (e : Term) (s : Intervals) (g : is_array l a ≡ true) (i : IsOperand e) (f : fits_term l e ≡ true) (apart : AreApart (side_of e) (Some a)) where
  write-fits : (t : Term) → fits_term l t ≡ true → fits_effect l (WriteElement a e t) ≡ true
  unfolding fits_effect
  write-fits t m = and_from (is_array l a) (fits_term l e && fits_term l t) g (and_from (fits_term l e) (fits_term l t) f m)

  reading : (h : Heap) (v : Variables) (vs : List Variables) (z : ℤ) → Constant z → Where (l ∷ ls) (index_check a e) true s h (v ∷ vs) → Reads l ls x a e s v vs z
  unfolding effect_of
  reading h v vs z c d =
      let numbers = d.0.0.frames.0.numbers in
      let index = operand-gives l v e i f in
      let inside = index-of v a e index.0 index.1 d.1 in
      let w = replaced (array_at v a) index.0 z inside.0 inside.1 in
      let zs = slice_set (array_at v a) w.place z in
      let held = array-at l.numbers v.numbers a numbers g in
      let size : measure (number_at v a) ≡ pos (length zs) = ap measure held.1 ∙ sym (ap (λ n. pos (length (as_array n))) held.1) ∙ ap pos (sym (length-set (array_at v a) w.place z)) in
      let lt : a < length v.numbers = subst (λ n. a < n) (sym (numbers-count l.numbers v.numbers numbers)) (slot-there l.numbers true a g) in
      let u = with_number v a (Array zs) in
      let wrote : effect_of (WriteElement a e c.term) h v ≡ Gives (h, u) = rw (index.1) (rw (c.gives v) (rw (w.writes) refl)) in
      let proper = effects_keep (WriteElement a e c.term) l ls h v vs (h, u) (write-fits c.term (c.fit l)) wrote d.0.0 in
      let array : array_at u a ≡ zs = ap as_array (get_or-set_same v.numbers a (Array zs) (Int (pos 0)) lt) in
      let read : effect_of (ReadElement x a e) h u ≡ Gives (h, with_number u x (Int z)) = rw (value-kept v a (Array zs) e i apart ∙ index.1) (rw array (rw (w.reads) refl)) in
      let count : length u.numbers ≡ length v.numbers = length-set v.numbers a (Array zs) in
      record {
        heap = h;
        after = with_number u x (Int z);
        reached = (h, u, (proper, still-covers s h v vs a (Array zs) size d.0.1), read);
        count = length-set u.numbers x (Int z) ∙ count;
        here = λ there. ap measure (get_or-set_same u.numbers x (Int z) (Int (pos 0)) (subst (λ n. x < n) (sym count) there));
        others = λ y ne. ap measure (get_or-set_other u.numbers x y (Int z) (Int (pos 0)) (λ e. ne (sym e))) ∙ same-measure v.numbers a y zs lt size;
      }

  abbrev after : Heap → List Variables → Type 0
  after = After (l ∷ ls) (ReadElement x a e) s

  some-after : (n : ℕ) → HasSome (Where (l ∷ ls) (index_check a e) true s) n → HasSome after n
  some-after n t = let r = reading t.0 t.1 t.2 least lowest t.3 in (r.heap, r.after, t.2, r.reached, r.count ∙ t.4)

  takes-here : (n : ℕ) (z : ℤ) → Constant z → x < n → HasSome (Where (l ∷ ls) (index_check a e) true s) n → Takes after x z
  takes-here n z c lt t = let r = reading t.0 t.1 t.2 z c t.3 in (r.heap, r.after, t.2, r.reached, r.here (subst (λ m. x < m) (sym t.4) lt))

  takes-else : (y : ℕ) (z : ℤ) → x ≢ y → Takes (Where (l ∷ ls) (index_check a e) true s) y z → Takes after y z
  takes-else y z ne t = let r = reading t.0 t.1 t.2 least lowest t.3 in (r.heap, r.after, t.2, r.reached, r.others y ne ∙ t.4)

  read-after : (n : ℕ) (r : Intervals) → x < n → Tight (Where (l ∷ ls) (index_check a e) true s) n r → Tight after n (unless_empty r (does (ReadElement x a e)))
  unfolding does
  read-after n Empty lt h = tt
  read-after n (Within rs) lt h = (
    some-after n h.0,
    with-length rs x full ∙ h.1,
    λ y there. by-slot x y
        (λ same. subst (λ m. TakesEnds after m (range_at (with_range rs x full) m)) same
        (subst (TakesEnds after x) (sym (range-here rs x full (subst (λ m. x < m) (sym h.1) lt))) (takes-here n least lowest lt h.0, takes-here n greatest highest lt h.0)))
        (λ ne. subst (TakesEnds after y) (sym (range-else rs x y full ne)) (takes-else y (range_at rs y).lo ne (h.2 y there).0, takes-else y (range_at rs y).hi ne (h.2 y there).1)),
  )

  read-tight : FitsState l s → is_int l x ≡ true → Tight after (length l.numbers) (post (Does (ReadElement x a e)) s)
  unfolding post
  read-tight h k = read-after (length l.numbers) (assume (index_check a e) true s) (slot-there l.numbers false x k) (check-tight l ls a e s h i apart g f)

read-parts : (l : Layout) (x a : ℕ) (e : Term) → fits_effect l (ReadElement x a e) ≡ true → (is_int l x ≡ true) × (is_array l a ≡ true) × (fits_term l e ≡ true)
unfolding fits_effect
read-parts l x a e f = let p = and_parts (is_int l x) (is_array l a && fits_term l e) f in let q = and_parts (is_array l a) (fits_term l e) p.1 in (p.0, q.0, q.1)

pub read-best : (l : Layout) (ls : List Layout) (x a : ℕ) (e : Term) (s : Intervals) → IsOperand e → AreApart (side_of e) (Some a) → fits_effect l (ReadElement x a e) ≡ true → fits s (l ∷ ls) ≡ true → IsBest (After (l ∷ ls) (ReadElement x a e) s) (post (Does (ReadElement x a e)) s)
read-best l ls x a e s i apart f g =
    let p = read-parts l x a e f in record {
      sound = after-sound l ls (ReadElement x a e) s f g;
      smallest = λ r c. tight-smallest (After (l ∷ ls) (ReadElement x a e) s) (length l.numbers) (post (Does (ReadElement x a e)) s) r (read-tight l ls x a e s p.1 i p.2 apart (fits-state s l ls g) p.0) c;
    }

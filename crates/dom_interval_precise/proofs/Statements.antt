-- Simple statements: what is taken at the ends of the ranges after them.
use Rattle.std.proofs.Common.{◌≡◌, ◌≢◌, refl, sym, ap, ◌∙◌, subst, ℕ, zero, suc, ◌<◌, ℤ, pos, negsuc, ◌≤◌, ◌≤ℤ◌, nat_le, replicate, Bool, true, false, List, [], ◌∷◌, length, slice_get, slice_set, Option, Some, None, arith, All}
use Rattle.std.proofs.lemmas.Int.{ints, clamps}
use Rattle.std.proofs.lemmas.Bool.{and_parts}
use Rattle.std.proofs.lemmas.List.{length-replicate, length-set, get_or-set_same, get_or-set_other}
use Rattle.std.proofs.lemmas.List.Elements.{All-nil, All-cons}
use Rattle.std.proofs.lemmas.Bool.Decides.{nat_tests}
use Rattle.std.specs.Int.{int_max, int_min}
use Rattle.std.specs.List.{AllZip}
use Rattle.imp_slots.specs.Plain.{Numeric, Layout, Term, Length, Effect, Skip, Assert, SetInt, Input, ReadElement, ReadItem, MakeArray, CopyArray, WriteElement, SetNull, MakeCell, CopyLink, ReadNext, WriteNext, WriteItem, Does}
use Rattle.imp_slots.specs.Fits.{fits_term, fits_effect, is_kind, is_int, is_array, is_link}
use Rattle.concrete_sem.specs.Values.{Number, Int, Array, Variables, Heap, Gives, IsWord, array_at, link_at, with_number}
use Rattle.concrete_sem.specs.Evaluation.{value_of}
use Rattle.concrete_sem.specs.Effects.{effect_of, new_array}
use Rattle.concrete_sem.specs.Passing.{first_variables}
use Rattle.concrete_sem.specs.Proper.{IsProper}
use Rattle.concrete_sem.proofs.Numbers.{gives_same, is_word_zero}
use Rattle.base_values.proofs.Cases.{less_of}
use Rattle.num_bounds.specs.Bounds.{Bounds, Within as Lies, least, greatest}
use Rattle.num_bounds.specs.Operations.{single, cut_of}
use Rattle.num_bounds.proofs.Ends.{same_ends, between-left}
use Rattle.dom_numeric.specs.Measures.{measure, longest}
use Rattle.dom_numeric.proofs.Slots.{kind-none}
use Rattle.dom_interval_meaning.specs.State.{Intervals, Empty, Within}
use Rattle.dom_interval_meaning.specs.Ranges.{full, range_at, with_range}
use Rattle.dom_interval_meaning.specs.Operations.{side_of, assume, does, post}
use Rattle.dom_interval_meaning.specs.Covers.{fits}
use Rattle.dom_interval_meaning.specs.declared.slot_range.SlotRange.{SlotRange}
use Rattle.dom_interval_meaning.proofs.SlotLaws.{FitsSlot, at-fits}
use Rattle.dom_interval_meaning.proofs.CompareLaws.{FitsState}
use Rattle.dom_interval_meaning.proofs.Laws.{fits-state, post_empty}
use Rattle.dom_interval_precise.specs.Best.{IsBest}
use Rattle.dom_interval_precise.specs.Sets.{After}
use Rattle.dom_interval_precise.specs.Claims.{IsNumeral, IsOperand, IsPlain}
use Rattle.dom_interval_precise.proofs.Frames.{LieAll, as_length, length-measures, linked, frame, first_frames, bare, one_cell, to_cell, to-cell-at, linked-proper, frame-proper, fill, fill-holds, fill-length, fits-length, frame-measures, lows, lows-lie, put, put-here, put-lies, put_at, put_at-here, put_at-lies, word-from}
use Rattle.dom_interval_precise.proofs.Tight.{HasSome, Takes, TakesEnds, Tight, tight-smallest, needs-tight}
use Rattle.dom_interval_precise.proofs.Stages.{range-here, range-else, with-length, by-slot}
use Rattle.dom_interval_precise.proofs.Comparisons.{operand_range, operand_value, range_of-operand, linked-value, value_of-operand, operand-is, operand_range-side, operand_range-range, numeral, numeral-range, numeral-value, numeral-ends, after-sound}

-- a slot of a kind is there
pub slot-there : (ks : List Numeric) (b : Bool) (x : ℕ) → is_kind b (slice_get ks x) ≡ true → x < length ks
slot-there [] b x e = absurd (kind-none b e)
slot-there (k ∷ ks) b zero e = omega arith
slot-there (k ∷ ks) b (suc x) e = let lt = slot-there ks b x e in omega arith

array-made : (z : ℤ) → pos 0 ≤ℤ z → z ≤ℤ longest → new_array z ≡ Gives (replicate (as_length z) (pos 0))
array-made (pos n) p q = let t : nat_le n 1000000 ≡ true = few n q in rw t refl
  where
    few : (n : ℕ) → pos n ≤ℤ longest → nat_le n 1000000 ≡ true
    few n q = let h : n ≤ 1000000 = omega (arith, ints) in grind (arith, nat_tests)
array-made (negsuc n) p q = absurd (omega (arith, ints))

-- From a frame of our choice the statement sets the slot to a number of this measure.
pub record Sets (l : Layout) (ls : List Layout) (rs : List SlotRange) (e : Effect) (x : ℕ) (z : ℤ) (f : ℕ → ℤ) : Type 0 where
  pub lie : LieAll rs f
  pub before : Heap
  pub links : List (Option ℕ)
  pub proper : IsProper before (linked l links f ∷ first_frames ls) (l ∷ ls)
  pub after : Heap
  pub number : Number
  pub step : effect_of e before (linked l links f) ≡ Gives (after, with_number (linked l links f) x number)
  pub is : measure number ≡ z

-- From a frame of our choice the statement sets no numeric slot.
pub record Keeps (l : Layout) (ls : List Layout) (e : Effect) (f : ℕ → ℤ) : Type 0 where
  pub before : Heap
  pub links : List (Option ℕ)
  pub proper : IsProper before (linked l links f ∷ first_frames ls) (l ∷ ls)
  pub after : Heap
  pub later : List (Option ℕ)
  pub step : effect_of e before (linked l links f) ≡ Gives (after, linked l later f)

module _ (l : Layout) (ls : List Layout) (rs : List SlotRange) (fit : AllZip FitsSlot l.numbers rs) where
  abbrev after : Effect → Heap → List Variables → Type 0
  after e = After (l ∷ ls) e (Within rs)

  numbers-length : (f : ℕ → ℤ) (x : ℕ) (m : Number) → length (slice_set (fill l.numbers f) x m) ≡ length l.numbers
  numbers-length f x m = length-set (fill l.numbers f) x m ∙ fill-length l.numbers f

  set-reached : (e : Effect) (x : ℕ) (z : ℤ) (f : ℕ → ℤ) (s : Sets l ls rs e x z f) → after e s.after (with_number (linked l s.links f) x s.number ∷ first_frames ls)
  set-reached e x z f s = (s.before, linked l s.links f, (s.proper, fill-holds l.numbers rs f fit s.lie), s.step)

  here : (e : Effect) (x : ℕ) (z : ℤ) (f : ℕ → ℤ) → x < length l.numbers → Sets l ls rs e x z f → Takes (after e) x z
  here e x z f lt s = (
    s.after,
    with_number (linked l s.links f) x s.number,
    first_frames ls,
    set-reached e x z f s,
    ap measure (get_or-set_same (fill l.numbers f) x s.number (Int (pos 0)) (subst (λ n. x < n) (sym (fill-length l.numbers f)) lt)) ∙ s.is,
  )

  apart : (e : Effect) (x y : ℕ) (w : ℤ) (f : ℕ → ℤ) → x ≢ y → y < length l.numbers → Sets l ls rs e x w f → Takes (after e) y (f y)
  apart e x y w f ne lt s = (
    s.after,
    with_number (linked l s.links f) x s.number,
    first_frames ls,
    set-reached e x w f s,
    ap measure (get_or-set_other (fill l.numbers f) x y s.number (Int (pos 0)) (λ e. ne (sym e))) ∙ frame-measures l rs f y (subst (λ n. y < n) (sym (fits-length l.numbers rs fit)) lt) fit s.lie,
  )

  some : (e : Effect) (x : ℕ) (z : ℤ) (f : ℕ → ℤ) → Sets l ls rs e x z f → HasSome (after e) (length l.numbers)
  some e x z f s = (s.after, with_number (linked l s.links f) x s.number, first_frames ls, set-reached e x z f s, numbers-length f x s.number)

  -- The slot takes both ends of its new range, and another slot each number of its range.
  pub set-tight : (e : Effect) (x : ℕ) (r : Bounds) → x < length l.numbers → ((f : ℕ → ℤ) × Sets l ls rs e x r.lo f) → ((g : ℕ → ℤ) × Sets l ls rs e x r.hi g) → ((y : ℕ) (z : ℤ) → x ≢ y → Lies z (range_at rs y) → (f : ℕ → ℤ) × (w : ℤ) × (f y ≡ z) × Sets l ls rs e x w f) → Tight (after e) (length l.numbers) (Within (with_range rs x r))
  set-tight e x r lt low high other =
      let n = fits-length l.numbers rs fit in (
        some e x r.lo low.0 low.1,
        with-length rs x r ∙ n,
        λ y there. by-slot x y
            (λ same. subst (λ m. TakesEnds (after e) m (range_at (with_range rs x r) m)) same
            (subst (TakesEnds (after e) x) (sym (range-here rs x r (subst (λ m. x < m) (sym n) lt))) (here e x r.lo low.0 lt low.1, here e x r.hi high.0 lt high.1)))
            (λ ne.
            let o = (at-fits l.numbers rs y fit).ordered in
            let a = other y (range_at rs y).lo ne (omega (arith, ints), o) in
            let b = other y (range_at rs y).hi ne (o, omega (arith, ints)) in
            subst (TakesEnds (after e) y) (sym (range-else rs x y r ne))
            (subst (Takes (after e) y) a.2 (apart e x y a.1 a.0 ne there a.3), subst (Takes (after e) y) b.2 (apart e x y b.1 b.0 ne there b.3))),
      )

  keep-reached : (e : Effect) (f : ℕ → ℤ) → LieAll rs f → (s : Keeps l ls e f) → after e s.after (linked l s.later f ∷ first_frames ls)
  keep-reached e f w s = (s.before, linked l s.links f, (s.proper, fill-holds l.numbers rs f fit w), s.step)

  -- no numeric slot is set
  kept-tight : (e : Effect) → ((f : ℕ → ℤ) → LieAll rs f → Keeps l ls e f) → Tight (after e) (length l.numbers) (Within rs)
  kept-tight e keeps =
      let n = fits-length l.numbers rs fit in
      let low = lows-lie l.numbers rs fit in
      let s = keeps (lows rs) low in (
        (s.after, linked l s.later (lows rs), first_frames ls, keep-reached e (lows rs) low s, fill-length l.numbers (lows rs)),
        n,
        λ x lt.
            let o = (at-fits l.numbers rs x fit).ordered in
            (takes x (range_at rs x).lo lt (omega (arith, ints), o), takes x (range_at rs x).hi lt (o, omega (arith, ints))),
      )
    where
      takes : (x : ℕ) (z : ℤ) → x < length l.numbers → Lies z (range_at rs x) → Takes (after e) x z
      takes x z lt w =
          let f = put x z (lows rs) in
          let c = put-lies rs x z (lows rs) w (lows-lie l.numbers rs fit) in
          let s = keeps f c in
          (s.after, linked l s.later f, first_frames ls, keep-reached e f c s, frame-measures l rs f x (subst (λ m. x < m) (sym (fits-length l.numbers rs fit)) lt) fit c ∙ put-here x z (lows rs))

  -- a statement that needs no cell, on the frame with null links
  bare-keeps : (e : Effect) (f : ℕ → ℤ) (k : Heap) (later : List (Option ℕ)) → LieAll rs f → effect_of e (bare []) (frame l f) ≡ Gives (k, linked l later f) → Keeps l ls e f
  bare-keeps e f k later w step = record {
    before = bare [];
    links = (first_variables l).links;
    proper = frame-proper l ls [] rs f (All-nil IsWord) fit w;
    after = k;
    later = later;
    step = step;
  }

  pub bare-sets : (e : Effect) (x : ℕ) (z : ℤ) (f : ℕ → ℤ) (zs : List ℤ) (m : Number) → LieAll rs f → All IsWord zs → effect_of e (bare zs) (frame l f) ≡ Gives (bare [], with_number (frame l f) x m) → measure m ≡ z → Sets l ls rs e x z f
  bare-sets e x z f zs m w i step is = record {
    lie = w;
    before = bare zs;
    links = (first_variables l).links;
    proper = frame-proper l ls zs rs f i fit w;
    after = bare [];
    number = m;
    step = step;
    is = is;
  }

  -- an operand has a value in each frame, and takes each number of its range
  operand-sets : (x : ℕ) (t : Term) (z : ℤ) (f : ℕ → ℤ) → IsOperand t → fits_term l t ≡ true → LieAll rs f → operand_value f t ≡ z → Sets l ls rs (SetInt x t) x z f
  unfolding effect_of
  operand-sets x t z f i g h e = bare-sets (SetInt x t) x z f [] (Int z) h (All-nil IsWord) (rw (value_of-operand l rs f t i g fit h ∙ ap Gives e) refl) refl

  at_operand : (t : Term) (z : ℤ) → IsOperand t → Lies z (operand_range rs t) → LieAll rs (put_at (side_of t) z (lows rs)) × (operand_value (put_at (side_of t) z (lows rs)) t ≡ z)
  at_operand t z i w = (
    put_at-lies rs (side_of t) z (lows rs) (λ x e. subst (λ r. Lies z r) (sym (operand_range-side rs t x i e)) w) (lows-lie l.numbers rs fit),
    operand-is rs (put_at (side_of t) z (lows rs)) t z i w (λ x e. put_at-here (side_of t) x z (lows rs) e),
  )

  operand-takes : (x : ℕ) (t : Term) (z : ℤ) → IsOperand t → fits_term l t ≡ true → Lies z (operand_range rs t) → (f : ℕ → ℤ) × Sets l ls rs (SetInt x t) x z f
  operand-takes x t z i g w = let c = at_operand t z i w in (put_at (side_of t) z (lows rs), operand-sets x t z (put_at (side_of t) z (lows rs)) i g c.0 c.1)

  set_operand-tight : (x : ℕ) (t : Term) → IsOperand t → is_int l x ≡ true → fits_term l t ≡ true → Tight (after (SetInt x t)) (length l.numbers) (Within (with_range rs x (operand_range rs t)))
  set_operand-tight x t i g h =
      let r = operand_range rs t in
      let o = (operand_range-range l rs t i h fit).ordered in
      set-tight (SetInt x t) x r (slot-there l.numbers false x g) (operand-takes x t r.lo i h (omega (arith, ints), o)) (operand-takes x t r.hi i h (o, omega (arith, ints)))
      (λ y z ne w.
      let f = put y z (lows rs) in
      (f, operand_value f t, put-here y z (lows rs), operand-sets x t (operand_value f t) f i h (put-lies rs y z (lows rs) w (lows-lie l.numbers rs fit)) refl))

  input-sets : (x : ℕ) (z : ℤ) (f : ℕ → ℤ) → IsWord z → LieAll rs f → Sets l ls rs (Input x) x z f
  unfolding effect_of
  input-sets x z f i h = bare-sets (Input x) x z f (z ∷ []) (Int z) h (All-cons IsWord z [] i (All-nil IsWord)) refl refl

  copy-sets : (a b : ℕ) (z : ℤ) (f : ℕ → ℤ) → is_array l b ≡ true → LieAll rs f → f b ≡ z → Sets l ls rs (CopyArray a b) a z f
  unfolding effect_of value_of fits_term
  copy-sets a b z f g h e =
      bare-sets (CopyArray a b) a z f [] (Array (array_at (frame l f) b)) h (All-nil IsWord) refl (gives_same (value_of-operand l rs f (Length b) tt g fit h) ∙ e)

  copy-takes : (a b : ℕ) (z : ℤ) → is_array l b ≡ true → Lies z (range_at rs b) → (f : ℕ → ℤ) × Sets l ls rs (CopyArray a b) a z f
  copy-takes a b z g w = (put b z (lows rs), copy-sets a b z (put b z (lows rs)) g (put-lies rs b z (lows rs) w (lows-lie l.numbers rs fit)) (put-here b z (lows rs)))

  copy-tight : (a b : ℕ) → is_array l a ≡ true → is_array l b ≡ true → Tight (after (CopyArray a b)) (length l.numbers) (Within (with_range rs a (range_at rs b)))
  copy-tight a b g h =
      let r = range_at rs b in
      let o = (at-fits l.numbers rs b fit).ordered in
      set-tight (CopyArray a b) a r (slot-there l.numbers true a g) (copy-takes a b r.lo h (omega (arith, ints), o)) (copy-takes a b r.hi h (o, omega (arith, ints)))
      (λ y z ne w.
      let f = put y z (lows rs) in
      (f, f b, put-here y z (lows rs), copy-sets a b (f b) f h (put-lies rs y z (lows rs) w (lows-lie l.numbers rs fit)) refl))

  -- a number is read from the one cell
  item-sets : (x q : ℕ) (z : ℤ) (f : ℕ → ℤ) → IsWord z → is_link l q ≡ true → LieAll rs f → Sets l ls rs (ReadItem x q) x z f
  unfolding effect_of
  item-sets x q z f i g h = record {
    lie = h;
    before = one_cell z;
    links = to_cell l.links;
    proper = linked-proper l ls z rs f i fit h;
    after = one_cell z;
    number = Int z;
    step = rw (to-cell-at l.links q (less_of q (length l.links) g)) refl;
    is = refl;
  }

  -- a slot is set to any word
  any-tight : (e : Effect) (x : ℕ) → x < length l.numbers → ((z : ℤ) (f : ℕ → ℤ) → IsWord z → LieAll rs f → Sets l ls rs e x z f) → Tight (after e) (length l.numbers) (Within (with_range rs x full))
  any-tight e x lt sets =
      let low = lows-lie l.numbers rs fit in
      let a : IsWord least = word-from least (omega (arith, ints)) (omega (arith, ints)) in
      let b : IsWord greatest = word-from greatest (omega (arith, ints)) (omega (arith, ints)) in
      set-tight e x full lt (lows rs, sets least (lows rs) a low) (lows rs, sets greatest (lows rs) b low)
      (λ y z ne w. (put y z (lows rs), least, put-here y z (lows rs), sets least (put y z (lows rs)) a (put-lies rs y z (lows rs) w low)))

  -- a statement that follows a link to the one cell
  cell-keeps : (e : Effect) (f : ℕ → ℤ) (k : Heap) (later : List (Option ℕ)) → LieAll rs f → effect_of e (one_cell (pos 0)) (linked l (to_cell l.links) f) ≡ Gives (k, linked l later f) → Keeps l ls e f
  cell-keeps e f k later w step = record {
    before = one_cell (pos 0);
    links = to_cell l.links;
    proper = linked-proper l ls (pos 0) rs f is_word_zero fit w;
    after = k;
    later = later;
    step = step;
  }

  next-keeps : (p q : ℕ) (f : ℕ → ℤ) → is_link l q ≡ true → LieAll rs f → Keeps l ls (ReadNext p q) f
  unfolding effect_of
  next-keeps p q f g w = cell-keeps (ReadNext p q) f (one_cell (pos 0)) (slice_set (to_cell l.links) p None) w (rw (to-cell-at l.links q (less_of q (length l.links) g)) refl)

  write_next-keeps : (p q : ℕ) (f : ℕ → ℤ) → is_link l p ≡ true → LieAll rs f → Keeps l ls (WriteNext p q) f
  unfolding effect_of
  write_next-keeps p q f g w =
      cell-keeps (WriteNext p q) f (record { cells = record { item = pos 0; next = link_at (linked l (to_cell l.links) f) q } ∷ []; inputs = [] }) (to_cell l.links) w (rw (to-cell-at l.links p (less_of p (length l.links) g)) refl)

  write_item-keeps : (p : ℕ) (t : Term) (f : ℕ → ℤ) → is_link l p ≡ true → IsOperand t → fits_term l t ≡ true → LieAll rs f → Keeps l ls (WriteItem p t) f
  unfolding effect_of
  write_item-keeps p t f g i h w =
      cell-keeps (WriteItem p t) f (one_cell (operand_value f t)) (to_cell l.links) w
      (rw (linked-value l (to_cell l.links) rs f t i h fit w) (rw (to-cell-at l.links p (less_of p (length l.links) g)) refl))

  make-sets : (a : ℕ) (t : Term) (f : ℕ → ℤ) → IsNumeral t → pos 0 ≤ℤ numeral t → numeral t ≤ℤ longest → LieAll rs f → Sets l ls rs (MakeArray a t) a (numeral t) f
  unfolding effect_of
  make-sets a t f i low high w =
      bare-sets (MakeArray a t) a (numeral t) f [] (Array (replicate (as_length (numeral t)) (pos 0))) w (All-nil IsWord) (rw (numeral-value (frame l f) t i) (rw (array-made (numeral t) low high) refl))
      (ap pos (length-replicate (as_length (numeral t)) (pos 0)) ∙ length-measures (numeral t) low)

  make-tight : (a : ℕ) (t : Term) → IsNumeral t → is_array l a ≡ true → fits_term l t ≡ true → Tight (after (MakeArray a t)) (length l.numbers) (does (MakeArray a t) rs)
  unfolding does
  make-tight a t i g h =
      let k = numeral-ends l t i h in
      let low = lows-lie l.numbers rs fit in
      rw (numeral-range (range_at rs) t i)
      (needs-tight (after (MakeArray a t)) (length l.numbers) (cut_of (single (numeral t)) (pos 0) longest) (λ c. Tight (after (MakeArray a t)) (length l.numbers) (Within (with_range rs a c))) (λ c. Within (with_range rs a c))
      (between-left (int_max (numeral t) (pos 0)) (int_min (numeral t) longest) (λ c. Tight (after (MakeArray a t)) (length l.numbers) (Within (with_range rs a c))) (λ o.
      let top : numeral t ≤ℤ longest = omega (arith, ints, clamps, k.0) in
      let same : single (numeral t) ≡ record { lo = int_max (numeral t) (pos 0); hi = int_min (numeral t) longest } = same_ends (omega (arith, ints, clamps, k.0)) (omega (arith, ints, clamps)) in
      subst (λ c. Tight (after (MakeArray a t)) (length l.numbers) (Within (with_range rs a c))) same
      (set-tight (MakeArray a t) a (single (numeral t)) (slot-there l.numbers true a g) (lows rs, make-sets a t (lows rs) i k.0 top low) (lows rs, make-sets a t (lows rs) i k.0 top low)
      (λ y z ne w. (put y z (lows rs), numeral t, put-here y z (lows rs), make-sets a t (put y z (lows rs)) i k.0 top (put-lies rs y z (lows rs) w low))))))
      (λ c h. h))

  plain-tight : (e : Effect) → IsPlain e → fits_effect l e ≡ true → Tight (after e) (length l.numbers) (does e rs)
  unfolding does fits_effect effect_of
  plain-tight Skip i f = kept-tight Skip (λ f w. bare-keeps Skip f (bare []) (first_variables l).links w refl)
  plain-tight (Assert g) i f = absurd i
  plain-tight (SetInt x e) i f =
      let p = and_parts (is_int l x) (fits_term l e) f in
      rw (range_of-operand l rs e i p.1) (set_operand-tight x e i p.0 p.1)
  plain-tight (Input x) i f = any-tight (Input x) x (slot-there l.numbers false x f) (input-sets x)
  plain-tight (ReadElement x a e) i f = absurd i
  plain-tight (ReadItem x q) i f = let p = and_parts (is_int l x) (is_link l q) f in any-tight (ReadItem x q) x (slot-there l.numbers false x p.0) (λ z f i h. item-sets x q z f i p.1 h)
  plain-tight (MakeArray a e) i f = let p = and_parts (is_array l a) (fits_term l e) f in make-tight a e i p.0 p.1
  plain-tight (CopyArray a b) i f = let p = and_parts (is_array l a) (is_array l b) f in copy-tight a b p.0 p.1
  plain-tight (WriteElement a e g) i f = absurd i
  plain-tight (SetNull p) i f = kept-tight (SetNull p) (λ f w. bare-keeps (SetNull p) f (bare []) (slice_set (first_variables l).links p None) w refl)
  plain-tight (MakeCell p) i f = kept-tight (MakeCell p) (λ f w. bare-keeps (MakeCell p) f (one_cell (pos 0)) (slice_set (first_variables l).links p (Some 0)) w refl)
  plain-tight (CopyLink p q) i f = kept-tight (CopyLink p q) (λ f w. bare-keeps (CopyLink p q) f (bare []) (slice_set (first_variables l).links p (link_at (frame l f) q)) w refl)
  plain-tight (ReadNext p q) i f = let k = and_parts (is_link l p) (is_link l q) f in kept-tight (ReadNext p q) (λ f w. next-keeps p q f k.1 w)
  plain-tight (WriteNext p q) i f = let k = and_parts (is_link l p) (is_link l q) f in kept-tight (WriteNext p q) (λ f w. write_next-keeps p q f k.0 w)
  plain-tight (WriteItem p e) i f =
      let k = and_parts (is_link l p) (fits_term l e) f in
      rw (range_of-operand l rs e i k.1) (kept-tight (WriteItem p e) (λ f w. write_item-keeps p e f k.0 i k.1 w))

plain-post : (e : Effect) (rs : List SlotRange) → IsPlain e → post (Does e) (Within rs) ≡ does e rs
unfolding post assume
plain-post Skip rs i = refl
plain-post (Assert g) rs i = absurd i
plain-post (SetInt x e) rs i = refl
plain-post (Input x) rs i = refl
plain-post (ReadElement x a e) rs i = absurd i
plain-post (ReadItem x q) rs i = refl
plain-post (MakeArray a e) rs i = refl
plain-post (CopyArray a b) rs i = refl
plain-post (WriteElement a e g) rs i = absurd i
plain-post (SetNull p) rs i = refl
plain-post (MakeCell p) rs i = refl
plain-post (CopyLink p q) rs i = refl
plain-post (ReadNext p q) rs i = refl
plain-post (WriteNext p q) rs i = refl
plain-post (WriteItem p e) rs i = refl

plain-post-tight : (l : Layout) (ls : List Layout) (e : Effect) (s : Intervals) → IsPlain e → fits_effect l e ≡ true → FitsState l s → Tight (After (l ∷ ls) e s) (length l.numbers) (post (Does e) s)
plain-post-tight l ls e Empty i f h = subst (Tight (After (l ∷ ls) e Empty) (length l.numbers)) (sym (post_empty e)) tt
plain-post-tight l ls e (Within rs) i f h = subst (Tight (After (l ∷ ls) e (Within rs)) (length l.numbers)) (sym (plain-post e rs i)) (plain-tight l ls rs h e i f)

pub plain-best : (l : Layout) (ls : List Layout) (e : Effect) (s : Intervals) → IsPlain e → fits_effect l e ≡ true → fits s (l ∷ ls) ≡ true → IsBest (After (l ∷ ls) e s) (post (Does e) s)
plain-best l ls e s i f g = record {
  sound = after-sound l ls e s f g;
  smallest = λ t c. tight-smallest (After (l ∷ ls) e s) (length l.numbers) (post (Does e) s) t (plain-post-tight l ls e s i f (fits-state s l ls g)) c;
}

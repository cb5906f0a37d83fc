-- The start of a procedure: what is taken at the ends of the ranges of its slots.
use Rattle.std.proofs.Common.{◌≡◌, refl, sym, ap, ◌∙◌, subst, ℕ, zero, suc, ◌<◌, nat_lt, ℤ, pos, Bool, true, false, ◌&&◌, List, [], ◌∷◌, map, drop, length, slice_get, slice_index_or, Some, arith, if◌then◌else◌}
use Rattle.std.proofs.lemmas.Int.{ints}
use Rattle.std.proofs.lemmas.Bool.{and_parts}
use Rattle.std.proofs.lemmas.List.{length-map}
use Rattle.std.proofs.lemmas.List.Elements.{All-nil}
use Rattle.std.specs.List.{AllZip}
use Rattle.imp_slots.specs.Plain.{Numeric, Layout, Term, Length, Argument, IntArgument, ArrayArgument, LinkArgument, Entering, Invoke}
use Rattle.imp_slots.specs.Fits.{is_kind, is_array, is_side, fits_term, fits_arguments, fits_returning, fits_invoke}
use Rattle.concrete_sem.specs.Values.{Number, Int, Array, Variables, Heap, Gives, IsWord, array_at}
use Rattle.concrete_sem.specs.Evaluation.{value_of, side_at}
use Rattle.concrete_sem.specs.Passing.{first_number, first_link, passed, over, pass}
use Rattle.concrete_sem.proofs.Keeps.{over_length}
use Rattle.concrete_sem.proofs.Numbers.{gives_same}
use Rattle.num_bounds.specs.Bounds.{Bounds, Within as Lies}
use Rattle.num_bounds.specs.Operations.{single}
use Rattle.dom_numeric.specs.Measures.{measure}
use Rattle.dom_interval_meaning.specs.State.{Intervals, Empty, Within}
use Rattle.dom_interval_meaning.specs.Ranges.{range_at}
use Rattle.dom_interval_meaning.specs.Operations.{side_of, filled, argument_ranges, enter}
use Rattle.dom_interval_meaning.specs.Covers.{fits}
use Rattle.dom_interval_meaning.specs.declared.slot_range.SlotRange.{SlotRange}
use Rattle.dom_interval_meaning.proofs.SlotLaws.{FitsSlot}
use Rattle.dom_interval_meaning.proofs.CompareLaws.{FitsState}
use Rattle.dom_interval_meaning.proofs.Laws.{fits-state}
use Rattle.dom_interval_meaning.proofs.CallLaws.{enter-describes}
use Rattle.dom_interval_precise.specs.Best.{Covers, IsBest}
use Rattle.dom_interval_precise.specs.Sets.{Entered}
use Rattle.dom_interval_precise.specs.Claims.{IsOperand, AreOperands}
use Rattle.dom_interval_precise.proofs.Frames.{LieAll, frame, first_frames, bare, lows, lows-lie, put_at, put_at-here, put_at-lies}
use Rattle.dom_interval_precise.proofs.Tight.{Takes, Tight, tight-smallest}
use Rattle.dom_interval_precise.proofs.Own.{frame-of}
use Rattle.dom_interval_precise.proofs.Comparisons.{operand_range, operand_value, range_of-operand, value_of-operand, operand-is, operand_range-side, operand_range-range}
use Rattle.dom_interval_precise.proofs.Calls.{to_covers, to_describes}

-- The operands that go to numeric slots: of an array its length.
abbrev sources : List Argument → List Term
sources [] = []
sources (IntArgument e ∷ more) = e ∷ sources more
sources (ArrayArgument a ∷ more) = Length a ∷ sources more
sources (LinkArgument p ∷ more) = sources more

abbrev AreFit : Layout → List Term → Type 0
AreFit l [] = Unit {0}
AreFit l (t ∷ ts) = IsOperand t × (fits_term l t ≡ true) × AreFit l ts

array-fits : (l : Layout) (a : ℕ) → is_array l a ≡ true → fits_term l (Length a) ≡ true
unfolding fits_term
array-fits l a h = h

sources-fit : (l : Layout) (args : List Argument) (ks : List Numeric) (links : List (List ℕ)) → AreOperands args → fits_arguments l args ks links ≡ true → AreFit l (sources args)
sources-fit l [] ks links i f = tt
sources-fit l (IntArgument e ∷ more) ks links i f =
    let p = and_parts (is_kind false (slice_get ks 0)) (fits_term l e && fits_arguments l more (drop 1 ks) links) f in
    let q = and_parts (fits_term l e) (fits_arguments l more (drop 1 ks) links) p.1 in
    (i.0, q.0, sources-fit l more (drop 1 ks) links i.1 q.1)
sources-fit l (ArrayArgument a ∷ more) ks links i f =
    let p = and_parts (is_kind true (slice_get ks 0)) (is_array l a && fits_arguments l more (drop 1 ks) links) f in
    let q = and_parts (is_array l a) (fits_arguments l more (drop 1 ks) links) p.1 in
    (tt, array-fits l a q.0, sources-fit l more (drop 1 ks) links i q.1)
sources-fit l (LinkArgument s ∷ more) ks links i f =
    let p = and_parts (nat_lt 0 (length links)) (is_side l s && fits_arguments l more ks (drop 1 links)) f in
    let q = and_parts (is_side l s) (fits_arguments l more ks (drop 1 links)) p.1 in
    sources-fit l more ks (drop 1 links) i q.1

-- the numbers measure what the operands are
abbrev Measure : (ℕ → ℤ) → List Term → List Number → Type 0
Measure f ts ns = AllZip (λ t n. measure n ≡ operand_value f t) ts ns

filled-length : (ks : List Numeric) (rs : List Bounds) → length (filled ks rs) ≡ length ks
filled-length [] rs = refl
filled-length (k ∷ ks) [] = ap suc (filled-length ks [])
filled-length (k ∷ ks) (r ∷ rs) = ap suc (filled-length ks rs)

first-measure : (k : Numeric) → measure (first_number k) ≡ pos 0
first-measure k = by k.is_array
  where
    by : (b : Bool) → measure (if b then Array [] else Int (pos 0)) ≡ pos 0
    by true = refl
    by false = refl

module _ (l : Layout) (rs : List SlotRange) (fit : AllZip FitsSlot l.numbers rs) where
  -- Numbers of our choice at which a slot takes a number of its range.
  abbrev Chosen : List Numeric → List Term → ℕ → ℤ → Type 0
  Chosen ks ts x z = (f : ℕ → ℤ) × LieAll rs f × ((ns : List Number) → Measure f ts ns → measure (slice_index_or (over ns (map first_number ks)) x (Int (pos 0))) ≡ z)

  at_source : (t : Term) (z : ℤ) → IsOperand t → Lies z (operand_range rs t) → (f : ℕ → ℤ) × LieAll rs f × (operand_value f t ≡ z)
  at_source t z i w = (
    put_at (side_of t) z (lows rs),
    put_at-lies rs (side_of t) z (lows rs) (λ x e. subst (λ r. Lies z r) (sym (operand_range-side rs t x i e)) w) (lows-lie l.numbers rs fit),
    operand-is rs (put_at (side_of t) z (lows rs)) t z i w (λ x e. put_at-here (side_of t) x z (lows rs) e),
  )

  zero-is : (z : ℤ) → Lies z (single (pos 0)) → pos 0 ≡ z
  zero-is z w = omega (arith, ints, w.0, w.1)

  chosen : (ks : List Numeric) (ts : List Term) (x : ℕ) (z : ℤ) → AreFit l ts → x < length ks → Lies z (range_at (filled ks (map (operand_range rs) ts)) x) → Chosen ks ts x z
  chosen [] ts x z i lt w = absurd (omega arith)
  chosen (k ∷ ks) [] zero z i lt w = (lows rs, lows-lie l.numbers rs fit, first)
    where
      first : (ns : List Number) → Measure (lows rs) [] ns → measure (slice_index_or (over ns (map first_number (k ∷ ks))) 0 (Int (pos 0))) ≡ z
      first [] m = first-measure k ∙ zero-is z w
      first (n ∷ ns) m = absurd m
  chosen (k ∷ ks) [] (suc x) z i lt w =
      let c = chosen ks [] x z tt (omega arith) w in
      (c.0, c.1, more c.0 c.2)
    where
      more : (f : ℕ → ℤ) → ((ns : List Number) → Measure f [] ns → measure (slice_index_or (over ns (map first_number ks)) x (Int (pos 0))) ≡ z) → (ns : List Number) → Measure f [] ns → measure (slice_index_or (over ns (map first_number (k ∷ ks))) (suc x) (Int (pos 0))) ≡ z
      more f h [] m = h [] m
      more f h (n ∷ ns) m = absurd m
  chosen (k ∷ ks) (t ∷ ts) zero z i lt w =
      let c = at_source t z i.0 w in
      (c.0, c.1, first c.0 c.2)
    where
      first : (f : ℕ → ℤ) → operand_value f t ≡ z → (ns : List Number) → Measure f (t ∷ ts) ns → measure (slice_index_or (over ns (map first_number (k ∷ ks))) 0 (Int (pos 0))) ≡ z
      first f e [] m = absurd m
      first f e (n ∷ ns) m = m.0 ∙ e
  chosen (k ∷ ks) (t ∷ ts) (suc x) z i lt w =
      let c = chosen ks ts x z i.2 (omega arith) w in
      (c.0, c.1, more c.0 c.2)
    where
      more : (f : ℕ → ℤ) → ((ns : List Number) → Measure f ts ns → measure (slice_index_or (over ns (map first_number ks)) x (Int (pos 0))) ≡ z) → (ns : List Number) → Measure f (t ∷ ts) ns → measure (slice_index_or (over ns (map first_number (k ∷ ks))) (suc x) (Int (pos 0))) ≡ z
      more f h [] m = absurd m
      more f h (n ∷ ns) m = h ns m.1

  -- what is passed from a frame of our choice
  record Passes (f : ℕ → ℤ) (args : List Argument) : Type 0 where
    given : Variables
    is : passed (frame l f) args ≡ Gives given
    measures : Measure f (sources args) given.numbers

  passes : (f : ℕ → ℤ) (args : List Argument) → LieAll rs f → AreFit l (sources args) → Passes f args
  unfolding value_of
  passes f [] w i = record { given = record { numbers = []; links = [] }; is = refl; measures = tt }
  passes f (IntArgument e ∷ more) w i =
      let p = passes f more w i.2 in
      record { given = record { numbers = Int (operand_value f e) ∷ p.given.numbers; links = p.given.links }; is = rw (value_of-operand l rs f e i.0 i.1 fit w) (rw (p.is) refl); measures = (refl, p.measures) }
  passes f (ArrayArgument a ∷ more) w i =
      let p = passes f more w i.2 in
      record { given = record { numbers = Array (array_at (frame l f) a) ∷ p.given.numbers; links = p.given.links }; is = rw (p.is) refl; measures = (gives_same (value_of-operand l rs f (Length a) tt i.1 fit w), p.measures) }
  passes f (LinkArgument s ∷ more) w i =
      let p = passes f more w i in
      record { given = record { numbers = p.given.numbers; links = side_at (frame l f) s ∷ p.given.links }; is = rw (p.is) refl; measures = p.measures }

  arguments-are : (args : List Argument) → AreFit l (sources args) → argument_ranges rs args ≡ Some (map (operand_range rs) (sources args))
  arguments-are [] i = refl
  arguments-are (IntArgument e ∷ more) i = rw (range_of-operand l rs e i.0 i.1) (rw (arguments-are more i.2) refl)
  arguments-are (ArrayArgument a ∷ more) i = rw (arguments-are more i.2) refl
  arguments-are (LinkArgument s ∷ more) i = arguments-are more i

  module _ (ls : List Layout) (e : Entering) (i : AreFit l (sources e.arguments)) where
    abbrev ks : List Numeric
    ks = e.layout.numbers

    abbrev among : Heap → List Variables → Type 0
    among = Entered (l ∷ ls) e (Within rs)

    abbrev state : List SlotRange
    state = filled ks (map (operand_range rs) (sources e.arguments))

    -- the callee's variables
    abbrev start : Variables → Variables
    start p = record { numbers = over p.numbers (map first_number ks); links = over p.links (map first_link e.layout.links) }

    entered : (f : ℕ → ℤ) (w : LieAll rs f) → among (bare []) (start (passes f e.arguments w i).given ∷ frame l f ∷ first_frames ls)
    unfolding pass
    entered f w = (frame-of l ls [] rs f (All-nil IsWord) fit w, rw ((passes f e.arguments w i).is) refl)

    takes : (x : ℕ) (z : ℤ) → x < length ks → Lies z (range_at state x) → Takes among x z
    takes x z lt w =
        let c = chosen ks (sources e.arguments) x z i lt w in
        let p = passes c.0 e.arguments c.1 i in
        (bare [], start p.given, frame l c.0 ∷ first_frames ls, entered c.0 c.1, c.2 p.given.numbers p.measures)

    source-ordered : (ks : List Numeric) (ts : List Term) (x : ℕ) → AreFit l ts → x < length ks → (let r = range_at (filled ks (map (operand_range rs) ts)) x in Lies r.lo r × Lies r.hi r)
    source-ordered [] ts x i lt = absurd (omega arith)
    source-ordered (k ∷ ks) [] zero i lt = ((omega (arith, ints), omega (arith, ints)), (omega (arith, ints), omega (arith, ints)))
    source-ordered (k ∷ ks) [] (suc x) i lt = source-ordered ks [] x tt (omega arith)
    source-ordered (k ∷ ks) (t ∷ ts) zero i lt = let o = (operand_range-range l rs t i.0 i.1 fit).ordered in ((omega (arith, ints), o), (o, omega (arith, ints)))
    source-ordered (k ∷ ks) (t ∷ ts) (suc x) i lt = source-ordered ks ts x i.2 (omega arith)

    enter-tight : Tight among (length ks) (enter e (Within rs))
    unfolding enter
    enter-tight =
        let w = lows-lie l.numbers rs fit in
        let p = passes (lows rs) e.arguments w i in
        rw (arguments-are e.arguments i) (
          (bare [], start p.given, frame l (lows rs) ∷ first_frames ls, entered (lows rs) w, over_length p.given.numbers (map first_number ks) ∙ length-map ks first_number),
          filled-length ks (map (operand_range rs) (sources e.arguments)),
          λ x lt. let o = source-ordered ks (sources e.arguments) x i lt in (takes x (range_at state x).lo lt o.0, takes x (range_at state x).hi lt o.1),
        )

enter-sound : (i : Invoke) (l : Layout) (ls : List Layout) (s : Intervals) → fits_invoke l i ≡ true → Covers (Entered (l ∷ ls) i.entering s) (enter i.entering s)
enter-sound i l ls s f h [] d = absurd d
enter-sound i l ls s f h (u ∷ []) d = absurd d
enter-sound i l ls s f h (u ∷ v ∷ vs) d = to_covers (enter i.entering s) h u (v ∷ vs) (enter-describes l i s v u f d.0.0.frames.0.numbers d.1 (to_describes s h v vs d.0.1))

enter-tight-of : (l : Layout) (ls : List Layout) (e : Entering) (s : Intervals) → AreFit l (sources e.arguments) → FitsState l s → Tight (Entered (l ∷ ls) e s) (length e.layout.numbers) (enter e s)
unfolding enter
enter-tight-of l ls e Empty i h = tt
enter-tight-of l ls e (Within rs) i h = enter-tight l rs h ls e i

arguments-fit : (l : Layout) (i : Invoke) → AreOperands i.entering.arguments → fits_invoke l i ≡ true → AreFit l (sources i.entering.arguments)
unfolding fits_invoke
arguments-fit l i j f =
    sources-fit l i.entering.arguments i.entering.layout.numbers i.entering.layout.links j
    (and_parts (fits_arguments l i.entering.arguments i.entering.layout.numbers i.entering.layout.links) (fits_returning i.entering.layout l i.returning) f).0

pub enter-best : (i : Invoke) (l : Layout) (ls : List Layout) (s : Intervals) → AreOperands i.entering.arguments → fits_invoke l i ≡ true → fits s (l ∷ ls) ≡ true → IsBest (Entered (l ∷ ls) i.entering s) (enter i.entering s)
enter-best i l ls s j f g = record {
  sound = enter-sound i l ls s f;
  smallest = λ r c. tight-smallest (Entered (l ∷ ls) i.entering s) (length i.entering.layout.numbers) (enter i.entering s) r (enter-tight-of l ls i.entering s (arguments-fit l i j f) (fits-state s l ls g)) c;
}

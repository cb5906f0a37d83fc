-- Calls: what a state describes stays described over entering and leaving, and states that fit stay so.
use Rattle.std.proofs.Common.{◌≡◌, refl, sym, ap, ◌∙◌, subst, ℕ, nat_lt, ℤ, pos, Bool, true, false, ◌&&◌, List, [], ◌∷◌, map, drop, length, slice_get, Option, Some, None, IfSome, arith, if◌then◌else◌, inl, inr}
use Rattle.std.proofs.lemmas.Int.{ints}
use Rattle.std.proofs.lemmas.Bool.{and_parts, or_cases}
use Rattle.std.specs.List.{AllZip}
use Rattle.imp_slots.specs.Plain.{Numeric, Layout, Argument, IntArgument, ArrayArgument, LinkArgument, Returning, NumericResult, LinkResult, Invoke}
use Rattle.imp_slots.specs.Fits.{is_kind, is_int, is_array, is_side, fits_term, fits_arguments, fits_returning, fits_invoke}
use Rattle.concrete_sem.specs.Values.{Number, Int, Array, Variables, Gives, andthen, as_array, number_at, array_at}
use Rattle.concrete_sem.specs.Evaluation.{value_of, side_at}
use Rattle.concrete_sem.specs.Passing.{first_number, first_link, first_variables, passed, over, pass, back}
use Rattle.concrete_sem.specs.Proper.{IsNumber}
use Rattle.domain_laws.proofs.CheckLaws.{andthen-gives}
use Rattle.num_bounds.specs.Bounds.{Bounds, IsRange, Within as Lies}
use Rattle.num_bounds.specs.Operations.{single}
use Rattle.num_bounds.specs.Meaning.{Covers}
use Rattle.dom_numeric.specs.Measures.{measure}
use Rattle.dom_numeric.specs.Ranges.{if_range}
use Rattle.dom_numeric.proofs.Slots.{array-at, kind-is, kind-none}
use Rattle.dom_interval_meaning.specs.State.{Intervals, Empty, Within}
use Rattle.dom_interval_meaning.specs.Ranges.{range_at, with_range, range_of}
use Rattle.dom_interval_meaning.specs.Operations.{filled, init, in_front, argument_ranges, entered, enter, returned, leave}
use Rattle.dom_interval_meaning.specs.Covers.{Holds}
use Rattle.dom_interval_meaning.proofs.SlotLaws.{FitsSlot, FitsRange, range-fits, at-fits, at-kind, at-holds, set-fits, set-holds}
use Rattle.dom_interval_meaning.proofs.RangeLaws.{range_of-covers, range_of-range}
use Rattle.dom_interval_meaning.proofs.CompareLaws.{FitsState, Describes}
use Rattle.dom_interval_meaning.specs.declared.slot_range.SlotRange.{SlotRange}
use Rattle.concrete_sem.proofs.Numbers.{gives_same}

-- ranges that fit the first slots of a layout
abbrev FitFirst : List Numeric → List Bounds → Type 0
FitFirst [] rs = Unit {0}
FitFirst (k ∷ ks) [] = Unit {0}
FitFirst (k ∷ ks) (r ∷ rs) = FitsRange k.is_array r × FitFirst ks rs

zero-fits : (b : Bool) → FitsRange b (single (pos 0))
zero-fits true = record { low = omega (arith, ints); ordered = omega (arith, ints); high = omega (arith, ints) }
zero-fits false = record { low = omega (arith, ints); ordered = omega (arith, ints); high = omega (arith, ints) }

filled-fits : (ks : List Numeric) (rs : List Bounds) → FitFirst ks rs → AllZip FitsSlot ks (filled ks rs)
filled-fits [] rs h = tt
filled-fits (k ∷ ks) [] h = ((refl, zero-fits k.is_array), filled-fits ks [] (none-fit ks))
  where
    none-fit : (ks : List Numeric) → FitFirst ks []
    none-fit [] = tt
    none-fit (n ∷ ns) = tt
filled-fits (k ∷ ks) (r ∷ rs) h = ((refl, h.0), filled-fits ks rs h.1)

-- values that lie in ranges, one by one
abbrev LieIn : List Bounds → List Number → Type 0
LieIn = AllZip (λ r n. Lies (measure n) r)

first-lies : (k : Numeric) → Lies (measure (first_number k)) (single (pos 0))
first-lies k = by k.is_array
  where
    by : (b : Bool) → Lies (measure (if b then Array [] else Int (pos 0))) (single (pos 0))
    by true = (omega (arith, ints), omega (arith, ints))
    by false = (omega (arith, ints), omega (arith, ints))

filled-holds : (ks : List Numeric) (rs : List Bounds) (ns : List Number) → LieIn rs ns → AllZip Holds (filled ks rs) (over ns (map first_number ks))
filled-holds [] [] [] h = tt
filled-holds [] [] (n ∷ ns) h = absurd h
filled-holds [] (r ∷ rs) [] h = absurd h
filled-holds [] (r ∷ rs) (n ∷ ns) h = tt
filled-holds (k ∷ ks) [] [] h = (first-lies k, filled-holds ks [] [] tt)
filled-holds (k ∷ ks) [] (n ∷ ns) h = absurd h
filled-holds (k ∷ ks) (r ∷ rs) [] h = absurd h
filled-holds (k ∷ ks) (r ∷ rs) (n ∷ ns) h = (h.0, filled-holds ks rs ns h.1)

pub init-fits : (l : Layout) → FitsState l (init l)
unfolding init
init-fits l = filled-fits l.numbers [] (by l.numbers)
  where
    by : (ks : List Numeric) → FitFirst ks []
    by [] = tt
    by (k ∷ ks) = tt

pub init-describes : (l : Layout) → Describes (first_variables l) (init l)
unfolding init first_variables
init-describes l = filled-holds l.numbers [] [] tt

-- The arguments' ranges fit the callee's first slots, and the arguments' values lie in them.
front-fits : (k : Numeric) (ks : List Numeric) (r : Bounds) (o : Option (List Bounds)) → FitsRange k.is_array r → IfSome o (FitFirst ks) → IfSome (in_front r o) (FitFirst (k ∷ ks))
front-fits k ks r None f h = tt
front-fits k ks r (Some rs) f h = (f, h)

if_range-fits : (o : Option Bounds) (P : Bounds → Type 0) (f : Bounds → Option (List Bounds)) (Q : List Bounds → Type 0) → IfSome o P → ((r : Bounds) → P r → IfSome (f r) Q) → IfSome (if_range o f) Q
if_range-fits None P f Q h g = tt
if_range-fits (Some r) P f Q h g = g r h

arguments-fit : (l : Layout) (rs : List SlotRange) (args : List Argument) (ks : List Numeric) (links : List (List ℕ)) → fits_arguments l args ks links ≡ true → AllZip FitsSlot l.numbers rs → IfSome (argument_ranges rs args) (FitFirst ks)
arguments-fit l rs [] [] links f h = tt
arguments-fit l rs [] (k ∷ ks) links f h = tt
arguments-fit l rs (IntArgument e ∷ more) [] links f h = absurd (kind-none false (and_parts (is_kind false None) (fits_term l e && fits_arguments l more [] links) f).0)
arguments-fit l rs (IntArgument e ∷ more) (k ∷ ks) links f h =
    let p = and_parts (is_kind false (Some k)) (fits_term l e && fits_arguments l more ks links) f in
    let q = and_parts (fits_term l e) (fits_arguments l more ks links) p.1 in
    if_range-fits (range_of rs e) IsRange _ (FitFirst (k ∷ ks)) (range_of-range l rs e q.0 h) (λ r i.
    front-fits k ks r (argument_ranges rs more) (subst (λ b. FitsRange b r) (sym (kind-is false k p.0)) (range-fits r i)) (arguments-fit l rs more ks links q.1 h))
arguments-fit l rs (ArrayArgument a ∷ more) [] links f h = absurd (kind-none true (and_parts (is_kind true None) (is_array l a && fits_arguments l more [] links) f).0)
arguments-fit l rs (ArrayArgument a ∷ more) (k ∷ ks) links f h =
    let p = and_parts (is_kind true (Some k)) (is_array l a && fits_arguments l more ks links) f in
    let q = and_parts (is_array l a) (fits_arguments l more ks links) p.1 in
    let w = at-kind true l.numbers rs a h q.0 ∙ sym (kind-is true k p.0) in
    front-fits k ks (range_at rs a) (argument_ranges rs more) (subst (λ b. FitsRange b (range_at rs a)) w (at-fits l.numbers rs a h)) (arguments-fit l rs more ks links q.1 h)
arguments-fit l rs (LinkArgument p ∷ more) ks links f h =
    let q = and_parts (nat_lt 0 (length links)) (is_side l p && fits_arguments l more ks (drop 1 links)) f in
    let w = and_parts (is_side l p) (fits_arguments l more ks (drop 1 links)) q.1 in
    arguments-fit l rs more ks (drop 1 links) w.1 h

-- ranges that are there, with the values in them
abbrev ArgumentsLie : Option (List Bounds) → List Number → Type 0
ArgumentsLie None ns = ⊥
ArgumentsLie (Some rs) ns = LieIn rs ns

front-lies : (r : Bounds) (o : Option (List Bounds)) (n : Number) (ns : List Number) → Lies (measure n) r → ArgumentsLie o ns → ArgumentsLie (in_front r o) (n ∷ ns)
front-lies r None n ns w h = absurd h
front-lies r (Some rs) n ns w h = (w, h)

if_range-lies : (o : Option Bounds) (z : ℤ) (f : Bounds → Option (List Bounds)) (ns : List Number) → Covers o z → ((r : Bounds) → Lies z r → ArgumentsLie (f r) ns) → ArgumentsLie (if_range o f) ns
if_range-lies None z f ns h g = absurd h
if_range-lies (Some r) z f ns h g = g r h

passed-numbers : (p u : Variables) → Gives p ≡ Gives u → (o : Option (List Bounds)) → ArgumentsLie o p.numbers → ArgumentsLie o u.numbers
passed-numbers p u e o h = let w : p ≡ u = gives_same e in subst (λ (y : Variables). ArgumentsLie o y.numbers) w h

arguments-lie : (l : Layout) (rs : List SlotRange) (v : Variables) (args : List Argument) (ks : List Numeric) (links : List (List ℕ)) (u : Variables) → fits_arguments l args ks links ≡ true → AllZip IsNumber l.numbers v.numbers → AllZip Holds rs v.numbers → passed v args ≡ Gives u → ArgumentsLie (argument_ranges rs args) u.numbers
arguments-lie l rs v [] ks links u f w h g = passed-numbers (record { numbers = []; links = [] }) u g (Some []) tt
arguments-lie l rs v (IntArgument e ∷ more) [] links u f w h g = absurd (kind-none false (and_parts (is_kind false None) (fits_term l e && fits_arguments l more [] links) f).0)
arguments-lie l rs v (IntArgument e ∷ more) (k ∷ ks) links u f w h g =
    let p = and_parts (is_kind false (Some k)) (fits_term l e && fits_arguments l more ks links) f in
    let q = and_parts (fits_term l e) (fits_arguments l more ks links) p.1 in
    let z = andthen-gives (value_of v e) (λ z. andthen (passed v more) (λ (p : Variables). Gives (record p { numbers = Int z ∷ p.numbers }))) u g in
    let m = andthen-gives (passed v more) (λ (p : Variables). Gives (record p { numbers = Int z.0 ∷ p.numbers })) u z.2 in
    if_range-lies (range_of rs e) z.0 _ u.numbers (range_of-covers l rs v e z.0 q.0 w h z.1) (λ r i.
    passed-numbers (record { numbers = Int z.0 ∷ m.0.numbers; links = m.0.links }) u m.2 (in_front r (argument_ranges rs more)) (front-lies r (argument_ranges rs more) (Int z.0) m.0.numbers i (arguments-lie l rs v more ks links m.0 q.1 w h m.1)))
arguments-lie l rs v (ArrayArgument a ∷ more) [] links u f w h g = absurd (kind-none true (and_parts (is_kind true None) (is_array l a && fits_arguments l more [] links) f).0)
arguments-lie l rs v (ArrayArgument a ∷ more) (k ∷ ks) links u f w h g =
    let p = and_parts (is_kind true (Some k)) (is_array l a && fits_arguments l more ks links) f in
    let q = and_parts (is_array l a) (fits_arguments l more ks links) p.1 in
    let m = andthen-gives (passed v more) (λ (p : Variables). Gives (record p { numbers = Array (array_at v a) ∷ p.numbers })) u g in
    let i = array-at l.numbers v.numbers a w q.0 in
    let e : measure (number_at v a) ≡ measure (Array (array_at v a)) = ap measure i.1 ∙ sym (ap (λ n. pos (length (as_array n))) i.1) in
    passed-numbers (record { numbers = Array (array_at v a) ∷ m.0.numbers; links = m.0.links }) u m.2 (in_front (range_at rs a) (argument_ranges rs more))
    (front-lies (range_at rs a) (argument_ranges rs more) (Array (array_at v a)) m.0.numbers (subst (λ z. Lies z (range_at rs a)) e (at-holds rs v.numbers a h)) (arguments-lie l rs v more ks links m.0 q.1 w h m.1))
arguments-lie l rs v (LinkArgument p ∷ more) ks links u f w h g =
    let q = and_parts (nat_lt 0 (length links)) (is_side l p && fits_arguments l more ks (drop 1 links)) f in
    let c = and_parts (is_side l p) (fits_arguments l more ks (drop 1 links)) q.1 in
    let m = andthen-gives (passed v more) (λ (t : Variables). Gives (record t { links = side_at v p ∷ t.links })) u g in
    passed-numbers (record { numbers = m.0.numbers; links = side_at v p ∷ m.0.links }) u m.2 (argument_ranges rs more) (arguments-lie l rs v more ks (drop 1 links) m.0 c.1 w h m.1)

entered-fits : (l : Layout) (o : Option (List Bounds)) → IfSome o (FitFirst l.numbers) → FitsState l (entered l.numbers o)
entered-fits l None h = tt
entered-fits l (Some rs) h = filled-fits l.numbers rs h

pub enter-fits : (l : Layout) (i : Invoke) (s : Intervals) → fits_invoke l i ≡ true → FitsState l s → FitsState i.entering.layout (enter i.entering s)
unfolding enter fits_invoke
enter-fits l i Empty f h = tt
enter-fits l i (Within rs) f h =
    let p = and_parts (fits_arguments l i.entering.arguments i.entering.layout.numbers i.entering.layout.links) (fits_returning i.entering.layout l i.returning) f in
    entered-fits i.entering.layout (argument_ranges rs i.entering.arguments) (arguments-fit l rs i.entering.arguments i.entering.layout.numbers i.entering.layout.links p.0 h)

entered-holds : (ks : List Numeric) (o : Option (List Bounds)) (ns : List Number) (u : Variables) → u.numbers ≡ over ns (map first_number ks) → ArgumentsLie o ns → Describes u (entered ks o)
entered-holds ks None ns u e h = absurd h
entered-holds ks (Some rs) ns u e h = subst (λ ms. AllZip Holds (filled ks rs) ms) (sym e) (filled-holds ks rs ns h)

pub enter-describes : (l : Layout) (i : Invoke) (s : Intervals) (v u : Variables) → fits_invoke l i ≡ true → AllZip IsNumber l.numbers v.numbers → pass i.entering v ≡ Gives u → Describes v s → Describes u (enter i.entering s)
unfolding enter fits_invoke pass
enter-describes l i Empty v u f w g h = absurd h
enter-describes l i (Within rs) v u f w g h =
    let p = and_parts (fits_arguments l i.entering.arguments i.entering.layout.numbers i.entering.layout.links) (fits_returning i.entering.layout l i.returning) f in
    let m = andthen-gives (passed v i.entering.arguments) (λ (p : Variables). Gives (record { numbers = over p.numbers (map first_number i.entering.layout.numbers); links = over p.links (map first_link i.entering.layout.links) })) u g in
    let e : u.numbers ≡ over m.0.numbers (map first_number i.entering.layout.numbers) = sym (ap (λ (y : Variables). y.numbers) (gives_same m.2)) in
    entered-holds i.entering.layout.numbers (argument_ranges rs i.entering.arguments) m.0.numbers u e
    (arguments-lie l rs v i.entering.arguments i.entering.layout.numbers i.entering.layout.links m.0 p.0 w h m.1)

-- the callee's slot and the caller's have one kind
result-fits : (b : Bool) (c l : Layout) (rs ds : List SlotRange) (to from : ℕ) → is_kind b (slice_get c.numbers from) ≡ true → is_kind b (slice_get l.numbers to) ≡ true → AllZip FitsSlot l.numbers rs → AllZip FitsSlot c.numbers ds → AllZip FitsSlot l.numbers (with_range rs to (range_at ds from))
result-fits b c l rs ds to from f g h k =
    set-fits l.numbers rs to (range_at ds from) h
    (subst (λ t. FitsRange t (range_at ds from)) (at-kind b c.numbers ds from k f ∙ sym (at-kind b l.numbers rs to h g)) (at-fits c.numbers ds from k))

returned-fits : (c l : Layout) (o : Option Returning) (rs ds : List SlotRange) → fits_returning c l o ≡ true → AllZip FitsSlot l.numbers rs → AllZip FitsSlot c.numbers ds → FitsState l (returned o rs ds)
returned-fits c l None rs ds f h k = h
returned-fits c l (Some (NumericResult to from)) rs ds f h k =
    elim (or_cases (is_int c from && is_int l to) (is_array c from && is_array l to) f) [
      | inl e ↦ let p = and_parts (is_int c from) (is_int l to) e in result-fits false c l rs ds to from p.0 p.1 h k
      | inr e ↦ let p = and_parts (is_array c from) (is_array l to) e in result-fits true c l rs ds to from p.0 p.1 h k
    ]
returned-fits c l (Some (LinkResult to from)) rs ds f h k = h

pub leave-fits : (l : Layout) (i : Invoke) (s t : Intervals) → fits_invoke l i ≡ true → FitsState l s → FitsState i.entering.layout t → FitsState l (leave i.returning s t)
unfolding leave fits_invoke
leave-fits l i Empty t f h k = tt
leave-fits l i (Within rs) Empty f h k = tt
leave-fits l i (Within rs) (Within ds) f h k =
    let p = and_parts (fits_arguments l i.entering.arguments i.entering.layout.numbers i.entering.layout.links) (fits_returning i.entering.layout l i.returning) f in
    returned-fits i.entering.layout l i.returning rs ds p.1 h k

pub leave-describes : (o : Option Returning) (s t : Intervals) (v d : Variables) → Describes v s → Describes d t → Describes (back o v d) (leave o s t)
unfolding leave back
leave-describes o Empty t v d h k = absurd h
leave-describes o (Within rs) Empty v d h k = absurd k
leave-describes None (Within rs) (Within ds) v d h k = h
leave-describes (Some (NumericResult to from)) (Within rs) (Within ds) v d h k = set-holds rs v.numbers to (range_at ds from) (number_at d from) h (at-holds ds d.numbers from k)
leave-describes (Some (LinkResult to from)) (Within rs) (Within ds) v d h k = h

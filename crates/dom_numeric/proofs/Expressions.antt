-- The range of an expression holds its value, and is one of integers of 64 bits.
use Rattle.std.proofs.Common.{◌≡◌, sym, subst, ℕ, ◌<◌, ◌≤◌, ◌^◌, ℤ, pos, negsuc, ◌≤ℤ◌, ◌+ℤ◌, ◌-ℤ◌, ◌*ℤ◌, neg_ℤ, int_div, int_rem, int_lt, unsigned_abs, ◌==◌, Bool, true, false, Option, Some, None, IfSome, arith, if◌then◌else◌}
use Rattle.std.proofs.lemmas.Int.{ints}
use Rattle.std.proofs.lemmas.Bool.{and_parts}
use Rattle.std.specs.List.{AllZip}
use borrow.Author.Tests.{ltb-true}
use Rattle.imp_syntax.specs.declared.words.Operator.{Operator}
use Rattle.imp_syntax.specs.declared.words.Operator.TheVariants.{Add, Subtract, Multiply, Divide, Remainder}
use Rattle.imp_slots.specs.Plain.{Layout, Term, Literal, Slot, Length, Negative, Binary}
use Rattle.imp_slots.specs.Fits.{fits_term}
use Rattle.concrete_sem.specs.Values.{Variables, Gives, andthen, number_at}
use Rattle.concrete_sem.specs.Evaluation.{value_of, word as word_of, quotient, combine}
use Rattle.concrete_sem.specs.Proper.{IsNumber}
use Rattle.domain_laws.proofs.CheckLaws.{andthen-gives}
use Rattle.num_bounds.specs.Bounds.{Bounds, IsRange, Within as Lies, least, greatest}
use Rattle.num_bounds.specs.Operations.{word, word_if, sums, differences, negations, products, quotients, remainders, remainder_limit, least_remainder, greatest_remainder, magnitude}
use Rattle.num_bounds.specs.Meaning.{Covers}
use Rattle.num_bounds.proofs.Ends.{word-range}
use Rattle.num_bounds.proofs.Sums.{sums-sound, differences-sound, negations-sound}
use Rattle.num_bounds.proofs.Products.{products-sound}
use Rattle.num_bounds.proofs.Quotients.{quotients-sound, quotients-range}
use Rattle.num_bounds.proofs.Remainders.{remainders-sound}
use Rattle.dom_numeric.specs.Measures.{measure}
use Rattle.dom_numeric.specs.Ranges.{if_range, operation, range_by}
use Rattle.dom_numeric.proofs.Slots.{slot-measure, length-measure}
use Rattle.dom_numeric.proofs.Words.{word-gives, quotient-gives}
use Rattle.concrete_sem.proofs.Numbers.{gives_same}

covers-same : (r : Option Bounds) (w z : ℤ) → w ≡ z → Covers r z → Covers r w
covers-same r w z e h = subst (λ x. Covers r x) (sym e) h

operation-covers : (o : Operator) (a b : Bounds) (x y z : ℤ) → Lies x a → Lies y b → combine o x y ≡ Gives z → Covers (operation o a b) z
operation-covers Add a b x y z p q h = let w = word-gives (x +ℤ y) z h in covers-same (word (sums a b)) z (x +ℤ y) w.0 (sums-sound a b x y p q w.1)
operation-covers Subtract a b x y z p q h = let w = word-gives (x -ℤ y) z h in covers-same (word (differences a b)) z (x -ℤ y) w.0 (differences-sound a b x y p q w.1)
operation-covers Multiply a b x y z p q h = let w = word-gives (x *ℤ y) z h in covers-same (word (products a b)) z (x *ℤ y) w.0 (products-sound a b x y p q w.1)
operation-covers Divide a b x y z p q h = let w = quotient-gives x y z h in covers-same (word_if (quotients a b)) z (int_div x y) w.0 (quotients-sound a b x y p q w.2 w.1)
operation-covers Remainder a b x y z p q h =
    let g = andthen-gives (quotient x y) (λ k. Gives (int_rem x y)) z h in
    let w = quotient-gives x y g.0 g.1 in
    covers-same (remainders a b) z (int_rem x y) (sym (gives_same g.2)) (remainders-sound a b x y p q w.2)

if_range-covers : (r : Option Bounds) (f : Bounds → Option Bounds) (x z : ℤ) → Covers r x → ((a : Bounds) → Lies x a → Covers (f a) z) → Covers (if_range r f) z
if_range-covers None f x z h g = absurd h
if_range-covers (Some a) f x z h g = g a h

-- where each slot's range holds what the slot measures, the range of an expression holds its value
pub range_by-covers : (l : Layout) (at : ℕ → Bounds) (v : Variables) (t : Term) (z : ℤ) → fits_term l t ≡ true → AllZip IsNumber l.numbers v.numbers → ((x : ℕ) → Lies (measure (number_at v x)) (at x)) → value_of v t ≡ Gives z → Covers (range_by at t) z
unfolding range_by value_of fits_term
range_by-covers l at v (Literal n) z f k h g = let e : pos n ≡ z = gives_same g in (omega (arith, ints), omega (arith, ints))
range_by-covers l at v (Slot x) z f k h g = subst (λ y. Lies y (at x)) (slot-measure l v x z k f g) (h x)
range_by-covers l at v (Length a) z f k h g = subst (λ y. Lies y (at a)) (length-measure l v a z k f g) (h a)
range_by-covers l at v (Negative t) z f k h g =
    let x = andthen-gives (value_of v t) (λ y. word_of (neg_ℤ y)) z g in
    let w = word-gives (neg_ℤ x.0) z x.2 in
    if_range-covers (range_by at t) (λ r. word (negations r)) x.0 z (range_by-covers l at v t x.0 f k h x.1)
    (λ a p. covers-same (word (negations a)) z (neg_ℤ x.0) w.0 (negations-sound a x.0 p w.1))
range_by-covers l at v (Binary o a b) z f k h g =
    let p = and_parts (fits_term l a) (fits_term l b) f in
    let x = andthen-gives (value_of v a) (λ y. andthen (value_of v b) (λ y2. combine o y y2)) z g in
    let y = andthen-gives (value_of v b) (λ y2. combine o x.0 y2) z x.2 in
    if_range-covers (range_by at a) (λ r. if_range (range_by at b) (operation o r)) x.0 z (range_by-covers l at v a x.0 p.0 k h x.1)
    (λ r q. if_range-covers (range_by at b) (operation o r) y.0 z (range_by-covers l at v b y.0 p.1 k h y.1)
    (λ s w. operation-covers o r s x.0 y.0 z q w y.2))

abs-bound : (z : ℤ) → least ≤ℤ z → z ≤ℤ greatest → unsigned_abs z ≤ 2 ^ 63
abs-bound (pos n) p q = omega (arith, ints)
abs-bound (negsuc n) p q = omega (arith, ints)

ends-range : (lo hi : ℤ) (m : ℕ) → m < 2 ^ 63 → IsRange (record { lo = least_remainder lo m; hi = greatest_remainder hi m })
ends-range lo hi m h = by (int_lt lo (pos 0)) (int_lt (pos 0) hi)
  where
    by : (b c : Bool) → IsRange (record { lo = if b then neg_ℤ (pos m) else pos 0; hi = if c then pos m else pos 0 })
    by true true = record { low = omega (arith, ints); ordered = omega (arith, ints); high = omega (arith, ints) }
    by true false = record { low = omega (arith, ints); ordered = omega (arith, ints); high = omega (arith, ints) }
    by false true = record { low = omega (arith, ints); ordered = omega (arith, ints); high = omega (arith, ints) }
    by false false = record { low = omega (arith, ints); ordered = omega (arith, ints); high = omega (arith, ints) }

if-range : (b : Bool) (r : Bounds) → IsRange r → IfSome (if b then None else Some r) IsRange
if-range true r h = tt
if-range false r h = h

remainders-range : (a b : Bounds) → IsRange b → IfSome (remainders a b) IsRange
remainders-range a b q =
    let x : unsigned_abs b.lo ≤ 2 ^ 63 = let h : b.lo ≤ℤ greatest = omega (arith, ints, q.ordered, q.high) in abs-bound b.lo q.low h in
    let y : unsigned_abs b.hi ≤ 2 ^ 63 = let h : least ≤ℤ b.hi = omega (arith, ints, q.ordered, q.low) in abs-bound b.hi h q.high in
    let m : remainder_limit a b < 2 ^ 63 = omega arith in
    if-range (magnitude b == 0) (record { lo = least_remainder a.lo (remainder_limit a b); hi = greatest_remainder a.hi (remainder_limit a b) }) (ends-range a.lo a.hi (remainder_limit a b) m)

operation-range : (o : Operator) (a b : Bounds) → IsRange a → IsRange b → IfSome (operation o a b) IsRange
operation-range Add a b p q = word-range (sums a b)
operation-range Subtract a b p q = word-range (differences a b)
operation-range Multiply a b p q = word-range (products a b)
operation-range Divide a b p q = quotients-range (quotients a b)
operation-range Remainder a b p q = remainders-range a b q

if_range-range : (r : Option Bounds) (f : Bounds → Option Bounds) → IfSome r IsRange → ((a : Bounds) → IsRange a → IfSome (f a) IsRange) → IfSome (if_range r f) IsRange
if_range-range None f h g = tt
if_range-range (Some a) f h g = g a h

-- where the slots' ranges are of integers of 64 bits, so is that of an expression
pub range_by-range : (l : Layout) (at : ℕ → Bounds) (t : Term) → fits_term l t ≡ true → ((x : ℕ) → IsRange (at x)) → IfSome (range_by at t) IsRange
unfolding range_by fits_term
range_by-range l at (Literal n) f h = let lt : n < 2 ^ 63 = ltb-true n (2 ^ 63) f in record { low = omega (arith, ints); ordered = omega (arith, ints); high = omega (arith, ints) }
range_by-range l at (Slot x) f h = h x
range_by-range l at (Length a) f h = h a
range_by-range l at (Negative t) f h = if_range-range (range_by at t) (λ r. word (negations r)) (range_by-range l at t f h) (λ a p. word-range (negations a))
range_by-range l at (Binary o a b) f h =
    let p = and_parts (fits_term l a) (fits_term l b) f in
    if_range-range (range_by at a) (λ r. if_range (range_by at b) (operation o r)) (range_by-range l at a p.0 h)
    (λ r q. if_range-range (range_by at b) (operation o r) (range_by-range l at b p.1 h) (λ s w. operation-range o r s q w))

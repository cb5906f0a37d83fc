-- Each example has a smaller state that covers the same.
use Rattle.std.proofs.Common.{ℕ, zero, suc, inl, inr, Option, ◌≡◌, refl, sym, subst, ◌^◌, ◌-◌, ℤ, pos, negsuc, ◌≤ℤ◌, ◌<ℤ◌, ◌+ℤ◌, ◌-ℤ◌, int_lt, Bool, true, false, not, List, [], ◌∷◌, codes, slice_set, slice_index_or, arith, if◌then◌else◌}
use Rattle.std.proofs.lemmas.Int.{ints}
use Rattle.std.specs.Ordering.{int_eq}
use Rattle.std.specs.List.{AllZip}
use Rattle.imp_syntax.specs.declared.words.Relation.TheVariants.{NotEqual, Less}
use Rattle.imp_syntax.specs.declared.words.Operator.TheVariants.{Add, Subtract, Multiply, Divide, Remainder}
use Rattle.imp_slots.specs.Plain.{Term, Literal, Binary, Compare, And, SetInt}
use Rattle.concrete_sem.specs.Values.{Number, Int, Array, Variables, Heap, Gives, as_int, int_at, with_number}
use Rattle.concrete_sem.specs.Evaluation as machine
use Rattle.concrete_sem.specs.Evaluation.{value_of, truth_of}
use Rattle.concrete_sem.specs.Effects.{effect_of}
use Rattle.concrete_sem.specs.Proper.{IsNumber}
use Rattle.concrete_sem.proofs.Numbers.{gives_same, word_gives}
use Rattle.domain_laws.proofs.CheckLaws.{andthen-gives}
use Rattle.num_bounds.specs.Bounds.{Within as Lies, least, greatest}
use Rattle.num_bounds.specs.Operations.{single}
use Rattle.dom_numeric.specs.Measures.{measure}
use Rattle.dom_numeric.specs.Ranges.{range_by}
use Rattle.dom_interval_meaning.specs.State.{Intervals, Empty, Within}
use Rattle.dom_interval_meaning.specs.Operations.{assume, does, post}
use Rattle.dom_interval_meaning.specs.Widening.{widen}
use Rattle.dom_interval_meaning.specs.Covers.{Holds}
use Rattle.dom_interval_meaning.specs.declared.slot_range.SlotRange.{SlotRange}
use Rattle.dom_interval_precise.specs.Best.{Covers}
use Rattle.dom_interval_precise.specs.Sets.{OfEither, Where, After}
use Rattle.dom_interval_precise.specs.Losses.{int, only_x, x_and_y, from_to, x, y, AfterWhere, TwoStepsLose, OneOnBothSidesLoses, TwoComparisonsLose, OneTwiceLoses, RemainderLoses, FailureLoses, SeveralOperationsLose, WideningLoses}
use Rattle.dom_interval_precise.proofs.Stages.{eq-false}
use Rattle.dom_interval_precise.proofs.Words.{word-back, word-ends}

less-self : (z : ℤ) → int_lt z z ≡ true → ⊥
less-self z h = absurd (let lt : z <ℤ z = grind (arith, ints) in omega (arith, ints))

none-below-itself : (s : Intervals) → Covers (Where only_x (Compare Less x x) true s) Empty
unfolding truth_of value_of
none-below-itself s h [] d = absurd d
none-below-itself s h (v ∷ vs) d = less-self (int_at v 0) (gives_same d.1)

pub one-on-both-sides-loses : OneOnBothSidesLoses
unfolding assume range_by
one-on-both-sides-loses b = b.smallest Empty (none-below-itself (Within (from_to (pos 0) (pos 5) ∷ [])))

-- a state of one slot, after the slot is set
one-set : (r q : SlotRange) (ns : List Number) (m : Number) → AllZip Holds (r ∷ []) ns → Lies (measure m) q.range → AllZip Holds (q ∷ []) (slice_set ns 0 m)
one-set r q [] m h w = absurd h
one-set r q (n ∷ []) m h w = (w, tt)
one-set r q (n ∷ j ∷ ns) m h w = absurd (h.1)

set-covers : (e : Term) (r q : SlotRange) → ((v : Variables) (z : ℤ) → value_of v e ≡ Gives z → Lies z q.range) → Covers (After only_x (SetInt 0 e) (Within (r ∷ []))) (Within (q ∷ []))
unfolding effect_of
set-covers e r q f k [] d = absurd d
set-covers e r q f k (u ∷ vs) d =
    let z = andthen-gives (value_of d.1 e) (λ z. Gives (d.0, with_number d.1 0 (Int z))) (k, u) d.3 in
    let same : (d.0, with_number d.1 0 (Int z.0)) ≡ (k, u) = gives_same z.2 in
    subst (λ (y : Heap × Variables). AllZip Holds (q ∷ []) y.1.numbers) same (one-set r q d.1.numbers (Int z.0) d.2.1 (f d.1 z.0 z.1))

difference-zero : (v : Variables) (z : ℤ) → value_of v (Binary Subtract x x) ≡ Gives z → Lies z (single (pos 0))
unfolding value_of
difference-zero v z h = let e : (int_at v 0 -ℤ int_at v 0) ≡ z = word-back (int_at v 0 -ℤ int_at v 0) z h in (omega (arith, ints), omega (arith, ints))

pub one-twice-loses : OneTwiceLoses
unfolding post does range_by
one-twice-loses b =
    let p = b.smallest (Within (from_to (pos 0) (pos 0) ∷ [])) (set-covers (Binary Subtract x x) (from_to (pos 0) (pos 1)) (from_to (pos 0) (pos 0)) difference-zero) in
    let no : pos 0 ≤ℤ negsuc 0 = p.0.0 in
    absurd (omega (arith, ints))

remainder-two : (v : Variables) (z : ℤ) → value_of v (Binary Remainder (Literal 5) (Literal 3)) ≡ Gives z → Lies z (single (pos 2))
unfolding value_of
remainder-two v z h = let e : pos 2 ≡ z = gives_same h in (omega (arith, ints), omega (arith, ints))

pub remainder-loses : RemainderLoses
unfolding post does range_by
remainder-loses b =
    let p = b.smallest (Within (from_to (pos 2) (pos 2) ∷ [])) (set-covers (Binary Remainder (Literal 5) (Literal 3)) (from_to (pos 0) (pos 0)) (from_to (pos 2) (pos 2)) remainder-two) in
    let no : pos 2 ≤ℤ pos 0 = p.0.0 in
    absurd (omega (arith, ints))

-- x is neither 1 nor 0
neither : (a : ℤ) → (if not (int_eq a (pos 1)) then Gives (not (int_eq a (pos 0))) else Gives false) ≡ Gives true → Lies a (record { lo = pos 0; hi = pos 5 }) → Lies a (record { lo = pos 2; hi = pos 5 })
neither a t w = by (int_eq a (pos 1)) (int_eq a (pos 0)) refl refl t
  where
    by : (b c : Bool) → int_eq a (pos 1) ≡ b → int_eq a (pos 0) ≡ c → (if not b then Gives (not c) else Gives false) ≡ Gives true → Lies a (record { lo = pos 2; hi = pos 5 })
    by true c e f g = cc
    by false true e f g = cc
    by false false e f g =
        let one = eq-false a (pos 1) e in
        let zero = eq-false a (pos 0) f in
        let low : pos 0 ≤ℤ a = w.0 in
        (omega (arith, ints, one, zero), w.1)

two-left : (ns : List Number) → AllZip IsNumber (int (codes "x") ∷ []) ns → AllZip Holds (from_to (pos 0) (pos 5) ∷ []) ns → (if not (int_eq (as_int (slice_index_or ns 0 (Int (pos 0)))) (pos 1)) then Gives (not (int_eq (as_int (slice_index_or ns 0 (Int (pos 0)))) (pos 0))) else Gives false) ≡ Gives true → AllZip Holds (from_to (pos 2) (pos 5) ∷ []) ns
two-left [] i h t = absurd h
two-left (Int a ∷ []) i h t = (neither a t h.0, tt)
two-left (Array zs ∷ []) i h t = let no : false ≡ true = i.0.0 in cc
two-left (n ∷ m ∷ ns) i h t = absurd (h.1)

two-cover : Covers (Where only_x (And (Compare NotEqual x (Literal 1)) (Compare NotEqual x (Literal 0))) true (Within (from_to (pos 0) (pos 5) ∷ []))) (Within (from_to (pos 2) (pos 5) ∷ []))
unfolding truth_of value_of
two-cover h [] d = absurd d
two-cover h (v ∷ vs) d = two-left v.numbers d.0.0.frames.0.numbers d.0.1 d.1

pub two-comparisons-lose : TwoComparisonsLose
unfolding assume range_by
two-comparisons-lose b =
    let p = b.smallest (Within (from_to (pos 2) (pos 5) ∷ [])) two-cover in
    let no : pos 2 ≤ℤ pos 1 = p.0.0 in
    absurd (omega (arith, ints))

-- x + 1 does not overflow
below-top : (ns : List Number) (z : ℤ) → AllZip IsNumber (int (codes "x") ∷ int (codes "y") ∷ []) ns → AllZip Holds (from_to (pos 0) greatest ∷ from_to (pos 0) (pos 0) ∷ []) ns → machine.word (as_int (slice_index_or ns 0 (Int (pos 0))) +ℤ pos 1) ≡ Gives z → AllZip Holds (from_to (pos 0) (pos (2 ^ 63 - 2)) ∷ from_to least greatest ∷ []) (slice_set ns 1 (Int z))
below-top [] z i h t = absurd h
below-top (n ∷ []) z i h t = absurd (h.1)
below-top (n ∷ m ∷ k ∷ ns) z i h t = absurd (h.1.1)
below-top (Array zs ∷ m ∷ []) z i h t = let no : false ≡ true = i.0.0 in cc
below-top (Int a ∷ m ∷ []) z i h t =
    let e : (a +ℤ pos 1) ≡ z = word-back (a +ℤ pos 1) z t in
    let w = word-ends z (word_gives (a +ℤ pos 1) z t) in
    let high : z ≤ℤ greatest = w.1 in
    ((h.0.0, omega (arith, ints)), (w, tt))

failure-covers : Covers (After x_and_y (SetInt 1 (Binary Add x (Literal 1))) (Within (from_to (pos 0) greatest ∷ from_to (pos 0) (pos 0) ∷ []))) (Within (from_to (pos 0) (pos (2 ^ 63 - 2)) ∷ from_to least greatest ∷ []))
unfolding effect_of value_of
failure-covers k [] d = absurd d
failure-covers k (u ∷ vs) d =
    let z = andthen-gives (machine.word (int_at d.1 0 +ℤ pos 1)) (λ z. Gives (d.0, with_number d.1 1 (Int z))) (k, u) d.3 in
    let same : (d.0, with_number d.1 1 (Int z.0)) ≡ (k, u) = gives_same z.2 in
    subst (λ (y : Heap × Variables). AllZip Holds (from_to (pos 0) (pos (2 ^ 63 - 2)) ∷ from_to least greatest ∷ []) y.1.numbers) same
    (below-top d.1.numbers z.0 d.2.0.frames.0.numbers d.2.1 z.1)

pub failure-loses : FailureLoses
unfolding post does range_by
failure-loses b =
    let p = b.smallest (Within (from_to (pos 0) (pos (2 ^ 63 - 2)) ∷ from_to least greatest ∷ [])) failure-covers in
    let no : greatest ≤ℤ pos (2 ^ 63 - 2) = p.0.1 in
    absurd (omega (arith, ints))

-- x < y does not hold after y = x
same-after : (ns : List Number) → AllZip Holds (from_to (pos 0) (pos 5) ∷ from_to (pos 0) (pos 0) ∷ []) ns → int_lt (as_int (slice_index_or (slice_set ns 1 (Int (as_int (slice_index_or ns 0 (Int (pos 0)))))) 0 (Int (pos 0)))) (as_int (slice_index_or (slice_set ns 1 (Int (as_int (slice_index_or ns 0 (Int (pos 0)))))) 1 (Int (pos 0)))) ≡ true → ⊥
same-after [] h t = absurd h
same-after (n ∷ []) h t = absurd (h.1)
same-after (n ∷ m ∷ ns) h t = less-self (as_int n) t

two-steps-cover : Covers (AfterWhere x_and_y (SetInt 1 x) (Compare Less x y) (Within (from_to (pos 0) (pos 5) ∷ from_to (pos 0) (pos 0) ∷ []))) Empty
unfolding effect_of truth_of value_of
two-steps-cover k [] d = absurd d
two-steps-cover k (u ∷ vs) d =
    let same : (d.0.0, with_number d.0.1 1 (Int (int_at d.0.1 0))) ≡ (k, u) = gives_same d.0.3 in
    let less : int_lt (int_at u 0) (int_at u 1) ≡ true = gives_same d.1 in
    same-after d.0.1.numbers d.0.2.1 (subst (λ (w : Heap × Variables). int_lt (int_at w.1 0) (int_at w.1 1) ≡ true) (sym same) less)

pub two-steps-lose : TwoStepsLose
unfolding assume post does range_by
two-steps-lose b = b.smallest Empty two-steps-cover

-- the divisor 4 * x - 2 is -2 or 2
abbrev several : Term
several = Binary Divide (Literal 10) (Binary Subtract (Binary Multiply (Literal 4) x) (Literal 2))

several-at : (a : ℤ) (links : List (Option ℕ)) (z : ℤ) → Lies a (record { lo = pos 0; hi = pos 1 }) → value_of (record { numbers = Int a ∷ []; links = links }) several ≡ Gives z → Lies z (record { lo = negsuc 4; hi = pos 5 })
unfolding value_of
several-at (pos zero) links z w h = let e : negsuc 4 ≡ z = gives_same h in (omega (arith, ints), omega (arith, ints))
several-at (pos (suc zero)) links z w h = let e : pos 5 ≡ z = gives_same h in (omega (arith, ints), omega (arith, ints))
several-at (pos (suc (suc n))) links z w h = let high : pos (suc (suc n)) ≤ℤ pos 1 = w.1 in absurd (omega (arith, ints))
several-at (negsuc n) links z w h = let low : pos 0 ≤ℤ negsuc n = w.0 in absurd (omega (arith, ints))

several-left : (ns : List Number) (links : List (Option ℕ)) (z : ℤ) → AllZip IsNumber (int (codes "x") ∷ []) ns → AllZip Holds (from_to (pos 0) (pos 1) ∷ []) ns → value_of (record { numbers = ns; links = links }) several ≡ Gives z → AllZip Holds (from_to (negsuc 4) (pos 5) ∷ []) (slice_set ns 0 (Int z))
several-left [] links z i h e = absurd h
several-left (Array zs ∷ ns) links z i h e = let no : false ≡ true = i.0.0 in cc
several-left (Int a ∷ m ∷ ns) links z i h e = absurd (h.1)
several-left (Int a ∷ []) links z i h e = (several-at a links z h.0 e, tt)

several-covers : Covers (After only_x (SetInt 0 several) (Within (from_to (pos 0) (pos 1) ∷ []))) (Within (from_to (negsuc 4) (pos 5) ∷ []))
unfolding effect_of
several-covers k [] d = absurd d
several-covers k (u ∷ vs) d =
    let z = andthen-gives (value_of d.1 several) (λ z. Gives (d.0, with_number d.1 0 (Int z))) (k, u) d.3 in
    let same : (d.0, with_number d.1 0 (Int z.0)) ≡ (k, u) = gives_same z.2 in
    subst (λ (y : Heap × Variables). AllZip Holds (from_to (negsuc 4) (pos 5) ∷ []) y.1.numbers) same (several-left d.1.numbers d.1.links z.0 d.2.0.frames.0.numbers d.2.1 z.1)

pub several-operations-lose : SeveralOperationsLose
unfolding post does range_by
several-operations-lose b =
    let p = b.smallest (Within (from_to (negsuc 4) (pos 5) ∷ [])) several-covers in
    let no : pos 10 ≤ℤ pos 5 = p.0.1 in
    absurd (omega (arith, ints))

wider : (hi : ℤ) → hi ≤ℤ pos 1 → (ns : List Number) → AllZip Holds (from_to (pos 0) hi ∷ []) ns → AllZip Holds (from_to (pos 0) (pos 1) ∷ []) ns
wider hi q [] h = absurd h
wider hi q (n ∷ m ∷ ns) h = absurd (h.1)
wider hi q (n ∷ []) h = let low : pos 0 ≤ℤ measure n = h.0.0 in let high : measure n ≤ℤ hi = h.0.1 in ((low, omega (arith, ints)), tt)

either-covers : Covers (OfEither only_x (Within (from_to (pos 0) (pos 0) ∷ [])) (Within (from_to (pos 0) (pos 1) ∷ []))) (Within (from_to (pos 0) (pos 1) ∷ []))
either-covers h [] (inl d) = absurd (d.1)
either-covers h [] (inr d) = absurd (d.1)
either-covers h (v ∷ vs) (inl d) = wider (pos 0) (omega (arith, ints)) v.numbers d.1
either-covers h (v ∷ vs) (inr d) = wider (pos 1) (omega (arith, ints)) v.numbers d.1

pub widening-loses : WideningLoses
unfolding widen
widening-loses b =
    let p = b.smallest (Within (from_to (pos 0) (pos 1) ∷ [])) either-covers in
    let no : greatest ≤ℤ pos 1 = p.0.1 in
    absurd (omega (arith, ints))

-- Thresholds rise.
use Rattle.std.specs.Prelude.{◌≡◌, ℕ, zero, suc, ◌^◌, ◌<◌, nat_lt, ℤ, pos, negsuc, neg_ℤ, int_lt, ◌<ℤ◌, FitsSigned, List, [], ◌∷◌, ◌++◌, Bool, true, false, ◌&&◌, if◌then◌else◌, slice_get, drop, length, Option, Some, None}
use Rattle.std.specs.Int.{w64}
use Rattle.std.proofs.Common.{refl, arith}
use Rattle.std.proofs.lemmas.Bool.{and_parts, ltb-true}
use Rattle.imp_slots.specs.Plain.{Numeric, Layout, Term, Literal, Slot, Length, Negative, Binary, Guard, Compare, CompareLinks, Not, And, Or, Effect, Skip, Assert, SetInt, Input, ReadElement, ReadItem, MakeArray, CopyArray, WriteElement, SetNull, MakeCell, CopyLink, ReadNext, WriteNext, WriteItem, Argument, IntArgument, ArrayArgument, LinkArgument, Invoke, Code, Stop, Simple, If, While, Call, Break, Routine}
use Rattle.imp_slots.specs.Fits.{is_kind, is_int, is_array, is_link, is_side, fits_term, fits_guard, fits_effect, fits_arguments, fits_returning, fits_invoke, FitsCall, FitsCode}
use Rattle.imp_chains.specs.Thresholds.{term_literals, guard_literals, effect_literals, argument_literals, literals, with_threshold, thresholds_of, IsRising}
use Rattle.imp_chains.specs.Claims.{ThresholdsRise}
use Rattle.base_values.proofs.Integers.{lower_of}

-- each is ltb-true 2^63
abbrev Small : List ℕ → Type 0
Small [] = Unit {0}
Small (n ∷ ns) = (n < 2 ^ 63) × Small ns

small_both : (ns ms : List ℕ) → Small ns → Small ms → Small (ns ++ ms)
small_both [] ms a b = b
small_both (n ∷ ns) ms a b = (a.0, small_both ns ms a.1 b)

term_small : (l : Layout) (e : Term) → fits_term l e ≡ true → Small (term_literals e)
unfolding fits_term
term_small l (Literal n) f = (ltb-true n (2 ^ 63) f, tt)
term_small l (Slot x) f = tt
term_small l (Length x) f = tt
term_small l (Negative e) f = term_small l e f
term_small l (Binary o a b) f = let k = and_parts (fits_term l a) (fits_term l b) f in small_both (term_literals a) (term_literals b) (term_small l a k.0) (term_small l b k.1)

guard_small : (l : Layout) (g : Guard) → fits_guard l g ≡ true → Small (guard_literals g)
unfolding fits_guard
guard_small l (Compare r a b) f = let k = and_parts (fits_term l a) (fits_term l b) f in small_both (term_literals a) (term_literals b) (term_small l a k.0) (term_small l b k.1)
guard_small l (CompareLinks equal p q) f = tt
guard_small l (Not g) f = guard_small l g f
guard_small l (And g h) f = let k = and_parts (fits_guard l g) (fits_guard l h) f in small_both (guard_literals g) (guard_literals h) (guard_small l g k.0) (guard_small l h k.1)
guard_small l (Or g h) f = let k = and_parts (fits_guard l g) (fits_guard l h) f in small_both (guard_literals g) (guard_literals h) (guard_small l g k.0) (guard_small l h k.1)

effect_small : (l : Layout) (e : Effect) → fits_effect l e ≡ true → Small (effect_literals e)
unfolding fits_effect
effect_small l Skip f = tt
effect_small l (Assert g) f = guard_small l g f
effect_small l (SetInt x e) f = term_small l e (and_parts (is_int l x) (fits_term l e) f).1
effect_small l (Input x) f = tt
effect_small l (ReadElement x a e) f = term_small l e (and_parts (is_array l a) (fits_term l e) (and_parts (is_int l x) (is_array l a && fits_term l e) f).1).1
effect_small l (ReadItem x q) f = tt
effect_small l (MakeArray a e) f = term_small l e (and_parts (is_array l a) (fits_term l e) f).1
effect_small l (CopyArray a b) f = tt
effect_small l (WriteElement a e y) f =
    let k = and_parts (fits_term l e) (fits_term l y) (and_parts (is_array l a) (fits_term l e && fits_term l y) f).1 in
    small_both (term_literals e) (term_literals y) (term_small l e k.0) (term_small l y k.1)
effect_small l (SetNull p) f = tt
effect_small l (MakeCell p) f = tt
effect_small l (CopyLink p q) f = tt
effect_small l (ReadNext p q) f = tt
effect_small l (WriteNext p q) f = tt
effect_small l (WriteItem p e) f = term_small l e (and_parts (is_link l p) (fits_term l e) f).1

arguments_small : (l : Layout) (list : List Argument) (ns : List Numeric) (ls : List (List ℕ)) → fits_arguments l list ns ls ≡ true → Small (argument_literals list)
arguments_small l [] ns ls f = tt
arguments_small l (IntArgument e ∷ more) ns ls f =
    let k = and_parts (fits_term l e) (fits_arguments l more (drop 1 ns) ls) (and_parts (is_kind false (slice_get ns 0)) (fits_term l e && fits_arguments l more (drop 1 ns) ls) f).1 in
    small_both (term_literals e) (argument_literals more) (term_small l e k.0) (arguments_small l more (drop 1 ns) ls k.1)
arguments_small l (ArrayArgument a ∷ more) ns ls f =
    let k = and_parts (is_array l a) (fits_arguments l more (drop 1 ns) ls) (and_parts (is_kind true (slice_get ns 0)) (is_array l a && fits_arguments l more (drop 1 ns) ls) f).1 in
    arguments_small l more (drop 1 ns) ls k.1
arguments_small l (LinkArgument p ∷ more) ns ls f =
    let k = and_parts (is_side l p) (fits_arguments l more ns (drop 1 ls)) (and_parts (nat_lt 0 (length ls)) (is_side l p && fits_arguments l more ns (drop 1 ls)) f).1 in
    arguments_small l more ns (drop 1 ls) k.1

called : (l : Layout) (i : Invoke) (o : Option Routine) → FitsCall l i o → Small (argument_literals i.entering.arguments)
unfolding fits_invoke
called l i None f = absurd f
called l i (Some r) f =
    arguments_small l i.entering.arguments i.entering.layout.numbers i.entering.layout.links
    (and_parts (fits_arguments l i.entering.arguments i.entering.layout.numbers i.entering.layout.links) (fits_returning i.entering.layout l i.returning) f.1).0

code_small : (before : List Routine) (l : Layout) (c : Code) → FitsCode before l c → Small (literals c)
unfolding fits_invoke
code_small before l Stop f = tt
code_small before l (Simple n e r) f = small_both (effect_literals e) (literals r) (effect_small l e f.0) (code_small before l r f.1)
code_small before l (If n g t e r) f =
    small_both (guard_literals g) (literals t ++ (literals e ++ literals r)) (guard_small l g f.0)
    (small_both (literals t) (literals e ++ literals r) (code_small before l t f.1) (small_both (literals e) (literals r) (code_small before l e f.2) (code_small before l r f.3)))
code_small before l (While n g b r) f =
    small_both (guard_literals g) (literals b ++ literals r) (guard_small l g f.0) (small_both (literals b) (literals r) (code_small before l b f.1) (code_small before l r f.2))
code_small before l (Call n i q r) f =
    small_both (argument_literals i.entering.arguments) (literals r)
    (called l i (slice_get before q) f.0) (code_small before l r f.1)
code_small before l (Break n r) f = code_small before l r f

-- Thresholds keep rising.
abbrev IsWord : ℤ → Type 0
IsWord z = FitsSigned w64 z

head_word : (x : ℤ) (xs : List ℤ) → IsRising (x ∷ xs) → IsWord x
head_word x [] r = r
head_word x (y ∷ ys) r = r.0

-- after a smaller first threshold
behind : (x z : ℤ) (ys : List ℤ) → IsWord z → x <ℤ z → IsRising (x ∷ ys) → IsRising (with_threshold z ys) → IsRising (x ∷ with_threshold z ys)
behind x z [] w h r k = (r, h, w)
behind x z (y ∷ ys) w h r k = go (int_lt z y) (int_lt y z) k
  where
    go : (b c : Bool) → IsRising (if b then z ∷ y ∷ ys else if c then y ∷ with_threshold z ys else y ∷ ys) → IsRising (x ∷ (if b then z ∷ y ∷ ys else if c then y ∷ with_threshold z ys else y ∷ ys))
    go true c k = (r.0, h, k)
    go false true k = (r.0, r.1, k)
    go false false k = (r.0, r.1, k)

pub rest_rises : (x : ℤ) (xs : List ℤ) → IsRising (x ∷ xs) → IsRising xs
rest_rises x [] r = tt
rest_rises x (y ∷ ys) r = r.2

with_by : (z x : ℤ) (xs : List ℤ) (b c : Bool) → int_lt z x ≡ b → int_lt x z ≡ c → IsWord z → IsRising (x ∷ xs) → IsRising (with_threshold z xs) → IsRising (if b then z ∷ x ∷ xs else if c then x ∷ with_threshold z xs else x ∷ xs)
with_by z x xs true c e f w r k = (w, lower_of z x e, r)
with_by z x xs false true e f w r k = behind x z xs w (lower_of x z f) r k
with_by z x xs false false e f w r k = r

with_rises : (z : ℤ) (xs : List ℤ) → IsWord z → IsRising xs → IsRising (with_threshold z xs)
with_rises z [] w r = w
with_rises z (x ∷ xs) w r = with_by z x xs (int_lt z x) (int_lt x z) refl refl w r (with_rises z xs w (rest_rises x xs r))

pos_word : (n : ℕ) → n < 2 ^ 63 → IsWord (pos n)
pos_word n h = record { sfits = h }

neg_word : (n : ℕ) → n < 2 ^ 63 → IsWord (neg_ℤ (pos n))
neg_word zero h = record { sfits = h }
neg_word (suc n) h = record { sfits = omega arith }

thresholds_rise_of : (ns : List ℕ) → Small ns → IsRising (thresholds_of ns)
thresholds_rise_of [] s = (record { sfits = omega arith }, lower_of (negsuc 0) (pos 0) refl, (record { sfits = omega arith }, lower_of (pos 0) (pos 1) refl, record { sfits = omega arith }))
thresholds_rise_of (n ∷ ns) s = with_rises (pos n) (with_threshold (neg_ℤ (pos n)) (thresholds_of ns)) (pos_word n s.0) (with_rises (neg_ℤ (pos n)) (thresholds_of ns) (neg_word n s.0) (thresholds_rise_of ns s.1))

pub thresholds_rise : ThresholdsRise
thresholds_rise w before r f = go w.thresholds
  where
    go : (b : Bool) → IsRising (if b then thresholds_of (literals r.code) else [])
    go true = thresholds_rise_of (literals r.code) (code_small before r.layout r.code f)
    go false = tt

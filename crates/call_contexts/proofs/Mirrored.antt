-- Rising numbers above 1, mirrored about -1, 0 and 1, are their thresholds.
use Rattle.std.proofs.Common.{◌≡◌, ℕ, zero, suc, ◌<◌, ◌+◌, Bool, true, false, List, [], ◌∷◌, ◌++◌, length, take, drop, get_or, append_assoc, append-nil, refl, sym, ap, ◌∙◌, arith}
use Rattle.std.proofs.lemmas.Bool.{lt-ltb, ltb-true}
use Rattle.std.proofs.lemmas.Bool.Decides.{nat_tests}
use Rattle.std.proofs.lemmas.Int.{ints}
use Rattle.std.proofs.lemmas.List.{drop_all}
use Rattle.std.proofs.lemmas.Map.Keys.{sorted_head, sorted_tail}
use Rattle.std.specs.Prelude.{ℤ, pos, negsuc, neg_ℤ, int_lt, nat_lt, ◌<ℤ◌, if◌then◌else◌}
use Rattle.std.specs.List.{AllByRecursion}
use Rattle.std.specs.List.Sorted.{IsStrictlySortedBy}
use Rattle.std.specs.Ordering.{nat_cmp}
use Rattle.std.specs.declared.cmp.Ordering.TheVariants.{Less}
use Rattle.imp_chains.specs.Thresholds.{with_threshold, thresholds_of}
use Rattle.base_values.proofs.Lists.{drop_item, take_item}
use Rattle.call_contexts.specs.Mirrored.{above_one, negatives}

-- one item more at the end, or none
ends_if : (b : Bool) (ts us : List ℤ) (z : ℤ) → ts ++ (if b then us ++ z ∷ [] else us) ≡ (if b then (ts ++ us) ++ z ∷ [] else ts ++ us)
ends_if true ts us z = sym (append_assoc ts us (z ∷ []))
ends_if false ts us z = refl

joins_if : (b : Bool) (ts us : List ℤ) (z : ℤ) → ts ++ (us ++ (if b then z ∷ [] else [])) ≡ (if b then (ts ++ us) ++ z ∷ [] else ts ++ us)
joins_if true ts us z = sym (append_assoc ts us (z ∷ []))
joins_if false ts us z = ap (λ vs. ts ++ vs) (append-nil us)

-- The negatives of the last ones on.
pub negatives_last : (ts : List ℤ) (ns : List ℕ) → ts ++ negatives (drop (length ns) ns) ≡ ts
negatives_last ts ns = ap (λ ms. ts ++ negatives ms) (drop_all (length ns) ns (omega arith)) ∙ append-nil ts

pub negatives_more : (ts : List ℤ) (ns : List ℕ) (k i n : ℕ) → k ≡ i + 1 → i < length ns → n ≡ get_or ns i n → ts ++ negatives (drop i ns) ≡ (if nat_lt 1 n then (ts ++ negatives (drop k ns)) ++ neg_ℤ (pos n) ∷ [] else ts ++ negatives (drop k ns))
negatives_more ts ns k i n e h g =
    ap (λ ms. ts ++ negatives ms) (drop_item ns i n h g)
    ∙ ends_if (nat_lt 1 n) ts (negatives (drop (i + 1) ns)) (neg_ℤ (pos n))
    ∙ ap (λ j. if nat_lt 1 n then (ts ++ negatives (drop j ns)) ++ neg_ℤ (pos n) ∷ [] else ts ++ negatives (drop j ns)) (sym e)

-- The numbers so far.
above_both : (ns ms : List ℕ) → above_one (ns ++ ms) ≡ above_one ns ++ above_one ms
above_both [] ms = refl
above_both (n ∷ ns) ms = by (nat_lt 1 n) (above_both ns ms)
  where
    by : (b : Bool) → above_one (ns ++ ms) ≡ above_one ns ++ above_one ms → (if b then pos n ∷ above_one (ns ++ ms) else above_one (ns ++ ms)) ≡ (if b then pos n ∷ above_one ns else above_one ns) ++ above_one ms
    by true h = ap (λ ts. pos n ∷ ts) h
    by false h = h

above_by : (ts : List ℤ) (ns : List ℕ) (i n : ℕ) → i < length ns → n ≡ get_or ns i n → ts ++ above_one (take (i + 1) ns) ≡ (if nat_lt 1 n then (ts ++ above_one (take i ns)) ++ pos n ∷ [] else ts ++ above_one (take i ns))
above_by ts ns i n h g =
    ap (λ ms. ts ++ above_one ms) (take_item ns i n h g)
    ∙ ap (λ us. ts ++ us) (above_both (take i ns) (n ∷ []))
    ∙ joins_if (nat_lt 1 n) ts (above_one (take i ns)) (pos n)

pub above_then : (ts us : List ℤ) (ns : List ℕ) (i n : ℕ) → us ≡ ts ++ above_one (take i ns) → i < length ns → n ≡ get_or ns i n → 1 < n → us ++ pos n ∷ [] ≡ ts ++ above_one (take (i + 1) ns)
above_then ts us ns i n e h g l = ap (λ vs. vs ++ pos n ∷ []) e ∙ sym (above_by ts ns i n h g ∙ ap (λ b. if b then (ts ++ above_one (take i ns)) ++ pos n ∷ [] else ts ++ above_one (take i ns)) (lt-ltb 1 n l))

pub above_else : (ts us : List ℤ) (ns : List ℕ) (i n : ℕ) → us ≡ ts ++ above_one (take i ns) → i < length ns → n ≡ get_or ns i n → nat_lt 1 n ≡ false → us ≡ ts ++ above_one (take (i + 1) ns)
above_else ts us ns i n e h g l = e ∙ sym (above_by ts ns i n h g ∙ ap (λ b. if b then (ts ++ above_one (take i ns)) ++ pos n ∷ [] else ts ++ above_one (take i ns)) l)

-- A threshold goes between those below it and those above it, or stays where it is.
lower : (x z : ℤ) → x <ℤ z → int_lt x z ≡ true
lower x z h = grind (arith, ints)

not_lower : (x z : ℤ) → x <ℤ z → int_lt z x ≡ false
not_lower x z h = grind (arith, ints)

not_itself : (z : ℤ) → int_lt z z ≡ false
not_itself z = grind (arith, ints)

abbrev AreBelow : ℤ → List ℤ → Type 0
AreBelow z xs = AllByRecursion (λ x. x <ℤ z) xs

abbrev IsBefore : ℤ → List ℤ → Type 0
IsBefore z [] = Unit {0}
IsBefore z (y ∷ ys) = z <ℤ y

past : (z x : ℤ) (xs : List ℤ) → x <ℤ z → with_threshold z (x ∷ xs) ≡ x ∷ with_threshold z xs
past z x xs h = ap (λ b. if b then z ∷ x ∷ xs else if int_lt x z then x ∷ with_threshold z xs else x ∷ xs) (not_lower x z h) ∙ ap (λ b. if b then x ∷ with_threshold z xs else x ∷ xs) (lower x z h)

goes_between : (z : ℤ) (xs ys : List ℤ) → AreBelow z xs → IsBefore z ys → with_threshold z (xs ++ ys) ≡ xs ++ z ∷ ys
goes_between z [] [] a b = refl
goes_between z [] (y ∷ ys) a b = ap (λ c. if c then z ∷ y ∷ ys else if int_lt y z then y ∷ with_threshold z ys else y ∷ ys) (lower z y b)
goes_between z (x ∷ xs) ys a b = past z x (xs ++ ys) a.0 ∙ ap (λ ts. x ∷ ts) (goes_between z xs ys a.1 b)

stays : (z : ℤ) (xs ys : List ℤ) → AreBelow z xs → with_threshold z (xs ++ z ∷ ys) ≡ xs ++ z ∷ ys
stays z [] ys a = ap (λ c. if c then z ∷ z ∷ ys else if c then z ∷ with_threshold z ys else z ∷ ys) (not_itself z)
stays z (x ∷ xs) ys a = past z x (xs ++ z ∷ ys) a.0 ∙ ap (λ ts. x ∷ ts) (stays z xs ys a.1)

-- What stands below one of the numbers, and above it.
below_both : (z : ℤ) (xs ys : List ℤ) → AreBelow z xs → AreBelow z ys → AreBelow z (xs ++ ys)
below_both z [] ys a b = b
below_both z (x ∷ xs) ys a b = (a.0, below_both z xs ys a.1 b)

-- the negatives of greater numbers
negatives_below : (n : ℕ) (ns : List ℕ) → AllByRecursion (λ m. n < m) ns → AreBelow (neg_ℤ (pos n)) (negatives ns)
negatives_below n [] a = tt
negatives_below n (m ∷ ns) a = by (nat_lt 1 m) (negatives_below n ns a.1)
  where
    first : neg_ℤ (pos m) <ℤ neg_ℤ (pos n)
    first = let h : n < m = a.0 in omega (arith, ints)

    by : (b : Bool) → AreBelow (neg_ℤ (pos n)) (negatives ns) → AreBelow (neg_ℤ (pos n)) (if b then negatives ns ++ neg_ℤ (pos m) ∷ [] else negatives ns)
    by true h = below_both (neg_ℤ (pos n)) (negatives ns) (neg_ℤ (pos m) ∷ []) h (first, tt)
    by false h = h

-- all of them are below -1
negatives_low : (ns : List ℕ) → AreBelow (negsuc 0) (negatives ns)
negatives_low [] = tt
negatives_low (m ∷ ns) = by (nat_lt 1 m) refl (negatives_low ns)
  where
    first : nat_lt 1 m ≡ true → neg_ℤ (pos m) <ℤ negsuc 0
    first e = let h : 1 < m = ltb-true 1 m e in omega (arith, ints)

    by : (b : Bool) → nat_lt 1 m ≡ b → AreBelow (negsuc 0) (negatives ns) → AreBelow (negsuc 0) (if b then negatives ns ++ neg_ℤ (pos m) ∷ [] else negatives ns)
    by true e h = below_both (negsuc 0) (negatives ns) (neg_ℤ (pos m) ∷ []) h (first e, tt)
    by false e h = h

weaker : (x z : ℤ) (xs : List ℤ) → x <ℤ z → AreBelow x xs → AreBelow z xs
weaker x z [] h a = tt
weaker x z (y ∷ xs) h a = (let l : y <ℤ x = a.0 in omega (arith, ints), weaker x z xs h a.1)

before_above : (n : ℕ) (ns : List ℕ) → AllByRecursion (λ m. n < m) ns → IsBefore (pos n) (above_one ns)
before_above n [] a = tt
before_above n (m ∷ ns) a = by (nat_lt 1 m) (before_above n ns a.1)
  where
    first : pos n <ℤ pos m
    first = let h : n < m = a.0 in omega (arith, ints)

    by : (b : Bool) → IsBefore (pos n) (above_one ns) → IsBefore (pos n) (if b then pos m ∷ above_one ns else above_one ns)
    by true h = first
    by false h = h

-- One number more, below the others.
abbrev mirrored : List ℕ → List ℤ
mirrored ns = negatives ns ++ (negsuc 0 ∷ pos 0 ∷ pos 1 ∷ above_one ns)

zero_stays : (ns : List ℕ) → with_threshold (pos 0) (mirrored ns) ≡ mirrored ns
zero_stays ns =
    let N = negatives ns in
    let P = above_one ns in
    ap (with_threshold (pos 0)) (sym (append_assoc N (negsuc 0 ∷ []) (pos 0 ∷ pos 1 ∷ P)))
    ∙ stays (pos 0) (N ++ negsuc 0 ∷ []) (pos 1 ∷ P) (below_both (pos 0) N (negsuc 0 ∷ []) (weaker (negsuc 0) (pos 0) N (omega (arith, ints)) (negatives_low ns)) (omega (arith, ints), tt))
    ∙ append_assoc N (negsuc 0 ∷ []) (pos 0 ∷ pos 1 ∷ P)

one_stays : (ns : List ℕ) → with_threshold (pos 1) (mirrored ns) ≡ mirrored ns
one_stays ns =
    let N = negatives ns in
    let P = above_one ns in
    ap (with_threshold (pos 1)) (sym (append_assoc N (negsuc 0 ∷ pos 0 ∷ []) (pos 1 ∷ P)))
    ∙ stays (pos 1) (N ++ negsuc 0 ∷ pos 0 ∷ []) P (below_both (pos 1) N (negsuc 0 ∷ pos 0 ∷ []) (weaker (negsuc 0) (pos 1) N (omega (arith, ints)) (negatives_low ns)) (omega (arith, ints), (omega (arith, ints), tt)))
    ∙ append_assoc N (negsuc 0 ∷ pos 0 ∷ []) (pos 1 ∷ P)

more_below : (n : ℕ) (ns : List ℕ) → 1 < n → AllByRecursion (λ m. n < m) ns → with_threshold (pos n) (with_threshold (neg_ℤ (pos n)) (mirrored ns)) ≡ (negatives ns ++ neg_ℤ (pos n) ∷ []) ++ (negsuc 0 ∷ pos 0 ∷ pos 1 ∷ pos n ∷ above_one ns)
more_below n ns h a =
    let N = negatives ns in
    let P = above_one ns in
    let M = neg_ℤ (pos n) ∷ negsuc 0 ∷ pos 0 ∷ pos 1 ∷ [] in
    ap (with_threshold (pos n))
    (goes_between (neg_ℤ (pos n)) N (negsuc 0 ∷ pos 0 ∷ pos 1 ∷ P) (negatives_below n ns a) (omega (arith, ints))
    ∙ sym (append_assoc N M P))
    ∙ goes_between (pos n) (N ++ M) P (below_both (pos n) N M (weaker (negsuc 0) (pos n) N (omega (arith, ints)) (negatives_low ns)) (omega (arith, ints), (omega (arith, ints), (omega (arith, ints), (omega (arith, ints), tt))))) (before_above n ns a)
    ∙ append_assoc N M (pos n ∷ P)
    ∙ sym (append_assoc N (neg_ℤ (pos n) ∷ []) (negsuc 0 ∷ pos 0 ∷ pos 1 ∷ pos n ∷ P))

few_stay : (n : ℕ) (ns : List ℕ) → n < 2 → with_threshold (pos n) (with_threshold (neg_ℤ (pos n)) (mirrored ns)) ≡ mirrored ns
few_stay zero ns h = ap (with_threshold (pos 0)) (zero_stays ns) ∙ zero_stays ns
few_stay (suc zero) ns h =
    ap (with_threshold (pos 1)) (stays (negsuc 0) (negatives ns) (pos 0 ∷ pos 1 ∷ above_one ns) (negatives_low ns)) ∙ one_stays ns
few_stay (suc (suc n)) ns h = absurd (omega (arith, h))

with_number : (n : ℕ) (ns : List ℕ) → AllByRecursion (λ m. n < m) ns → with_threshold (pos n) (with_threshold (neg_ℤ (pos n)) (mirrored ns)) ≡ mirrored (n ∷ ns)
with_number n ns a = by (nat_lt 1 n) refl
  where
    by : (b : Bool) → nat_lt 1 n ≡ b → with_threshold (pos n) (with_threshold (neg_ℤ (pos n)) (mirrored ns)) ≡ (if b then negatives ns ++ neg_ℤ (pos n) ∷ [] else negatives ns) ++ (negsuc 0 ∷ pos 0 ∷ pos 1 ∷ (if b then pos n ∷ above_one ns else above_one ns))
    by true e = more_below n ns (ltb-true 1 n e) a
    by false e = few_stay n ns (grind (arith, nat_tests))

-- those after the first of rising numbers are greater
greater : (n : ℕ) (ns : List ℕ) → AllByRecursion (λ m. nat_cmp n m ≡ Less) ns → AllByRecursion (λ m. n < m) ns
greater n [] a = tt
greater n (m ∷ ns) a = (let h = a.0 in grind (arith, nat_tests), greater n ns a.1)

rising_mirrored : (ns : List ℕ) → IsStrictlySortedBy nat_cmp ns → mirrored ns ≡ thresholds_of ns
rising_mirrored [] s = refl
rising_mirrored (n ∷ ns) s =
    sym (with_number n ns (greater n ns (sorted_head nat_cmp n ns s)))
    ∙ ap (λ ts. with_threshold (pos n) (with_threshold (neg_ℤ (pos n)) ts)) (rising_mirrored ns (sorted_tail nat_cmp n ns s))

pub thresholds_mirrored : (ns : List ℕ) → IsStrictlySortedBy nat_cmp ns → (((negatives ns ++ negsuc 0 ∷ []) ++ pos 0 ∷ []) ++ pos 1 ∷ []) ++ above_one ns ≡ thresholds_of ns
thresholds_mirrored ns s =
    let N = negatives ns in
    let P = above_one ns in
    append_assoc ((N ++ negsuc 0 ∷ []) ++ pos 0 ∷ []) (pos 1 ∷ []) P
    ∙ append_assoc (N ++ negsuc 0 ∷ []) (pos 0 ∷ []) (pos 1 ∷ P)
    ∙ append_assoc N (negsuc 0 ∷ []) (pos 0 ∷ pos 1 ∷ P)
    ∙ rising_mirrored ns s

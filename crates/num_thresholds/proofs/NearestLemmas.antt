-- The nearest number: where bisection leads among numbers that rise, and one number more of a pass.
use Rattle.std.specs.Prelude.{◌≡◌, ℕ, ◌<◌, ◌≤◌, ℤ, pos, ◌≤ℤ◌, ◌<ℤ◌, int_le, int_lt, nat_lt, Bool, true, false, Option, Some, None, List, [], ◌∷◌, length, slice_get, ◌&&◌, FitsSigned, if◌then◌else◌, refl}
use Rattle.std.proofs.Common.{arith, ap, sym, subst, inl, inr, ◌∙◌, ◌+◌, get_or, drop, suc, zero, add-one}
use Rattle.std.proofs.Math.Seq.{drop-cons}
use Rattle.std.specs.List.Sorted.{IsPartitionPoint, IsPartitionedBy}
use Rattle.std.proofs.lemmas.Bool.{cases_lt}
use Rattle.std.proofs.lemmas.Int.{ints, clamps}
use Rattle.std.proofs.lemmas.List.{drop_all, get_or_past}
use mir.Syntax.{w64}
use Rattle.num_thresholds.specs.Thresholds.{greater, greatest_to, least_from, lesser, AreSeen, IsRising, IsWord}

-- ---- the order of two numbers

by_order : (P : Bool → Type 0) (x y : ℤ) → (x <ℤ y → P true) → (y ≤ℤ x → P false) → P (int_lt x y)
by_order P x y p q = go (int_lt x y) refl
  where
    go : (b : Bool) → int_lt x y ≡ b → P b
    go true e = p (grind (arith, ints))
    go false e = q (grind (arith, ints))

at_most : (x y z : ℤ) → x ≤ℤ y → y ≤ℤ z → x ≤ℤ z
at_most x y z p q = omega (arith, ints)

crossed : (x y : ℤ) → x <ℤ y → y ≤ℤ x → ⊥
crossed x y p q = omega (arith, ints)

-- ---- among numbers that rise

lesser-both : (m n : ℤ) (o : Option ℤ) → m ≤ℤ n → lesser m o ≡ m → lesser m (Some (lesser n o)) ≡ m
lesser-both m n None l e = omega (arith, ints, clamps)
lesser-both m n (Some w) l e = omega (arith, ints, clamps)

-- a number that none of the others is below
lesser-first : (m : ℤ) (ms : List ℤ) (z : ℤ) → ((k : ℕ) → k < length ms → m ≤ℤ get_or ms k (pos 0)) → lesser m (least_from ms z) ≡ m
lesser-first m [] z l = refl
lesser-first m (n ∷ ns) z l =
    let rest : lesser m (least_from ns z) ≡ m = lesser-first m ns z (λ k i. l (suc k) (omega arith)) in
    by_order (λ b. lesser m (if b then least_from ns z else Some (lesser n (least_from ns z))) ≡ m) n z (λ _. rest) (λ _. lesser-both m n (least_from ns z) (l 0 (omega arith)) rest)

lt-of_true : (a b : ℕ) → nat_lt a b ≡ true → a < b
lt-of_true a b e = grind (arith)

le-of_false : (a b : ℕ) → nat_lt a b ≡ false → b ≤ a
le-of_false a b e = grind (arith)

-- the number at a place, whatever stands for one that is not there
default-same : (ms : List ℤ) (k : ℕ) (d e : ℤ) → k < length ms → get_or ms k d ≡ get_or ms k e
default-same [] k d e l = absurd (omega arith)
default-same (m ∷ ms) zero d e l = refl
default-same (m ∷ ms) (suc k) d e l = default-same ms k d e (omega arith)

got : (ms : List ℤ) (k : ℕ) (d : ℤ) → k < length ms → slice_get ms k ≡ Some (get_or ms k d)
got [] k d l = absurd (omega arith)
got (m ∷ ms) zero d l = refl
got (m ∷ ms) (suc k) d l = got ms k d (omega arith)

past : (ms : List ℤ) (k : ℕ) → length ms ≤ k → slice_get ms k ≡ None
past [] zero l = refl
past [] (suc k) l = refl
past (m ∷ ms) zero l = absurd (omega arith)
past (m ∷ ms) (suc k) l = past ms k (omega arith)

-- .. by the test of its place
pub got-test : (ms : List ℤ) (k : ℕ) (d : ℤ) → true ≡ nat_lt k (length ms) → slice_get ms k ≡ Some (get_or ms k d)
got-test ms k d e = got ms k d (lt-of_true k (length ms) (sym e))

pub past-test : (ms : List ℤ) (k : ℕ) → false ≡ nat_lt k (length ms) → slice_get ms k ≡ None
past-test ms k e = past ms k (le-of_false k (length ms) (sym e))

rising-at : (ms : List ℤ) (i j : ℕ) (d : ℤ) → IsRising ms → i ≤ j → j < length ms → get_or ms i d ≤ℤ get_or ms j d
rising-at ms i j d r l k = subst (λ x. x ≤ℤ get_or ms j d) (default-same ms i (pos 0) d (omega arith)) (subst (λ y. get_or ms i (pos 0) ≤ℤ y) (default-same ms j (pos 0) d k) (r i j l k))

rising-rest : (m : ℤ) (ms : List ℤ) → IsRising (m ∷ ms) → IsRising ms
rising-rest m ms r = λ i j l k. r (suc i) (suc j) (omega arith) (omega arith)

-- where all before a place are below z, and none from there on is
pub first-is : (ms : List ℤ) (z : ℤ) (i : ℕ) → IsRising ms → ((k : ℕ) → k < i → get_or ms k (pos 0) <ℤ z) → ((k : ℕ) → i ≤ k → k < length ms → z ≤ℤ get_or ms k (pos 0)) → least_from ms z ≡ slice_get ms i
first-is [] z zero r b a = refl
first-is [] z (suc i) r b a = refl
first-is (m ∷ ms) z zero r b a = by_order (λ b. (if b then least_from ms z else Some (lesser m (least_from ms z))) ≡ Some m) m z
    (λ p. absurd (crossed m z p (a 0 (omega arith) (omega arith))))
    (λ _. ap Some (lesser-first m ms z (λ k i. r 0 (suc k) (omega arith) (omega arith))))
first-is (m ∷ ms) z (suc i) r b a = by_order (λ b. (if b then least_from ms z else Some (lesser m (least_from ms z))) ≡ slice_get ms i) m z
    (λ _. first-is ms z i (rising-rest m ms r) (λ k l. b (suc k) (omega arith)) (λ k l h. a (suc k) (omega arith) (omega arith)))
    (λ q. absurd (crossed m z (b 0 (omega arith)) q))

-- the number before a place, if there is one
abbrev pub before : List ℤ → ℕ → Option ℤ
before ms zero = None
before ms (suc i) = slice_get ms i

none-to : (ms : List ℤ) (z : ℤ) → ((k : ℕ) → k < length ms → z <ℤ get_or ms k (pos 0)) → greatest_to ms z ≡ None
none-to [] z a = refl
none-to (m ∷ ms) z a = by_order (λ b. (if b then greatest_to ms z else Some (greater m (greatest_to ms z))) ≡ None) z m
    (λ _. none-to ms z (λ k i. a (suc k) (omega arith)))
    (λ q. absurd (crossed z m (a 0 (omega arith)) q))

-- a number that is above none of the others, before the one at a place
greater-first : (m : ℤ) (ms : List ℤ) (i : ℕ) → i ≤ length ms → ((k : ℕ) → k < length ms → m ≤ℤ get_or ms k (pos 0)) → Some (greater m (before ms i)) ≡ slice_get (m ∷ ms) i
greater-first m ms zero b l = refl
greater-first m [] (suc i) b l = absurd (omega arith)
greater-first m (n ∷ ns) (suc zero) b l = let h = l 0 (omega arith) in ap Some (omega (arith, ints, clamps))
greater-first m (n ∷ ns) (suc (suc i)) b l = greater-first m ns (suc i) (omega arith) (λ k h. l (suc k) (omega arith))

-- where none before a place is above z, and all from there on are
pub last-is : (ms : List ℤ) (z : ℤ) (i : ℕ) → i ≤ length ms → IsRising ms → ((k : ℕ) → k < i → get_or ms k (pos 0) ≤ℤ z) → ((k : ℕ) → i ≤ k → k < length ms → z <ℤ get_or ms k (pos 0)) → greatest_to ms z ≡ before ms i
last-is ms z zero l r b a = none-to ms z (λ k h. a k (omega arith) h)
last-is [] z (suc i) l r b a = absurd (omega arith)
last-is (m ∷ ms) z (suc i) l r b a = by_order (λ b. (if b then greatest_to ms z else Some (greater m (greatest_to ms z))) ≡ slice_get (m ∷ ms) i) z m
    (λ p. absurd (crossed z m p (b 0 (omega arith))))
    (λ _. ap (λ o. Some (greater m o)) (last-is ms z i (omega arith) (rising-rest m ms r) (λ k h. b (suc k) (omega arith)) (λ k h g. a (suc k) (omega arith) (omega arith)))
    ∙ greater-first m ms i (omega arith) (λ k h. r 0 (suc k) (omega arith) (omega arith)))

-- what bisection asks of numbers that rise
is-below : (x y z : ℤ) → x ≤ℤ y → int_lt y z ≡ true → int_lt x z ≡ true
is-below x y z l e = grind (arith, ints)

is-within : (x y z : ℤ) → x ≤ℤ y → int_le y z ≡ true → int_le x z ≡ true
is-within x y z l e = grind (arith, ints)

pub partitions-below : (ms : List ℤ) (z : ℤ) → IsRising ms → IsPartitionedBy (λ m. int_lt m z) ms
partitions-below ms z r = λ i j d l k. is-below (get_or ms i d) (get_or ms j d) z (rising-at ms i j d r l k)

pub partitions-within : (ms : List ℤ) (z : ℤ) → IsRising ms → IsPartitionedBy (λ m. int_le m z) ms
partitions-within ms z r = λ i j d l k. is-within (get_or ms i d) (get_or ms j d) z (rising-at ms i j d r l k)

below : (x z : ℤ) → int_lt x z ≡ true → x <ℤ z
below x z e = grind (arith, ints)

not-below : (x z : ℤ) → int_lt x z ≡ false → z ≤ℤ x
not-below x z e = grind (arith, ints)

within : (x z : ℤ) → int_le x z ≡ true → x ≤ℤ z
within x z e = grind (arith, ints)

beyond : (x z : ℤ) → int_le x z ≡ false → z <ℤ x
beyond x z e = grind (arith, ints)

-- .. and what it answers
pub first-at : (ms : List ℤ) (z : ℤ) (i : ℕ) → IsRising ms → IsPartitionPoint (λ m. int_lt m z ≡ true) (λ m. int_lt m z ≡ false) ms i → least_from ms z ≡ slice_get ms i
first-at ms z i r p = first-is ms z i r (λ k l. below (get_or ms k (pos 0)) z (p.0 k (pos 0) (omega arith) l)) (λ k l h. not-below (get_or ms k (pos 0)) z (p.1 k (pos 0) l h))

pub last-at : (ms : List ℤ) (z : ℤ) (i : ℕ) → i ≤ length ms → IsRising ms → IsPartitionPoint (λ m. int_le m z ≡ true) (λ m. int_le m z ≡ false) ms i → greatest_to ms z ≡ before ms i
last-at ms z i b r p = last-is ms z i b r (λ k l. within (get_or ms k (pos 0)) z (p.0 k (pos 0) (omega arith) l)) (λ k l h. beyond (get_or ms k (pos 0)) z (p.1 k (pos 0) l h))

pub last-before : (ms : List ℤ) (z : ℤ) (i k : ℕ) → i ≤ length ms → IsRising ms → IsPartitionPoint (λ m. int_le m z ≡ true) (λ m. int_le m z ≡ false) ms i → k + 1 ≡ i → greatest_to ms z ≡ slice_get ms k
last-before ms z i k b r p e = subst (λ n. greatest_to ms z ≡ before ms n) (sym e ∙ add-one k) (last-at ms z i b r p)

pub none-before : (ms : List ℤ) (z : ℤ) (i : ℕ) → i ≤ length ms → IsRising ms → IsPartitionPoint (λ m. int_le m z ≡ true) (λ m. int_le m z ≡ false) ms i → i ≡ 0 → greatest_to ms z ≡ None
none-before ms z i b r p e = subst (λ n. greatest_to ms z ≡ before ms n) e (last-at ms z i b r p)

-- ---- by a pass

-- the lesser of what was found before and of what is found of the rest, and the greater
abbrev pub lesser_of : Option ℤ → Option ℤ → Option ℤ
lesser_of None o = o
lesser_of (Some m) o = Some (lesser m o)

abbrev pub greater_of : Option ℤ → Option ℤ → Option ℤ
greater_of None o = o
greater_of (Some m) o = Some (greater m o)

lesser-joined : (v : ℤ) (found rest : Option ℤ) → lesser_of (Some (lesser v found)) rest ≡ lesser_of found (Some (lesser v rest))
lesser-joined v None o = refl
lesser-joined v (Some m) None = ap Some (omega (arith, ints, clamps))
lesser-joined v (Some m) (Some w) = ap Some (omega (arith, ints, clamps))

greater-joined : (v : ℤ) (found rest : Option ℤ) → greater_of (Some (greater v found)) rest ≡ greater_of found (Some (greater v rest))
greater-joined v None o = refl
greater-joined v (Some m) None = ap Some (omega (arith, ints, clamps))
greater-joined v (Some m) (Some w) = ap Some (omega (arith, ints, clamps))

-- one number more
pub least-step : (ms : List ℤ) (z : ℤ) (i : ℕ) (found r : Option ℤ) → i < length ms → r ≡ (if int_lt (get_or ms i (pos 0)) z then found else Some (lesser (get_or ms i (pos 0)) found)) → lesser_of r (least_from (drop (i + 1) ms) z) ≡ lesser_of found (least_from (drop i ms) z)
least-step ms z i found r l e = rw (drop-cons ms i (pos 0), add-one) (ap (λ o. lesser_of o (least_from (drop (suc i) ms) z)) e ∙ by (get_or ms i (pos 0)) (int_lt (get_or ms i (pos 0)) z) (least_from (drop (suc i) ms) z))
  where
    by : (m : ℤ) (b : Bool) (rest : Option ℤ) → lesser_of (if b then found else Some (lesser m found)) rest ≡ lesser_of found (if b then rest else Some (lesser m rest))
    by m true rest = refl
    by m false rest = lesser-joined m found rest

pub greatest-step : (ms : List ℤ) (z : ℤ) (i : ℕ) (found r : Option ℤ) → i < length ms → r ≡ (if int_lt z (get_or ms i (pos 0)) then found else Some (greater (get_or ms i (pos 0)) found)) → greater_of r (greatest_to (drop (i + 1) ms) z) ≡ greater_of found (greatest_to (drop i ms) z)
greatest-step ms z i found r l e = rw (drop-cons ms i (pos 0), add-one) (ap (λ o. greater_of o (greatest_to (drop (suc i) ms) z)) e ∙ by (get_or ms i (pos 0)) (int_lt z (get_or ms i (pos 0))) (greatest_to (drop (suc i) ms) z))
  where
    by : (m : ℤ) (b : Bool) (rest : Option ℤ) → greater_of (if b then found else Some (greater m found)) rest ≡ greater_of found (if b then rest else Some (greater m rest))
    by m true rest = refl
    by m false rest = greater-joined m found rest

-- nothing is left of a pass
pub least-end : (ms : List ℤ) (z : ℤ) (i : ℕ) (found all : Option ℤ) → length ms ≤ i → lesser_of found (least_from (drop i ms) z) ≡ all → found ≡ all
least-end ms z i found all l e = sym (by found) ∙ (sym (ap (λ xs. lesser_of found (least_from xs z)) (drop_all i ms l)) ∙ e)
  where
    by : (o : Option ℤ) → lesser_of o None ≡ o
    by None = refl
    by (Some m) = refl

pub greatest-end : (ms : List ℤ) (z : ℤ) (i : ℕ) (found all : Option ℤ) → length ms ≤ i → greater_of found (greatest_to (drop i ms) z) ≡ all → found ≡ all
greatest-end ms z i found all l e = sym (by found) ∙ (sym (ap (λ xs. greater_of found (greatest_to xs z)) (drop_all i ms l)) ∙ e)
  where
    by : (o : Option ℤ) → greater_of o None ≡ o
    by None = refl
    by (Some m) = refl

-- ---- numbers of 64 bits that rise as far as they were seen

word : (m : ℤ) → FitsSigned w64 m → IsWord m
word m h = (omega (arith, ints), omega (arith, ints))

pub record AreSeenTo (ms : List ℤ) (i : ℕ) (rising : Bool) (last : ℤ) : Type 0 where
  pub words : (k : ℕ) → k < i → IsWord (get_or ms k (pos 0))
  pub up_to : rising ≡ true → (k : ℕ) → k < i → get_or ms k (pos 0) ≤ℤ last
  pub rise : rising ≡ true → (j k : ℕ) → j ≤ k → k < i → get_or ms j (pos 0) ≤ℤ get_or ms k (pos 0)

pub seen-none : (ms : List ℤ) (last : ℤ) → AreSeenTo ms 0 true last
seen-none ms last = record {
  words = λ k l. absurd (omega arith);
  up_to = λ _ k l. absurd (omega arith);
  rise = λ _ j k l h. absurd (omega arith);
}

both-true : (a b : Bool) → (a && b) ≡ true → (a ≡ true) × (b ≡ true)
both-true true true e = (refl, refl)
both-true true false e = absurd (let h = e in cc)
both-true false b e = absurd (let h = e in cc)

pub seen-next : (ms : List ℤ) (i : ℕ) (rising r : Bool) (last : ℤ) → AreSeenTo ms i rising last → FitsSigned w64 (get_or ms i (pos 0)) → r ≡ (rising && int_le last (get_or ms i (pos 0))) → AreSeenTo ms (i + 1) r (get_or ms i (pos 0))
seen-next ms i rising r last h f e =
    let was : r ≡ true → rising ≡ true = λ t. (both-true rising (int_le last (get_or ms i (pos 0))) (sym e ∙ t)).0 in
    let on : r ≡ true → last ≤ℤ get_or ms i (pos 0) = λ t. within last (get_or ms i (pos 0)) ((both-true rising (int_le last (get_or ms i (pos 0))) (sym e ∙ t)).1) in
    let to : r ≡ true → (k : ℕ) → k < i + 1 → get_or ms k (pos 0) ≤ℤ get_or ms i (pos 0) =
    λ t k l. elim (cases_lt k i) [
      | inl m ↦ at_most (get_or ms k (pos 0)) last (get_or ms i (pos 0)) (h.up_to (was t) k m) (on t)
      | inr m ↦ let q : k ≡ i = omega arith in subst (λ n. get_or ms n (pos 0) ≤ℤ get_or ms i (pos 0)) (sym q) (omega (arith, ints))
    ]
    in
    record {
      words = λ k l. elim (cases_lt k i) [
        | inl m ↦ h.words k m
        | inr m ↦ let q : k ≡ i = omega arith in subst (λ n. IsWord (get_or ms n (pos 0))) (sym q) (word (get_or ms i (pos 0)) f)
      ];
      up_to = to;
      rise = λ t j k l m. elim (cases_lt k i) [
        | inl p ↦ h.rise (was t) j k l p
        | inr p ↦ let q : k ≡ i = omega arith in subst (λ n. get_or ms j (pos 0) ≤ℤ get_or ms n (pos 0)) (sym q) (to t j (omega arith))
      ];
    }

pub seen-all : (ms : List ℤ) (i : ℕ) (rising : Bool) (last : ℤ) → length ms ≤ i → AreSeenTo ms i rising last → AreSeen rising ms
seen-all ms i rising last l h = record {
  rise = λ t j k a b. h.rise t j k a (omega arith);
  words = λ k. elim (cases_lt k i) [
    | inl m ↦ h.words k m
    | inr m ↦ subst IsWord (sym (get_or_past ms k (pos 0) (omega arith))) (omega (arith, ints), omega (arith, ints))
  ];
}

-- Thresholds are those of a set of numbers: which numbers there are tells them, not where and how often they stand.
use Rattle.std.proofs.Common.{◌≡◌, ℕ, ℤ, ◌||◌, Bool, true, false, List, [], ◌∷◌, refl, sym, ap, ◌∙◌, subst}
use Rattle.std.specs.Prelude.{pos, negsuc, neg_ℤ, int_lt, if◌then◌else◌, cond}
use Rattle.std.proofs.lemmas.Map.Lookups.{exact_signed, btree_set_from_contains}
use Rattle.std.specs.Cmp.{int_cmp_total, both_ways}
use Rattle.std.specs.Ordering.{is_eq, int_cmp, match_ordering, ordering_reverse}
use Rattle.std.specs.declared.cmp.Ordering.{Ordering}
use Rattle.std.specs.declared.cmp.Ordering.TheVariants.{Less, Equal, Greater}
use Rattle.std.specs.List.{list_any}
use Rattle.std.specs.List.Sorted.{IsStrictlySortedBy}
use Rattle.std.specs.BTreeMap.{is_at}
use Rattle.std.specs.BTreeSet.{BTreeSet, insert_key}
use Rattle.std.proofs.Math.Bool.{or-true}
use Rattle.imp_chains.specs.Chains.{has}
use Rattle.imp_chains.specs.Thresholds.{with_threshold, thresholds_of}
use Rattle.call_contexts.proofs.Sorted.{inserted_sorted, inserted_has}
use Rattle.base_values.proofs.Cases.{by_test}

-- a threshold goes where a key of a set goes
threshold_is_key : (z : ℤ) (xs : List ℤ) → with_threshold z xs ≡ insert_key int_cmp xs z
threshold_is_key z [] = refl
threshold_is_key z (x ∷ xs) = by (int_lt z x) (int_lt x z) (threshold_is_key z xs)
  where
    by : (b c : Bool) → with_threshold z xs ≡ insert_key int_cmp xs z → (if b then z ∷ x ∷ xs else if c then x ∷ with_threshold z xs else x ∷ xs) ≡ match_ordering (cond b Less (cond c Greater Equal)) (z ∷ x ∷ xs) (x ∷ xs) (x ∷ insert_key int_cmp xs z)
    by true c h = refl
    by false true h = ap (λ ys. x ∷ ys) h
    by false false h = refl

start_sorted : IsStrictlySortedBy int_cmp (negsuc 0 ∷ pos 0 ∷ pos 1 ∷ [])
unfolding IsStrictlySortedBy
start_sorted = ((refl, (refl, tt)), ((refl, tt), (tt, tt)))

with_sorted : (z : ℤ) (xs : List ℤ) → IsStrictlySortedBy int_cmp xs → IsStrictlySortedBy int_cmp (with_threshold z xs)
with_sorted z xs s = subst (IsStrictlySortedBy int_cmp) (sym (threshold_is_key z xs)) (inserted_sorted int_cmp_total z xs s)

pub thresholds_sorted : (ns : List ℕ) → IsStrictlySortedBy int_cmp (thresholds_of ns)
thresholds_sorted [] = start_sorted
thresholds_sorted (n ∷ ns) = with_sorted (pos n) (with_threshold (neg_ℤ (pos n)) (thresholds_of ns)) (with_sorted (neg_ℤ (pos n)) (thresholds_of ns) (thresholds_sorted ns))

-- whether a threshold is one of a number
abbrev is_threshold : ℤ → ℕ → Bool
is_threshold z n = is_eq (int_cmp z (pos n)) || is_eq (int_cmp z (neg_ℤ (pos n)))

with_has : (q z : ℤ) (xs : List ℤ) → list_any (is_at (int_cmp q)) (with_threshold z xs) ≡ (is_eq (int_cmp q z) || list_any (is_at (int_cmp q)) xs)
with_has q z xs = ap (list_any (is_at (int_cmp q))) (threshold_is_key z xs) ∙ inserted_has int_cmp_total q z xs

three : (a b c d : Bool) → (a || (b || (c || d))) ≡ (c || ((a || b) || d))
three true b true d = refl
three true b false d = refl
three false b true d = or-true b
three false b false d = refl

thresholds_have : (q : ℤ) (ns : List ℕ) → list_any (is_at (int_cmp q)) (thresholds_of ns) ≡ (list_any (is_at (int_cmp q)) (thresholds_of []) || list_any (is_threshold q) ns)
thresholds_have q [] = nothing (list_any (is_at (int_cmp q)) (thresholds_of []))
  where
    nothing : (a : Bool) → a ≡ (a || false)
    nothing true = refl
    nothing false = refl
thresholds_have q (n ∷ ns) =
    let a = is_eq (int_cmp q (pos n)) in
    let b = is_eq (int_cmp q (neg_ℤ (pos n))) in
    with_has q (pos n) (with_threshold (neg_ℤ (pos n)) (thresholds_of ns))
    ∙ ap (λ c. a || c) (with_has q (neg_ℤ (pos n)) (thresholds_of ns) ∙ ap (λ c. b || c) (thresholds_have q ns))
    ∙ three a b (list_any (is_at (int_cmp q)) (thresholds_of [])) (list_any (is_threshold q) ns)

-- what one of the numbers passes
passed : (f : ℕ → Bool) (xs : List ℕ) → list_any f xs ≡ true → (n : ℕ) × (has n xs ≡ true) × (f n ≡ true)
passed f [] h = absurd cc
passed f (x ∷ xs) h = go (f x) refl h (passed f xs)
  where
    go : (b : Bool) → f x ≡ b → (b || list_any f xs) ≡ true → (list_any f xs ≡ true → (n : ℕ) × (has n xs ≡ true) × (f n ≡ true)) → (n : ℕ) × (has n (x ∷ xs) ≡ true) × (f n ≡ true)
    go true e h more = (x, by_test x x (λ c. (if c then true else has x xs) ≡ true) (λ i. refl) (λ i. absurd (i refl)), e)
    go false e h more =
        let r = more h in
        (r.0, by_test r.0 x (λ c. (if c then true else has r.0 xs) ≡ true) (λ i. refl) (λ i. r.1), r.2)

passes : (f : ℕ → Bool) (xs : List ℕ) (n : ℕ) → has n xs ≡ true → f n ≡ true → list_any f xs ≡ true
passes f [] n h e = absurd cc
passes f (x ∷ xs) n h e =
    (by_test n x (λ c. (if c then true else has n xs) ≡ true → (f x || list_any f xs) ≡ true)
    (λ i h. ap (λ b. b || list_any f xs) (sym (ap f i) ∙ e))
    (λ i h. ap (λ b. f x || b) (passes f xs n h e) ∙ or-true (f x))) h

any_same : (f : ℕ → Bool) (xs ys : List ℕ) → ((n : ℕ) → has n xs ≡ has n ys) → list_any f xs ≡ list_any f ys
any_same f xs ys h =
    both_ways (list_any f xs) (list_any f ys)
    (λ t. let r = passed f xs t in passes f ys r.0 (sym (h r.0) ∙ r.1) r.2)
    (λ t. let r = passed f ys t in passes f xs r.0 (h r.0 ∙ r.1) r.2)

-- a number among them is one of its thresholds
pub threshold_of : (n : ℕ) (ns : List ℕ) → has n ns ≡ true → list_any (is_at (int_cmp (pos n))) (thresholds_of ns) ≡ true
threshold_of n ns h = thresholds_have (pos n) ns ∙ ap (λ b. list_any (is_at (int_cmp (pos n))) (thresholds_of []) || b) (passes (is_threshold (pos n)) ns n h (own (is_eq (int_cmp (pos n) (neg_ℤ (pos n)))))) ∙ or-true (list_any (is_at (int_cmp (pos n))) (thresholds_of []))
  where
    equal : (r : Ordering) → r ≡ ordering_reverse r → is_eq r ≡ true
    equal Less e = absurd cc
    equal Equal e = refl
    equal Greater e = absurd cc

    itself : is_eq (int_cmp (pos n) (pos n)) ≡ true
    itself = equal (int_cmp (pos n) (pos n)) (int_cmp_total.antisymm (pos n) (pos n))

    own : (b : Bool) → (is_eq (int_cmp (pos n) (pos n)) || b) ≡ true
    own b = ap (λ c. c || b) itself

abbrev keyed : List ℤ → BTreeSet ℤ
keyed ks = record { keys = ks }

-- Thresholds depend on the set of numbers alone.
pub thresholds_by_set : (xs ys : List ℕ) → ((n : ℕ) → has n xs ≡ has n ys) → thresholds_of xs ≡ thresholds_of ys
thresholds_by_set xs ys h =
    btree_set_from_contains int_cmp_total (keyed (thresholds_of xs)) (keyed (thresholds_of ys)) (thresholds_sorted xs) (thresholds_sorted ys)
    (λ q. thresholds_have q xs ∙ ap (λ b. list_any (is_at (int_cmp q)) (thresholds_of []) || b) (any_same (is_threshold q) xs ys h) ∙ sym (thresholds_have q ys))
    exact_signed

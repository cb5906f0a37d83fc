-- Counts of numbers: one more, one less, and those of a statement.
use Rattle.std.proofs.lemmas.List.{take_all, drop_all}
use Rattle.std.proofs.Common.{◌≡◌, ℕ, ◌+◌, ◌-◌, ◌<◌, ◌≤◌, ◌==◌, ◌++◌, true, false, List, [], ◌∷◌, length, take, drop, get_or, Option, refl, sym, ap, ◌∙◌, subst, arith}
use Rattle.std.specs.Prelude.{if◌then◌else◌}
use Rattle.std.proofs.lemmas.Bool.Decides.{nat_tests}
use Rattle.std.specs.Ordering.{nat_cmp}
use Rattle.std.specs.declared.cmp.Ordering.TheVariants.{Less}
use Rattle.std.specs.List.{AllByRecursion}
use Rattle.std.specs.List.Sorted.{IsStrictlySortedBy}
use Rattle.std.specs.BTreeSet.{insert_key}
use Rattle.imp_chains.specs.Chains.{has}
use Rattle.imp_check.specs.declared.entry.Entry.{Entry}
use Rattle.call_contexts.specs.Literals.{literals_in}
use Rattle.call_contexts.specs.Differences.{lists_by}
use Rattle.call_contexts.specs.Tallies.{one_if, times, occurs, rising, or_none, Tells, capped}
use Rattle.call_contexts.proofs.TallyLemmas.{times_both, rising_sorted, rising_has}
use Rattle.base_values.proofs.Lists.{drop_item, take_item}
use Rattle.base_values.proofs.Cases.{by_test}

-- a number alone
pub has_alone : (ns : List ℕ) (n v : ℕ) → 1 ≤ length ns → length ns < 2 → n ≡ get_or ns 0 n → v ≡ n → (m : ℕ) → one_if (m == v) ≡ one_if (has m ns)
has_alone [] n v l h e s m = absurd (omega arith)
has_alone (k ∷ []) n v l h e s m = ap (λ j. one_if (m == j)) (s ∙ e) ∙ by_test m k (λ b. one_if b ≡ one_if (if b then true else false)) (λ i. refl) (λ i. refl)
has_alone (k ∷ j ∷ ns) n v l h e s m = absurd (omega arith)

-- from the last number on
pub rising_last : (ns : List ℕ) → rising (drop (length ns) ns) ≡ []
rising_last ns = ap rising (drop_all (length ns) ns (omega arith))

pub rising_more : (ns : List ℕ) (k i n : ℕ) → k ≡ i + 1 → i < length ns → n ≡ get_or ns i n → rising (drop i ns) ≡ insert_key nat_cmp (rising (drop k ns)) n
rising_more ns k i n e h g = ap rising (drop_item ns i n h g) ∙ ap (λ j. insert_key nat_cmp (rising (drop j ns)) n) (sym e)

-- Numbers that rise, one after the other.
occurs_both : (n : ℕ) (xs ys : List ℕ) → occurs n (xs ++ ys) ≡ occurs n xs + occurs n ys
occurs_both n [] ys = omega arith
occurs_both n (x ∷ xs) ys = omega (arith, occurs_both n xs ys)

pub occurs_step : (n : ℕ) (ks : List ℕ) (i k : ℕ) → i < length ks → k ≡ get_or ks i k → occurs n (take (i + 1) ks) ≡ occurs n (take i ks) + one_if (n == k)
occurs_step n ks i k h e = ap (occurs n) (take_item ks i k h e) ∙ occurs_both n (take i ks) (k ∷ []) ∙ omega arith

same_less : (k : ℕ) → nat_cmp k k ≡ Less → ⊥
same_less k e = absurd (grind (arith, nat_tests))

below_all : (k : ℕ) (ks : List ℕ) → AllByRecursion (λ m. nat_cmp k m ≡ Less) ks → has k ks ≡ false
below_all k [] a = refl
below_all k (m ∷ ks) a =
    by_test k m (λ b. (if b then true else has k ks) ≡ false)
    (λ e. absurd (same_less k (subst (λ j. nat_cmp k j ≡ Less) (sym e) a.0)))
    (λ e. below_all k ks a.1)

once : (n : ℕ) (ks : List ℕ) → IsStrictlySortedBy nat_cmp ks → occurs n ks ≡ one_if (has n ks)
unfolding IsStrictlySortedBy
once n [] s = refl
once n (k ∷ ks) s =
    by_test n k (λ b. one_if b + occurs n ks ≡ one_if (if b then true else has n ks))
    (λ e. let z : has n ks ≡ false = ap (λ m. has m ks) e ∙ below_all k ks s.0 in omega (arith, once n ks s.1, ap one_if z))
    (λ e. omega (arith, once n ks s.1))

pub occurs_once : (n : ℕ) (ns : List ℕ) → occurs n (rising ns) ≡ one_if (has n ns)
occurs_once n ns = once n (rising ns) (rising_sorted ns) ∙ ap one_if (rising_has n ns)

-- Entries tell what is the same.
pub retold : (es : List (ℕ × ℕ)) (f g : ℕ → ℕ) → ((n : ℕ) → f n ≡ g n) → Tells es f → Tells es g
retold es f g h t = record { sorted = t.sorted; at = λ n. t.at n ∙ ap or_none (h n) }

pub occurs_whole : (n : ℕ) (ks : List ℕ) (i : ℕ) → length ks ≤ i → occurs n (take i ks) ≡ occurs n ks
occurs_whole n ks i h = ap (occurs n) (take_all i ks h)

-- the numbers of a statement, each once
pub more_once : (es : List (ℕ × ℕ)) (f : ℕ → ℕ) (ks ns : List ℕ) → ks ≡ rising ns → Tells es (λ n. capped (f n + occurs n ks)) → Tells es (λ n. capped (f n + one_if (has n ns)))
more_once es f ks ns e = retold es (λ n. capped (f n + occurs n ks)) (λ n. capped (f n + one_if (has n ns))) (λ n. ap (λ m. capped (f n + m)) (ap (occurs n) e ∙ occurs_once n ns))

pub less_once : (es : List (ℕ × ℕ)) (f : ℕ → ℕ) (ks ns : List ℕ) → ks ≡ rising ns → Tells es (λ n. f n - occurs n ks) → Tells es (λ n. f n - one_if (has n ns))
less_once es f ks ns e = retold es (λ n. f n - occurs n ks) (λ n. f n - one_if (has n ns)) (λ n. ap (λ m. f n - m) (ap (occurs n) e ∙ occurs_once n ns))

-- a statement with one number
pub more_alone : (es : List (ℕ × ℕ)) (f : ℕ → ℕ) (v : ℕ) (ns : List ℕ) → ((n : ℕ) → one_if (n == v) ≡ one_if (has n ns)) → Tells es (λ n. capped (f n + one_if (n == v))) → Tells es (λ n. capped (f n + one_if (has n ns)))
more_alone es f v ns e = retold es (λ n. capped (f n + one_if (n == v))) (λ n. capped (f n + one_if (has n ns))) (λ n. ap (λ m. capped (f n + m)) (e n))

pub less_alone : (es : List (ℕ × ℕ)) (f : ℕ → ℕ) (v : ℕ) (ns : List ℕ) → ((n : ℕ) → one_if (n == v) ≡ one_if (has n ns)) → Tells es (λ n. f n - one_if (n == v)) → Tells es (λ n. f n - one_if (has n ns))
less_alone es f v ns e = retold es (λ n. f n - one_if (n == v)) (λ n. f n - one_if (has n ns)) (λ n. ap (λ m. f n - m) (e n))

pub occurs_first : (n : ℕ) (ks : List ℕ) → occurs n (take 0 ks) ≡ 0
occurs_first n [] = refl
occurs_first n (k ∷ ks) = refl

-- One more that is added, or taken, where g tells of those so far and h of those with it.
pub more_then : (es ds hs : List (ℕ × ℕ)) (g one h : ℕ → ℕ) → ((n : ℕ) → h n ≡ g n + one n)
    → ((f : ℕ → ℕ) → Tells es (λ n. capped (f n)) → Tells ds (λ n. capped (f n + g n)))
    → ((f : ℕ → ℕ) → Tells ds (λ n. capped (f n)) → Tells hs (λ n. capped (f n + one n)))
    → (f : ℕ → ℕ) → Tells es (λ n. capped (f n)) → Tells hs (λ n. capped (f n + h n))
more_then es ds hs g one h e before now f t =
    retold hs (λ n. capped ((f n + g n) + one n)) (λ n. capped (f n + h n))
    (λ n. ap capped (omega (arith, e n)))
    (now (λ n. f n + g n) (before f t))

pub less_then : (es ds hs : List (ℕ × ℕ)) (g one h : ℕ → ℕ) → ((n : ℕ) → h n ≡ g n + one n)
    → ((f : ℕ → ℕ) → Tells es f → Tells ds (λ n. f n - g n))
    → ((f : ℕ → ℕ) → Tells ds f → Tells hs (λ n. f n - one n))
    → (f : ℕ → ℕ) → Tells es f → Tells hs (λ n. f n - h n)
less_then es ds hs g one h e before now f t =
    retold hs (λ n. (f n - g n) - one n) (λ n. f n - h n)
    (λ n. omega (arith, e n))
    (now (λ n. f n - g n) (before f t))

-- none so far, and all
pub more_none : (es : List (ℕ × ℕ)) (g : ℕ → ℕ) → ((n : ℕ) → g n ≡ 0) → (f : ℕ → ℕ) → Tells es (λ n. capped (f n)) → Tells es (λ n. capped (f n + g n))
more_none es g e f = retold es (λ n. capped (f n)) (λ n. capped (f n + g n)) (λ n. ap capped (omega (arith, e n)))

pub less_none : (es : List (ℕ × ℕ)) (g : ℕ → ℕ) → ((n : ℕ) → g n ≡ 0) → (f : ℕ → ℕ) → Tells es f → Tells es (λ n. f n - g n)
less_none es g e f = retold es f (λ n. f n - g n) (λ n. omega (arith, e n))

pub more_all : (es ds : List (ℕ × ℕ)) (g h : ℕ → ℕ) → ((n : ℕ) → g n ≡ h n)
    → ((f : ℕ → ℕ) → Tells es (λ n. capped (f n)) → Tells ds (λ n. capped (f n + g n)))
    → (f : ℕ → ℕ) → Tells es (λ n. capped (f n)) → Tells ds (λ n. capped (f n + h n))
more_all es ds g h e so_far f t = retold ds (λ n. capped (f n + g n)) (λ n. capped (f n + h n)) (λ n. ap (λ m. capped (f n + m)) (e n)) (so_far f t)

pub less_all : (es ds : List (ℕ × ℕ)) (g h : ℕ → ℕ) → ((n : ℕ) → g n ≡ h n)
    → ((f : ℕ → ℕ) → Tells es f → Tells ds (λ n. f n - g n))
    → (f : ℕ → ℕ) → Tells es f → Tells ds (λ n. f n - h n)
less_all es ds g h e so_far f t = retold ds (λ n. f n - g n) (λ n. f n - h n) (λ n. ap (λ m. f n - m) (e n)) (so_far f t)

-- lists so far
pub times_step : (n : ℕ) (lists : List (List ℕ)) (i : ℕ) (ns : List ℕ) → i < length lists → ns ≡ get_or lists i ns → times n (take (i + 1) lists) ≡ times n (take i lists) + one_if (has n ns)
times_step n lists i ns h e = ap (times n) (take_item lists i ns h e) ∙ times_both n (take i lists) (ns ∷ []) ∙ omega arith

pub times_first : (n : ℕ) (lists : List (List ℕ)) → times n (take 0 lists) ≡ 0
times_first n [] = refl
times_first n (ns ∷ lists) = refl

pub times_whole : (n : ℕ) (lists : List (List ℕ)) (i : ℕ) → length lists ≤ i → times n (take i lists) ≡ times n lists
times_whole n lists i h = ap (times n) (take_all i lists h)

-- statements so far
by_both : (at : ℕ → Option Entry) (xs ys : List ℕ) → lists_by at (xs ++ ys) ≡ lists_by at xs ++ lists_by at ys
by_both at [] ys = refl
by_both at (x ∷ xs) ys = ap (λ zs. literals_in (at x) ∷ zs) (by_both at xs ys)

pub by_step : (at : ℕ → Option Entry) (n : ℕ) (ks : List ℕ) (i k : ℕ) → i < length ks → k ≡ get_or ks i k → times n (lists_by at (take (i + 1) ks)) ≡ times n (lists_by at (take i ks)) + one_if (has n (literals_in (at k)))
by_step at n ks i k h e =
    ap (λ zs. times n (lists_by at zs)) (take_item ks i k h e) ∙ ap (times n) (by_both at (take i ks) (k ∷ [])) ∙ times_both n (lists_by at (take i ks)) (lists_by at (k ∷ [])) ∙ omega arith

pub by_first : (at : ℕ → Option Entry) (n : ℕ) (ks : List ℕ) → times n (lists_by at (take 0 ks)) ≡ 0
by_first at n [] = refl
by_first at n (k ∷ ks) = refl

pub by_whole : (at : ℕ → Option Entry) (n : ℕ) (ks : List ℕ) (i : ℕ) → length ks ≤ i → times n (lists_by at (take i ks)) ≡ times n (lists_by at ks)
by_whole at n ks i h = ap (λ zs. times n (lists_by at zs)) (take_all i ks h)

-- Numbers that rise, with one more or one less.
use Rattle.std.proofs.Common.{◌≡◌, ℕ, zero, suc, ◌<◌, ◌≤◌, ◌==◌, ◌||◌, ◌&&◌, cond, not, Bool, true, false, List, [], ◌∷◌, length, get_or, slice_get, Some, MatchResult, Result, Ok, Err, IfOk, IfErr, inl, inr, refl, sym, ap, ◌∙◌, subst, arith}
use mathlib.Core.Bool.{false≢true}
use Rattle.std.specs.Prelude.{if◌then◌else◌}
use Rattle.std.proofs.lemmas.Bool.{cases_lt}
use Rattle.std.proofs.lemmas.Bool.Decides.{nat_tests}
use Rattle.std.proofs.lemmas.List.Kept.{IsStrictlySortedBy-filter}
use Rattle.std.proofs.lemmas.List.Sorted.{searched}
use Rattle.std.proofs.lemmas.Map.Keys.{non_decreasing_from_sorted, sorted_head, sorted_tail}
use Rattle.std.specs.BTreeSet.{insert_key}
use Rattle.std.specs.Cmp.{nat_cmp_total, nat_cmp_is}
use Rattle.std.specs.List.{AllByRecursion, filter, insert, remove}
use Rattle.std.specs.List.Sorted.{IsBinarySearchResult, IsStrictlySortedBy}
use Rattle.std.specs.Ordering.{match_ordering, nat_cmp}
use Rattle.std.specs.declared.cmp.Ordering.TheVariants.{Less, Greater}
use Rattle.imp_chains.specs.Chains.{has}
use Rattle.call_contexts.specs.Loops.{IsGap}
use Rattle.call_contexts.proofs.Sorted.{inserted_sorted, inserted_has}
use Rattle.call_contexts.proofs.TallyLemmas.{any_is, same_test}
use Rattle.base_values.proofs.Cases.{by_test}
use Rattle.std.proofs.lemmas.Option.{slice_get_within, same_Some}
use Rattle.std.proofs.Math.Bool.{and-false, and-true}

-- A number is among others where it has a place.
pub has_there : (ns : List ℕ) (i n : ℕ) → slice_get ns i ≡ Some n → has n ns ≡ true
has_there [] i n e = absurd cc
has_there (m ∷ ns) zero n e = by_test n m (λ b. (if b then true else has n ns) ≡ true) (λ q. refl) (λ q. absurd (q (sym (same_Some m n e))))
has_there (m ∷ ns) (suc i) n e = go (n == m) (has_there ns i n e)
  where
    go : (b : Bool) → has n ns ≡ true → (if b then true else has n ns) ≡ true
    go true h = refl
    go false h = h

pub there_has : (ns : List ℕ) (n : ℕ) → has n ns ≡ true → (i : ℕ) × (slice_get ns i ≡ Some n)
there_has [] n h = absurd cc
there_has (m ∷ ns) n h = (by_test n m (λ b. (if b then true else has n ns) ≡ true → (i : ℕ) × (slice_get (m ∷ ns) i ≡ Some n)) (λ e h. (0, ap Some (sym e))) (λ e h. let r = there_has ns n h in (suc r.0, r.1))) h

item_there : (ns : List ℕ) (i n : ℕ) → slice_get ns i ≡ Some n → get_or ns i 0 ≡ n
item_there [] i n e = absurd cc
item_there (m ∷ ns) zero n e = same_Some m n e
item_there (m ∷ ns) (suc i) n e = item_there ns i n e

-- A search by halves ends at the number, or at the gap for it.
there_item : (ns : List ℕ) (i n : ℕ) → i < length ns → get_or ns i 0 ≡ n → slice_get ns i ≡ Some n
there_item [] i n l e = absurd (omega arith)
there_item (m ∷ ns) zero n l e = ap Some e
there_item (m ∷ ns) (suc i) n l e = there_item ns i n (omega arith) e

pub record Place (ns : List ℕ) (n : ℕ) (r : Result ℕ ℕ) : Type 0 where
  pub found : IfOk r (λ i. slice_get ns i ≡ Some n)
  pub gap : IfErr r (IsGap ns n)

pub placed : (ns : List ℕ) (n : ℕ) (r : Result ℕ ℕ) → IsStrictlySortedBy nat_cmp ns → IsBinarySearchResult (λ m. nat_cmp m n) ns r → Place ns n r
placed ns n r s b = go r (searched ns n r b (λ i j a l. non_decreasing_from_sorted ns s i j 0 a l))
  where
    go : (r : Result ℕ ℕ) → MatchResult r (λ i. (i < length ns) × (get_or ns i 0 ≡ n)) (λ i. (i ≤ length ns) × ((k : ℕ) → k < i → get_or ns k 0 < n) × ((k : ℕ) → i ≤ k → k < length ns → n < get_or ns k 0)) → Place ns n r
    go (Ok i) m = record { found = there_item ns i n m.0 m.1; gap = tt }
    go (Err i) m = record { found = tt; gap = record { within = m.0; before = m.1; behind = m.2 } }

-- No number is there that has a gap.
pub none_at_gap : (ns : List ℕ) (n i : ℕ) → IsGap ns n i → has n ns ≡ false
none_at_gap ns n i g = go (has n ns) refl
  where
    apart : (k : ℕ) → slice_get ns k ≡ Some n → false ≡ true
    apart k e =
        let l = slice_get_within ns k n e in
        let q = item_there ns k n e in
        elim (cases_lt k i) [ inl a ↦ absurd (omega (arith, g.before k a)) | inr a ↦ absurd (omega (arith, g.behind k a l)) ]

    go : (b : Bool) → has n ns ≡ b → has n ns ≡ false
    go true h = let r = there_has ns n h in absurd (false≢true (apart r.0 r.1))
    go false h = h

-- A number that is put into its gap is inserted as into a set.
inserted : (ns : List ℕ) (n i : ℕ) → IsGap ns n i → insert ns i n ≡ insert_key nat_cmp ns n
inserted [] n zero g = refl
inserted [] n (suc i) g = absurd (omega (arith, g.within))
inserted (m ∷ ns) n zero g = ap (λ r. match_ordering r (n ∷ m ∷ ns) (m ∷ ns) (m ∷ insert_key nat_cmp ns n)) (nat_cmp_is n m Less (g.behind 0 (omega arith) (omega arith)))
inserted (m ∷ ns) n (suc i) g =
    ap (λ ks. m ∷ ks) (inserted ns n i rest)
    ∙ ap (λ r. match_ordering r (n ∷ m ∷ ns) (m ∷ ns) (m ∷ insert_key nat_cmp ns n)) (nat_cmp_is n m Greater (g.before 0 (omega arith)))
  where
    rest : IsGap ns n i
    rest = record {
      within = omega (arith, g.within);
      before = λ k l. g.before (suc k) (omega arith);
      behind = λ k a l. g.behind (suc k) (omega arith) (omega arith);
    }

pub inserted_rises : (ns : List ℕ) (n i : ℕ) → IsGap ns n i → IsStrictlySortedBy nat_cmp ns → IsStrictlySortedBy nat_cmp (insert ns i n)
inserted_rises ns n i g s = subst (IsStrictlySortedBy nat_cmp) (sym (inserted ns n i g)) (inserted_sorted nat_cmp_total n ns s)

pub has_inserted : (ns : List ℕ) (n i q : ℕ) → IsGap ns n i → has q (insert ns i n) ≡ ((q == n) || has q ns)
has_inserted ns n i q g =
    ap (has q) (inserted ns n i g)
    ∙ sym (any_is q (insert_key nat_cmp ns n))
    ∙ inserted_has nat_cmp_total q n ns
    ∙ (λ j. same_test q n j || any_is q ns j)

-- One that is there stays one of them.
pub has_again : (ns : List ℕ) (n i q : ℕ) → slice_get ns i ≡ Some n → has q ns ≡ ((q == n) || has q ns)
has_again ns n i q e = by_test q n (λ b. has q ns ≡ (b || has q ns)) (λ h. ap (λ m. has m ns) h ∙ has_there ns i n e) (λ h. refl)

-- A number that is taken from its place is filtered out.
others : (ns : List ℕ) (n : ℕ) → AllByRecursion (λ m. nat_cmp n m ≡ Less) ns → filter (λ m. not (m == n)) ns ≡ ns
others [] n a = refl
others (m ∷ ns) n a =
    by_test m n (λ b. cond (not b) (m ∷ filter (λ k. not (k == n)) ns) (filter (λ k. not (k == n)) ns) ≡ m ∷ ns)
    (λ e. let h = a.0 in absurd (grind (arith, nat_tests)))
    (λ e. ap (λ ks. m ∷ ks) (others ns n a.1))

removed : (ns : List ℕ) (n i : ℕ) → IsStrictlySortedBy nat_cmp ns → slice_get ns i ≡ Some n → remove ns i ≡ filter (λ m. not (m == n)) ns
removed [] n i s e = absurd cc
removed (m ∷ ns) n zero s e =
    let q = same_Some m n e in
    by_test m n (λ b. ns ≡ cond (not b) (m ∷ filter (λ k. not (k == n)) ns) (filter (λ k. not (k == n)) ns))
    (λ h. sym (others ns n (subst (λ k. AllByRecursion (λ j. nat_cmp k j ≡ Less) ns) q (sorted_head nat_cmp m ns s))))
    (λ h. absurd (h q))
removed (m ∷ ns) n (suc i) s e =
    by_test m n (λ b. m ∷ remove ns i ≡ cond (not b) (m ∷ filter (λ k. not (k == n)) ns) (filter (λ k. not (k == n)) ns))
    (λ h. absurd (above ns i (sorted_head nat_cmp m ns s) e h))
    (λ h. ap (λ ks. m ∷ ks) (removed ns n i (sorted_tail nat_cmp m ns s) e))
  where
    above : (ks : List ℕ) (j : ℕ) → AllByRecursion (λ k. nat_cmp m k ≡ Less) ks → slice_get ks j ≡ Some n → m ≡ n → ⊥
    above [] j a e h = cc
    above (k ∷ ks) zero a e h = let f = a.0 in let q = same_Some k n e in grind (arith, nat_tests)
    above (k ∷ ks) (suc j) a e h = above ks j a.1 e h

has_filtered : (p : ℕ → Bool) (ns : List ℕ) (q : ℕ) → has q (filter p ns) ≡ (has q ns && p q)
has_filtered p [] q = refl
has_filtered p (m ∷ ns) q = go (p m) refl (has_filtered p ns q)
  where
    go : (b : Bool) → p m ≡ b → has q (filter p ns) ≡ (has q ns && p q) → has q (cond b (m ∷ filter p ns) (filter p ns)) ≡ ((if q == m then true else has q ns) && p q)
    go true e h = by_test q m (λ b. (if b then true else has q (filter p ns)) ≡ ((if b then true else has q ns) && p q)) (λ i. sym e ∙ ap p (sym i)) (λ i. h)
    go false e h = by_test q m (λ b. has q (filter p ns) ≡ ((if b then true else has q ns) && p q)) (λ i. h ∙ ap (λ c. has q ns && c) (ap p i ∙ e) ∙ and-false (has q ns) ∙ sym (ap p i ∙ e)) (λ i. h)

pub removed_rises : (ns : List ℕ) (n i : ℕ) → slice_get ns i ≡ Some n → IsStrictlySortedBy nat_cmp ns → IsStrictlySortedBy nat_cmp (remove ns i)
removed_rises ns n i e s = subst (IsStrictlySortedBy nat_cmp) (sym (removed ns n i s e)) (IsStrictlySortedBy-filter nat_cmp (λ m. not (m == n)) ns s)

pub has_removed : (ns : List ℕ) (n i q : ℕ) → slice_get ns i ≡ Some n → IsStrictlySortedBy nat_cmp ns → has q (remove ns i) ≡ (has q ns && not (q == n))
has_removed ns n i q e s = ap (has q) (removed ns n i s e) ∙ has_filtered (λ m. not (m == n)) ns q

-- One that is not there is none of them.
pub has_still : (ns : List ℕ) (n i q : ℕ) → IsGap ns n i → has q ns ≡ (has q ns && not (q == n))
has_still ns n i q g = by_test q n (λ b. has q ns ≡ (has q ns && not b)) (λ h. let e : has q ns ≡ false = ap (λ m. has m ns) h ∙ none_at_gap ns n i g in e ∙ sym (ap (λ b. b && false) e)) (λ h. sym (and-true (has q ns)))

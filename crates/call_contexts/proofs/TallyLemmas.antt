-- Tallies, and what one more number or one less makes of them.
use Rattle.std.proofs.Common.{◌≡◌, ℕ, zero, suc, ◌+◌, ◌==◌, ◌||◌, ◌++◌, cond, Bool, true, false, List, [], ◌∷◌, map, Some, None, refl, sym, ap, ◌∙◌, subst, arith, zero-add}
use Rattle.std.specs.Prelude.{if◌then◌else◌}
use Rattle.std.proofs.lemmas.Bool.Decides.{nat_tests}
use Rattle.std.specs.Cmp.{nat_cmp_total}
use Rattle.std.specs.Ordering.{is_eq, nat_cmp}
use Rattle.std.specs.List.{list_any}
use Rattle.std.specs.List.Sorted.{IsStrictlySortedBy}
use Rattle.std.specs.Map.{keys_of, lookup}
use Rattle.std.specs.BTreeMap.{is_at}
use Rattle.std.proofs.Math.Nat.{suc-add}
use Rattle.imp_slots.specs.Plain.{Code, Stop, Simple, If, While, Call, Break}
use Rattle.imp_chains.specs.Chains.{has}
use Rattle.imp_chains.specs.Thresholds.{effect_literals, guard_literals, argument_literals, literals, thresholds_of}
use Rattle.call_contexts.specs.Tallies.{literal_lists, one_if, times, rising, tally, or_none, Tells}
use Rattle.call_contexts.proofs.Numbered.{has_both}
use Rattle.call_contexts.proofs.Sorted.{inserted_sorted, inserted_has}
use Rattle.call_contexts.proofs.ThresholdSets.{thresholds_by_set}
use Rattle.call_contexts.proofs.SameEntries.{same_entries}
use Rattle.base_values.proofs.Cases.{by_test}

-- numbers are compared as they are tested
pub same_test : (n m : ℕ) → is_eq (nat_cmp n m) ≡ (n == m)
same_test n m = grind (arith, nat_tests)

pub any_is : (n : ℕ) (ns : List ℕ) → list_any (is_at (nat_cmp n)) ns ≡ has n ns
any_is n [] = refl
any_is n (m ∷ ns) = ap (λ b. b || list_any (is_at (nat_cmp n)) ns) (same_test n m) ∙ go (n == m) (any_is n ns)
  where
    go : (b : Bool) → list_any (is_at (nat_cmp n)) ns ≡ has n ns → (b || list_any (is_at (nat_cmp n)) ns) ≡ (if b then true else has n ns)
    go true h = refl
    go false h = h

-- The numbers once each.
pub rising_sorted : (ns : List ℕ) → IsStrictlySortedBy nat_cmp (rising ns)
unfolding IsStrictlySortedBy
rising_sorted [] = tt
rising_sorted (n ∷ ns) = inserted_sorted nat_cmp_total n (rising ns) (rising_sorted ns)

rising_any : (n : ℕ) (ns : List ℕ) → list_any (is_at (nat_cmp n)) (rising ns) ≡ list_any (is_at (nat_cmp n)) ns
rising_any n [] = refl
rising_any n (m ∷ ns) = inserted_has nat_cmp_total n m (rising ns) ∙ ap (λ b. is_eq (nat_cmp n m) || b) (rising_any n ns)

pub rising_has : (n : ℕ) (ns : List ℕ) → has n (rising ns) ≡ has n ns
rising_has n ns = sym (any_is n (rising ns)) ∙ rising_any n ns ∙ any_is n ns

-- What stands in some lists.
pub times_both : (n : ℕ) (xs ys : List (List ℕ)) → times n (xs ++ ys) ≡ times n xs + times n ys
times_both n [] ys = omega arith
times_both n (x ∷ xs) ys = omega (arith, times_both n xs ys)

-- whether a number stands in one of them
abbrev any_times : ℕ → Bool
any_times zero = false
any_times (suc n) = true

times_joined : (a b : ℕ) → any_times (a + b) ≡ (any_times a || any_times b)
times_joined zero b = ap any_times (zero-add b)
times_joined (suc a) b = ap any_times (suc-add a b)

one_times : (b : Bool) → any_times (one_if b) ≡ b
one_times true = refl
one_times false = refl

module _ (n : ℕ) where
  one_more : (ns ms : List ℕ) (lists : List (List ℕ)) → any_times (times n lists) ≡ has n ms → any_times (one_if (has n ns) + times n lists) ≡ has n (ns ++ ms)
  one_more ns ms lists h = times_joined (one_if (has n ns)) (times n lists) ∙ (λ i. one_times (has n ns) i || h i) ∙ sym (has_both n ns ms)

  both_more : (xs ys : List (List ℕ)) (ns ms : List ℕ) → any_times (times n xs) ≡ has n ns → any_times (times n ys) ≡ has n ms → any_times (times n (xs ++ ys)) ≡ has n (ns ++ ms)
  both_more xs ys ns ms h k = ap any_times (times_both n xs ys) ∙ times_joined (times n xs) (times n ys) ∙ (λ i. h i || k i) ∙ sym (has_both n ns ms)

  pub stands : (c : Code) → any_times (times n (literal_lists c)) ≡ has n (literals c)
  stands Stop = refl
  stands (Simple m e r) = one_more (effect_literals e) (literals r) (literal_lists r) (stands r)
  stands (If m g t e r) =
      one_more (guard_literals g) (literals t ++ (literals e ++ literals r)) (literal_lists t ++ (literal_lists e ++ literal_lists r))
      (both_more (literal_lists t) (literal_lists e ++ literal_lists r) (literals t) (literals e ++ literals r) (stands t)
      (both_more (literal_lists e) (literal_lists r) (literals e) (literals r) (stands e) (stands r)))
  stands (While m g b r) =
      one_more (guard_literals g) (literals b ++ literals r) (literal_lists b ++ literal_lists r)
      (both_more (literal_lists b) (literal_lists r) (literals b) (literals r) (stands b) (stands r))
  stands (Call m i q r) = one_more (argument_literals i.entering.arguments) (literals r) (literal_lists r) (stands r)
  stands (Break m r) = one_more [] (literals r) (literal_lists r) (stands r)

-- The tally of a block says how often each of its numbers stands in it.
keys_are : (f : ℕ → ℕ) (ks : List ℕ) → keys_of (map (λ n. (n, f n)) ks) ≡ ks
keys_are f [] = refl
keys_are f (k ∷ ks) = ap (λ ns. k ∷ ns) (keys_are f ks)

pub tally_keys : (c : Code) → keys_of (tally c) ≡ rising (literals c)
tally_keys c = keys_are (λ n. times n (literal_lists c)) (rising (literals c))

looked : (f : ℕ → ℕ) (n : ℕ) (ks : List ℕ) → lookup (is_at (nat_cmp n)) (map (λ n. (n, f n)) ks) ≡ cond (has n ks) (Some (f n)) None
looked f n [] = refl
looked f n (k ∷ ks) =
    ap (λ b. cond b (Some (f k)) (lookup (is_at (nat_cmp n)) (map (λ n. (n, f n)) ks))) (same_test n k)
    ∙ by_test n k (λ b. cond b (Some (f k)) (lookup (is_at (nat_cmp n)) (map (λ n. (n, f n)) ks)) ≡ cond (if b then true else has n ks) (Some (f n)) None)
    (λ e. ap (λ m. Some (f m)) (sym e)) (λ e. looked f n ks)

or_some : (b : Bool) (m : ℕ) → any_times m ≡ b → cond b (Some m) None ≡ or_none m
or_some true zero h = absurd cc
or_some true (suc m) h = refl
or_some false zero h = refl
or_some false (suc m) h = absurd cc

pub tally_tells : (c : Code) → Tells (tally c) (λ n. times n (literal_lists c))
tally_tells c = record {
  sorted = subst (IsStrictlySortedBy nat_cmp) (sym (keys_are (λ n. times n (literal_lists c)) (rising (literals c)))) (rising_sorted (literals c));
  at = λ n. looked (λ n. times n (literal_lists c)) n (rising (literals c)) ∙ or_some (has n (rising (literals c))) (times n (literal_lists c)) (stands n c ∙ sym (rising_has n (literals c)));
}

-- Entries that say the same are the same.
pub told_once : (es ds : List (ℕ × ℕ)) (f g : ℕ → ℕ) → Tells es f → Tells ds g → ((n : ℕ) → f n ≡ g n) → es ≡ ds
told_once es ds f g t u h = same_entries es ds t.sorted u.sorted (λ n. t.at n ∙ ap or_none (h n) ∙ sym (u.at n))

-- Blocks whose tallies have the same numbers have the same thresholds.
pub same_thresholds : (c d : Code) → keys_of (tally c) ≡ keys_of (tally d) → thresholds_of (literals c) ≡ thresholds_of (literals d)
same_thresholds c d h =
    let ks : rising (literals c) ≡ rising (literals d) = sym (keys_are (λ n. times n (literal_lists c)) (rising (literals c))) ∙ h ∙ keys_are (λ n. times n (literal_lists d)) (rising (literals d)) in
    thresholds_by_set (literals c) (literals d) (λ n. sym (rising_has n (literals c)) ∙ ap (has n) ks ∙ rising_has n (literals d))

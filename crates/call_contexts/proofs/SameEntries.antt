-- Entries in the order of their keys in which look-ups find the same are the same.
use Rattle.std.proofs.Common.{◌≡◌, ℕ, Bool, true, false, List, [], ◌∷◌, Option, Some, None, refl, sym, ap, ◌∙◌}
use Rattle.std.specs.Cmp.{nat_cmp_total, tied_itself, eq_by_cmp_equiv}
use Rattle.std.specs.Ordering.{is_eq, nat_cmp, ordering_reverse}
use Rattle.std.specs.declared.cmp.Ordering.{Ordering}
use Rattle.std.specs.declared.cmp.Ordering.TheVariants.{Less, Equal, Greater}
use Rattle.std.specs.List.Sorted.{IsStrictlySortedBy}
use Rattle.std.specs.Map.{keys_of, lookup}
use Rattle.std.specs.BTreeMap.{is_at}
use Rattle.std.proofs.lemmas.Map.{lookup-none}
use Rattle.std.proofs.lemmas.Map.Keys.{sorted_tail, IsDistinct-from_sorted}
use Rattle.std.proofs.lemmas.Map.Entries.{lookup_head, lookup_tail, none_past_head, none_below_head}
use Rattle.std.proofs.lemmas.Map.Lookups.{exact_unsigned}
use Rattle.std.proofs.lemmas.Option.{same_Some}

abbrev find : List (ℕ × ℕ) → ℕ → Option ℕ
find es n = lookup (is_at (nat_cmp n)) es

at_head : (x : ℕ × ℕ) (xs : List (ℕ × ℕ)) → find (x ∷ xs) x.0 ≡ Some x.1
at_head x xs = lookup_head (is_at (nat_cmp x.0)) x xs (ap is_eq (tied_itself nat_cmp_total x.0))

past_head : (n : ℕ) (x : ℕ × ℕ) (xs : List (ℕ × ℕ)) → IsStrictlySortedBy nat_cmp (keys_of (x ∷ xs)) → is_eq (nat_cmp n x.0) ≡ true → find xs n ≡ None
past_head n x xs s t = lookup-none (is_at (nat_cmp n)) xs (none_past_head (eq_by_cmp_equiv nat_cmp_total) n x xs (IsDistinct-from_sorted nat_cmp (keys_of (x ∷ xs)) s) t)

module _ (x y : ℕ × ℕ) (xs ys : List (ℕ × ℕ)) (s : IsStrictlySortedBy nat_cmp (keys_of (x ∷ xs))) (t : IsStrictlySortedBy nat_cmp (keys_of (y ∷ ys))) (h : (n : ℕ) → find (x ∷ xs) n ≡ find (y ∷ ys) n) where
  by_heads : (r : Ordering) → nat_cmp x.0 y.0 ≡ r → nat_cmp x.0 y.0 ≡ Equal
  by_heads Less p = let e : Some x.1 ≡ None = sym (at_head x xs) ∙ h x.0 ∙ lookup-none (is_at (nat_cmp x.0)) (y ∷ ys) (none_below_head nat_cmp_total x.0 y ys t p) in absurd cc
  by_heads Equal p = p
  by_heads Greater p =
      let e : Some y.1 ≡ None = sym (at_head y ys) ∙ sym (h y.0) ∙ lookup-none (is_at (nat_cmp y.0)) (x ∷ xs) (none_below_head nat_cmp_total y.0 x xs s (nat_cmp_total.antisymm y.0 x.0 ∙ ap ordering_reverse p)) in
      absurd cc

  heads : x.0 ≡ y.0
  heads = exact_unsigned x.0 y.0 (by_heads (nat_cmp x.0 y.0) refl)

  values : x.1 ≡ y.1
  values = same_Some x.1 y.1 (sym (at_head x xs) ∙ h x.0 ∙ ap (find (y ∷ ys)) heads ∙ at_head y ys)

  tails : (n : ℕ) → find xs n ≡ find ys n
  tails n = go (is_eq (nat_cmp n x.0)) refl
    where
      go : (b : Bool) → is_eq (nat_cmp n x.0) ≡ b → find xs n ≡ find ys n
      go true e = past_head n x xs s e ∙ sym (past_head n y ys t (ap (λ k. is_eq (nat_cmp n k)) (sym heads) ∙ e))
      go false e = sym (lookup_tail (is_at (nat_cmp n)) x xs e) ∙ h n ∙ lookup_tail (is_at (nat_cmp n)) y ys (ap (λ k. is_eq (nat_cmp n k)) (sym heads) ∙ e)

pub same_entries : (es ds : List (ℕ × ℕ)) → IsStrictlySortedBy nat_cmp (keys_of es) → IsStrictlySortedBy nat_cmp (keys_of ds) → ((n : ℕ) → find es n ≡ find ds n) → es ≡ ds
same_entries [] [] s t h = refl
same_entries [] (y ∷ ys) s t h = let e : None ≡ Some y.1 = h y.0 ∙ at_head y ys in absurd cc
same_entries (x ∷ xs) [] s t h = let e : Some x.1 ≡ None = sym (at_head x xs) ∙ h x.0 in absurd cc
same_entries (x ∷ xs) (y ∷ ys) s t h =
    let r = same_entries xs ys (sorted_tail nat_cmp x.0 (keys_of xs) s) (sorted_tail nat_cmp y.0 (keys_of ys) t) (tails x y xs ys s t h) in
    λ i. (heads x y xs ys s t h i, values x y xs ys s t h i) ∷ r i

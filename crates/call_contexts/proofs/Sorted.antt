-- Keys in order, each once, with one more in its place.
use Rattle.std.proofs.Common.{◌≡◌, ◌||◌, Bool, true, false, List, [], ◌∷◌, refl, sym, ap, ◌∙◌}
use Rattle.std.specs.Cmp.{IsTotalOrder}
use Rattle.std.specs.Ordering.{is_eq, match_ordering, ordering_reverse}
use Rattle.std.specs.declared.cmp.Ordering.{Ordering}
use Rattle.std.specs.declared.cmp.Ordering.TheVariants.{Less, Equal, Greater}
use Rattle.std.specs.List.{AllByRecursion, list_any}
use Rattle.std.specs.List.Sorted.{IsStrictlySortedBy}
use Rattle.std.specs.BTreeMap.{is_at}
use Rattle.std.specs.BTreeSet.{insert_key}

module _ {K : Type 0} {R : K → K → Ordering} (o : IsTotalOrder R) where
  all_inserted : (P : K → Type 0) (k : K) (xs : List K) → P k → AllByRecursion P xs → AllByRecursion P (insert_key R xs k)
  all_inserted P k [] p a = (p, tt)
  all_inserted P k (x ∷ xs) p a = by (R k x) (all_inserted P k xs p a.1)
    where
      by : (r : Ordering) → AllByRecursion P (insert_key R xs k) → AllByRecursion P (match_ordering r (k ∷ x ∷ xs) (x ∷ xs) (x ∷ insert_key R xs k))
      by Less h = (p, a)
      by Equal h = a
      by Greater h = (a.0, h)

  all_above : (k x : K) (xs : List K) → R k x ≡ Less → AllByRecursion (λ y. R x y ≡ Less) xs → AllByRecursion (λ y. R k y ≡ Less) xs
  all_above k x [] l a = tt
  all_above k x (y ∷ xs) l a = (o.trans k x y l a.0, all_above k x xs l a.1)

  pub inserted_sorted : (k : K) (xs : List K) → IsStrictlySortedBy R xs → IsStrictlySortedBy R (insert_key R xs k)
  unfolding IsStrictlySortedBy
  inserted_sorted k [] s = (tt, tt)
  inserted_sorted k (x ∷ xs) s = by (R k x) refl (inserted_sorted k xs s.1)
    where
      by : (r : Ordering) → R k x ≡ r → IsStrictlySortedBy R (insert_key R xs k) → IsStrictlySortedBy R (match_ordering r (k ∷ x ∷ xs) (x ∷ xs) (x ∷ insert_key R xs k))
      by Less e h = ((e, all_above k x xs e s.0), s)
      by Equal e h = s
      by Greater e h = (all_inserted (λ y. R x y ≡ Less) k xs (o.antisymm x k ∙ ap ordering_reverse e) s.0, h)

  twice : (a b : Bool) → (a || b) ≡ (a || (a || b))
  twice true b = refl
  twice false b = refl

  turned : (a b c : Bool) → (a || (b || c)) ≡ (b || (a || c))
  turned true true c = refl
  turned true false c = refl
  turned false b c = refl

  pub inserted_has : (q k : K) (xs : List K) → list_any (is_at (R q)) (insert_key R xs k) ≡ (is_eq (R q k) || list_any (is_at (R q)) xs)
  inserted_has q k [] = refl
  inserted_has q k (x ∷ xs) = by (R k x) refl (inserted_has q k xs)
    where
      by : (r : Ordering) → R k x ≡ r → list_any (is_at (R q)) (insert_key R xs k) ≡ (is_eq (R q k) || list_any (is_at (R q)) xs) → list_any (is_at (R q)) (match_ordering r (k ∷ x ∷ xs) (x ∷ xs) (x ∷ insert_key R xs k)) ≡ (is_eq (R q k) || (is_eq (R q x) || list_any (is_at (R q)) xs))
      by Less e h = refl
      by Equal e h =
          let s : R q x ≡ R q k = o.antisymm q x ∙ ap ordering_reverse (sym (o.congr k x q e)) ∙ sym (o.antisymm q k) in
          twice (is_eq (R q x)) (list_any (is_at (R q)) xs) ∙ ap (λ r. is_eq r || (is_eq (R q x) || list_any (is_at (R q)) xs)) s
      by Greater e h = ap (λ b. is_eq (R q x) || b) h ∙ turned (is_eq (R q x)) (is_eq (R q k)) (list_any (is_at (R q)) xs)

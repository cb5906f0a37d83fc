-- Items of lists.
use Rattle.std.proofs.Common.{◌≡◌, ℕ, zero, suc, ◌<◌, ◌⊎◌, List, [], ◌∷◌, ◌++◌, take, Some, slice_get, Bool, true, false, ◌||◌, nat_eq, refl, sym, ap, ◌∙◌, inl, inr, arith}
use Rattle.std.specs.List.{list_any}
use Rattle.std.proofs.lemmas.Bool.Decides.{nat_tests}
use Rattle.base_values.proofs.Cases.{by_bool, equal_test}
use Rattle.daig_graph.specs.Held.{IsIn}
use Rattle.std.proofs.lemmas.Bool.{or_cases}
use Rattle.std.proofs.lemmas.Option.{same_Some}
use Rattle.base_values.proofs.Lists.{get_front}

module _ {A : Type 0} where
  pub in_none : {P : Type 0} (x : A) → IsIn [] x → P
  in_none x m = absurd (let e = m.1 in cc)

  pub in_first : (x : A) (xs : List A) → IsIn (x ∷ xs) x
  in_first x xs = (0, refl)

  pub in_more : (x y : A) (xs : List A) → IsIn xs x → IsIn (y ∷ xs) x
  in_more x y xs m = (suc m.0, m.1)

  pub in_cases : (x y : A) (xs : List A) → IsIn (y ∷ xs) x → (y ≡ x) ⊎ IsIn xs x
  in_cases x y xs m = go m.0 m.1
    where
      go : (n : ℕ) → slice_get (y ∷ xs) n ≡ Some x → (y ≡ x) ⊎ IsIn xs x
      go zero e = inl (same_Some y x e)
      go (suc n) e = inr (n, e)

  pub in_left : (x : A) (xs ys : List A) → IsIn xs x → IsIn (xs ++ ys) x
  in_left x xs ys m = (m.0, get_front xs ys m.0 x m.1)

  pub in_right : (x : A) (xs ys : List A) → IsIn ys x → IsIn (xs ++ ys) x
  in_right x [] ys m = m
  in_right x (y ∷ xs) ys m = in_more x y (xs ++ ys) (in_right x xs ys m)

  pub in_either : (x : A) (xs ys : List A) → IsIn (xs ++ ys) x → IsIn xs x ⊎ IsIn ys x
  in_either x [] ys m = inr m
  in_either x (y ∷ xs) ys m =
      elim (in_cases x y (xs ++ ys) m) [
        | inl e ↦ inl (0, ap Some e)
        | inr k ↦ elim (in_either x xs ys k) [ inl l ↦ inl (in_more x y xs l) | inr r ↦ inr r ]
      ]

  pub in_last : (x : A) (xs : List A) → IsIn (xs ++ x ∷ []) x
  in_last x xs = in_right x xs (x ∷ []) (in_first x [])

  pub in_pushed : (x y : A) (xs : List A) → IsIn (xs ++ y ∷ []) x → IsIn xs x ⊎ (y ≡ x)
  in_pushed x y xs m =
      elim (in_either x xs (y ∷ []) m) [
        | inl l ↦ inl l
        | inr r ↦ elim (in_cases x y [] r) [ inl e ↦ inr e | inr n ↦ in_none x n ]
      ]

  -- what stands before a place
  pub in_take : (xs : List A) (i j : ℕ) (x : A) → j < i → slice_get xs j ≡ Some x → IsIn (take i xs) x
  in_take [] i j x h e = absurd cc
  in_take (y ∷ xs) zero j x h e = absurd (omega arith)
  in_take (y ∷ xs) (suc i) zero x h e = (0, e)
  in_take (y ∷ xs) (suc i) (suc j) x h e = in_more x y (take i xs) (in_take xs i j x (omega arith) e)

  pub taken : (xs : List A) (i : ℕ) (x : A) → IsIn (take i xs) x → (j : ℕ) × (j < i) × (slice_get xs j ≡ Some x)
  taken xs zero x m = in_none x m
  taken [] (suc i) x m = in_none x m
  taken (y ∷ xs) (suc i) x m =
      elim (in_cases x y (take i xs) m) [
        | inl e ↦ (0, omega arith, ap Some e)
        | inr k ↦ (let t = taken xs i x k in let lt : t.0 < i = t.1 in (suc t.0, omega arith, t.2))
      ]

-- tests for numbers
pub in_any : (n : ℕ) (xs : List ℕ) → list_any (nat_eq n) xs ≡ true → IsIn xs n
in_any n [] h = absurd cc
in_any n (x ∷ xs) h =
    elim (or_cases (nat_eq n x) (list_any (nat_eq n) xs) h) [
      | inl e ↦ (0, ap Some (let q : n ≡ x = grind (arith, nat_tests) in sym q))
      | inr k ↦ in_more n x xs (in_any n xs k)
    ]

pub not_any : (n : ℕ) (xs : List ℕ) → list_any (nat_eq n) xs ≡ false → IsIn xs n → ⊥
not_any n [] h m = in_none n m
not_any n (x ∷ xs) h m = go (not_any n xs) (nat_eq n x) refl h (in_cases n x xs m)
  where
    go : (list_any (nat_eq n) xs ≡ false → IsIn xs n → ⊥) → (b : Bool) → nat_eq n x ≡ b → (b || list_any (nat_eq n) xs) ≡ false → (x ≡ n) ⊎ IsIn xs n → ⊥
    go rest true e k c = cc
    go rest false e k (inl q) =
        let t : nat_eq n x ≡ true = equal_test n x (sym q) in
        let u : true ≡ false = sym t ∙ e in
        cc
    go rest false e k (inr r) = rest k r

pub in_or_not : (n : ℕ) (xs : List ℕ) → IsIn xs n ⊎ (IsIn xs n → ⊥)
in_or_not n xs = by_bool (list_any (nat_eq n) xs) (λ e. inl (in_any n xs e)) (λ e. inr (not_any n xs e))

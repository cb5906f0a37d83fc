-- A list of different items is not longer than one that has them all.
use Rattle.std.proofs.Common.{◌≡◌, ℕ, suc, ◌≤◌, List, [], ◌∷◌, ◌++◌, length, Option, Some, None, IsSome, is_some, true, refl, sym, ap, subst, ◌∙◌, inl, inr, arith}
use Rattle.std.specs.FinMap.{get, len, keys, entries, contains_key-keys, len-entries}
use Rattle.std.specs.List.{list_any}
use Rattle.std.specs.Ordering.{nat_cmp, eq_by_cmp}
use Rattle.std.specs.Cmp.{unsigned_tied}
use Rattle.std.proofs.lemmas.Bool.Decides.{nat_tests}
use Rattle.std.proofs.Common.{nat_eq}
use Rattle.std.proofs.lemmas.List.{length-map}
use Rattle.daig_graph.specs.Held.{IsIn, IsOnce}
use Rattle.cell_removal.specs.Removal.{Cells}
use Rattle.cell_removal.proofs.Ins.{in_none, in_first, in_more, in_cases, in_either, in_left, in_right}
use Rattle.std.proofs.lemmas.Bool.{or_cases}

module _ {A : Type 0} where
  -- no item stands twice
  abbrev pub Differ : List A → Type 0
  Differ [] = Unit {0}
  Differ (x ∷ xs) = (IsIn xs x → ⊥) × Differ xs

  pub differ_both : (xs ys : List A) → Differ xs → Differ ys → ((x : A) → IsIn xs x → IsIn ys x → ⊥) → Differ (xs ++ ys)
  differ_both [] ys d e n = e
  differ_both (x ∷ xs) ys d e n = (
    λ m. elim (in_either x xs ys m) [ inl l ↦ d.0 l | inr r ↦ n x (in_first x xs) r ],
    differ_both xs ys d.1 e (λ y m k. n y (in_more y x xs m) k),
  )

  rest_once : (x : A) (xs : List A) → IsOnce (x ∷ xs) → IsOnce xs
  rest_once x xs once m n y e k = let h : suc m ≡ suc n = once (suc m) (suc n) y e k in omega arith

  pub differ_once : (xs : List A) → IsOnce xs → Differ xs
  differ_once [] once = tt
  differ_once (x ∷ xs) once = (λ m. (let h : 0 ≡ suc m.0 = once 0 (suc m.0) x refl m.1 in omega arith), differ_once xs (rest_once x xs once))

  -- a list around an item
  split : (x : A) (ys : List A) → IsIn ys x → (us : List A) × (vs : List A) × (ys ≡ us ++ x ∷ vs)
  split x [] m = in_none x m
  split x (y ∷ ys) m =
      elim (in_cases x y ys m) [
        | inl e ↦ ([], ys, ap (λ z. z ∷ ys) e)
        | inr k ↦ (let s = split x ys k in (y ∷ s.0, s.1, ap (λ zs. y ∷ zs) s.2))
      ]

  other : (x y : A) (us vs : List A) → (x ≡ y → ⊥) → IsIn (us ++ x ∷ vs) y → IsIn (us ++ vs) y
  other x y us vs n m =
      elim (in_either y us (x ∷ vs) m) [
        | inl l ↦ in_left y us vs l
        | inr r ↦ elim (in_cases y x vs r) [ inl e ↦ absurd (n e) | inr k ↦ in_right y us vs k ]
      ]

  longer : (x : A) (us vs : List A) → length (us ++ x ∷ vs) ≡ suc (length (us ++ vs))
  longer x [] vs = refl
  longer x (u ∷ us) vs = ap suc (longer x us vs)

  pub as_long : (xs ys : List A) → Differ xs → ((x : A) → IsIn xs x → IsIn ys x) → length xs ≤ length ys
  as_long [] ys d h = omega arith
  as_long (x ∷ xs) ys d h =
      let s = split x ys (h x (in_first x xs)) in
      let more : (y : A) → IsIn xs y → IsIn (s.0 ++ s.1) y = λ y m. other x y s.0 s.1 (λ e. d.0 (subst (IsIn xs) (sym e) m)) (subst (λ zs. IsIn zs y) s.2 (h y (in_more y x xs m))) in
      let l : length xs ≤ length (s.0 ++ s.1) = as_long xs (s.0 ++ s.1) d.1 more in
      let k : length ys ≡ suc (length (s.0 ++ s.1)) = ap length s.2 ∙ longer x s.0 s.1 in
      omega arith

-- the numbers of cells
number_there : (n : ℕ) (ks : List ℕ) → list_any (eq_by_cmp nat_cmp n) ks ≡ true → IsIn ks n
number_there n [] h = absurd cc
number_there n (k ∷ ks) h =
    elim (or_cases (eq_by_cmp nat_cmp n k) (list_any (eq_by_cmp nat_cmp n) ks) h) [
      | inl e ↦ (let t : nat_eq n k ≡ true = sym (unsigned_tied n k) ∙ e in let q : n ≡ k = grind (arith, nat_tests) in (0, ap Some (sym q)))
      | inr r ↦ in_more n k ks (number_there n ks r)
    ]

is_true : {A : Type 0} (o : Option A) → IsSome o → is_some o ≡ true
is_true None h = absurd cc
is_true (Some a) h = refl

pub no_more_than : {V : Type 0} (cells : Cells V) (xs : List ℕ) → Differ xs → ((x : ℕ) → IsIn xs x → IsSome (get cells x)) → length xs ≤ len cells
no_more_than cells xs d h =
    let l : length xs ≤ length (keys cells) = as_long xs (keys cells) d (λ x m. number_there x (keys cells) (sym (contains_key-keys cells x) ∙ is_true (get cells x) (h x m))) in
    let k : length (keys cells) ≡ length (entries cells) = length-map (entries cells) _ in
    let n : len cells ≡ length (entries cells) = len-entries cells in
    omega arith

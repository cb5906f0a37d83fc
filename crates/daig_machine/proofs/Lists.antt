-- Lists of names, each once.
use Rattle.std.proofs.Common.{◌≡◌, ℕ, zero, suc, Bool, true, false, ◌||◌, ◌⊎◌, List, [], ◌∷◌, ◌++◌, take, filter, if◌then◌else◌, refl, sym, subst, inl, inr}
use Rattle.std.proofs.lemmas.Bool.{or_left, or_right, false_from_ne_true, or_cases}
use Rattle.daig_order.specs.Order.{member}
use Rattle.daig_order.specs.OrderLaws.{IsDistinct}

module _ {T : Type 0} (same : T → T → Bool) where
  -- the first of them
  pub take_member : (n : ℕ) (xs : List T) (x : T) → member same (take n xs) x ≡ true → member same xs x ≡ true
  take_member zero xs x m = absurd cc
  take_member (suc n) [] x m = absurd cc
  take_member (suc n) (y ∷ ys) x m =
      elim (or_cases (same x y) (member same (take n ys) x) m) [
        | inl e ↦ or_left (same x y) (member same ys x) e
        | inr k ↦ or_right (same x y) (member same ys x) (take_member n ys x k)
      ]

  not_first : (n : ℕ) (xs : List T) (x : T) → member same xs x ≡ false → member same (take n xs) x ≡ false
  not_first n xs x h = false_from_ne_true (member same (take n xs) x) (λ m. let k = take_member n xs x m in cc)

  pub take_distinct : (n : ℕ) (xs : List T) → IsDistinct same xs → IsDistinct same (take n xs)
  take_distinct zero xs d = tt
  take_distinct (suc n) [] d = tt
  take_distinct (suc n) (x ∷ xs) d = (not_first n xs x d.0, take_distinct n xs d.1)

  -- those for which a test holds
  pub filter_member : (f : T → Bool) (xs : List T) (x : T) → member same (filter f xs) x ≡ true → member same xs x ≡ true
  filter_member f [] x m = absurd cc
  filter_member f (y ∷ ys) x m = go (filter_member f ys x) (f y) refl m
    where
      go : (member same (filter f ys) x ≡ true → member same ys x ≡ true) → (b : Bool) → f y ≡ b → member same (if b then y ∷ filter f ys else filter f ys) x ≡ true → (same x y || member same ys x) ≡ true
      go rest true e k =
          elim (or_cases (same x y) (member same (filter f ys) x) k) [
            | inl h ↦ or_left (same x y) (member same ys x) h
            | inr h ↦ or_right (same x y) (member same ys x) (rest h)
          ]
      go rest false e k = or_right (same x y) (member same ys x) (rest k)

  pub filter_holds : ((x y : T) → same x y ≡ true → x ≡ y) → (f : T → Bool) (xs : List T) (x : T) → member same (filter f xs) x ≡ true → f x ≡ true
  filter_holds is f [] x m = absurd cc
  filter_holds is f (y ∷ ys) x m = go (filter_holds is f ys x) (f y) refl m
    where
      go : (member same (filter f ys) x ≡ true → f x ≡ true) → (b : Bool) → f y ≡ b → member same (if b then y ∷ filter f ys else filter f ys) x ≡ true → f x ≡ true
      go rest true e k =
          elim (or_cases (same x y) (member same (filter f ys) x) k) [
            | inl h ↦ subst (λ z. f z ≡ true) (sym (is x y h)) e
            | inr h ↦ rest h
          ]
      go rest false e k = rest k

  pub filter_there : ((x y : T) → same x y ≡ true → x ≡ y) → (f : T → Bool) (xs : List T) (x : T) → member same xs x ≡ true → f x ≡ true → member same (filter f xs) x ≡ true
  filter_there is f [] x m h = absurd cc
  filter_there is f (y ∷ ys) x m h = go (λ k. filter_there is f ys x k h) (f y) refl (or_cases (same x y) (member same ys x) m)
    where
      go : (member same ys x ≡ true → member same (filter f ys) x ≡ true) → (b : Bool) → f y ≡ b → (same x y ≡ true) ⊎ (member same ys x ≡ true) → member same (if b then y ∷ filter f ys else filter f ys) x ≡ true
      go rest true e (inl k) = or_left (same x y) (member same (filter f ys) x) k
      go rest true e (inr k) = or_right (same x y) (member same (filter f ys) x) (rest k)
      go rest false e (inl k) = let q : f y ≡ true = subst (λ z. f z ≡ true) (is x y k) h in absurd cc
      go rest false e (inr k) = rest k

  pub filter_distinct : (f : T → Bool) (xs : List T) → IsDistinct same xs → IsDistinct same (filter f xs)
  filter_distinct f [] d = tt
  filter_distinct f (x ∷ xs) d = go (filter_distinct f xs d.1) (f x) refl
    where
      go : IsDistinct same (filter f xs) → (b : Bool) → f x ≡ b → IsDistinct same (if b then x ∷ filter f xs else filter f xs)
      go rest true e = (false_from_ne_true (member same (filter f xs) x) (λ m. let k = filter_member f xs x m in cc), rest)
      go rest false e = rest

  -- two lists with no item in common
  either : (xs ys : List T) (x : T) → member same xs x ≡ false → member same ys x ≡ false → member same (xs ++ ys) x ≡ false
  either [] ys x h k = k
  either (z ∷ zs) ys x h k = false_from_ne_true (same x z || member same (zs ++ ys) x) (λ m. elim (or_cases (same x z) (member same (zs ++ ys) x) m) [
    | inl e ↦ let q = or_left (same x z) (member same zs x) e in cc
    | inr n ↦ let r : member same zs x ≡ false = false_from_ne_true (member same zs x) (λ j. let q = or_right (same x z) (member same zs x) j in cc) in let q = either zs ys x r k in cc
  ])

  pub append_distinct : (xs ys : List T) → IsDistinct same xs → IsDistinct same ys → ((x y : T) → same x y ≡ true → x ≡ y) → ((x : T) → same x x ≡ true) → ((x : T) → member same ys x ≡ true → member same xs x ≡ false) → IsDistinct same (xs ++ ys)
  append_distinct [] ys d e is own apart = e
  append_distinct (x ∷ xs) ys d e is own apart = (
    either xs ys x d.0 (false_from_ne_true (member same ys x) (λ m. let k = apart x m in let h = or_left (same x x) (member same xs x) (own x) in cc)),
    append_distinct xs ys d.1 e is own (λ y m. false_from_ne_true (member same xs y) (λ j. let h = or_right (same y x) (member same xs y) j in let k = apart y m in cc)),
  )

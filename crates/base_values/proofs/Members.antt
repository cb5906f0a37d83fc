-- Members of lists, what holds of each, and the keys of entries.
use Rattle.std.specs.Prelude.{ℕ, zero, suc, ◌≡◌, ◌<◌, ◌⊎◌, List, [], ◌∷◌, ◌++◌, length, map, reverse, slice_index_or, Contains}
use Rattle.std.proofs.Common.{refl, sym, ap, subst, inl, inr, arith}
use Rattle.std.proofs.lemmas.List.{reverse-append}

pub data Member {A : Type 0} : A → List A → Type 0 where
  here : {x : A} {xs : List A} → Member x (x ∷ xs)
  there : {x y : A} {xs : List A} → Member x xs → Member x (y ∷ xs)

pub in_left : {A : Type 0} {x : A} {xs : List A} (ys : List A) → Member x xs → Member x (xs ++ ys)
in_left ys here = here
in_left ys (there m) = there (in_left ys m)

pub in_right : {A : Type 0} {x : A} (xs : List A) {ys : List A} → Member x ys → Member x (xs ++ ys)
in_right [] m = m
in_right (y ∷ xs) m = there (in_right xs m)

pub either : {A : Type 0} (x : A) (xs ys : List A) → Member x (xs ++ ys) → Member x xs ⊎ Member x ys
either x [] ys m = inr m
either x (y ∷ xs) ys here = inl here
either x (y ∷ xs) ys (there m) = elim (either x xs ys m) [ inl a ↦ inl (there a) | inr b ↦ inr b ]

-- what holds of each member
pub record Each {A : Type 0} (P : A → Type 0) (xs : List A) : Type 0 where
  pub at : (x : A) → Member x xs → P x

pub none_there : {A : Type 0} (P : A → Type 0) → Each P []
none_there P = record { at = λ x m. elim m [ ] }

pub each_more : {A : Type 0} (P : A → Type 0) (x : A) (xs : List A) → P x → Each P xs → Each P (x ∷ xs)
each_more {A} P x xs p e = record { at = go }
  where
    go : (y : A) → Member y (x ∷ xs) → P y
    go y here = p
    go y (there m) = e.at y m

pub each_both : {A : Type 0} (P : A → Type 0) (xs ys : List A) → Each P xs → Each P ys → Each P (xs ++ ys)
each_both P [] ys e f = f
each_both P (x ∷ xs) ys e f = each_more P x (xs ++ ys) (e.at x here) (each_both P xs ys (record { at = λ y m. e.at y (there m) }) f)

pub each_as : {A : Type 0} (P Q : A → Type 0) (xs : List A) → ((x : A) → P x → Q x) → Each P xs → Each Q xs
each_as P Q xs f e = record { at = λ x m. f x (e.at x m) }

-- the keys of a list of entries
abbrev pub keys : {A : Type 0} → List (ℕ × A) → List ℕ
keys [] = []
keys (x ∷ xs) = x.0 ∷ keys xs

pub keys_both : {A : Type 0} (xs ys : List (ℕ × A)) → keys (xs ++ ys) ≡ keys xs ++ keys ys
keys_both [] ys = refl
keys_both (x ∷ xs) ys = ap (λ k. x.0 ∷ k) (keys_both xs ys)

pub key_member : {A : Type 0} (x : ℕ × A) (xs : List (ℕ × A)) → Member x xs → Member x.0 (keys xs)
key_member x [] m = elim m [ ]
key_member x (y ∷ xs) here = here
key_member x (y ∷ xs) (there m) = there (key_member x xs m)

pub in_map : {A B : Type 0} (f : A → B) (x : A) (xs : List A) → Member x xs → Member (f x) (map f xs)
in_map f x [] m = elim m [ ]
in_map f x (y ∷ xs) here = here
in_map f x (y ∷ xs) (there m) = there (in_map f x xs m)

-- the items of a list that is turned round
pub of_reverse : {A : Type 0} (x : A) (xs : List A) → Member x (reverse xs) → Member x xs
of_reverse x [] m = m
of_reverse x (y ∷ xs) m = elim (either x (reverse xs) (y ∷ []) (subst (Member x) (reverse-append (y ∷ []) xs) m)) [
  | inl a ↦ there (of_reverse x xs a)
  | inr b ↦ in_left xs b
]

-- members by their places
pub contains_of : {A : Type 0} (x : A) (xs : List A) → Member x xs → Contains xs x
contains_of x [] m = elim m [ ]
contains_of x (y ∷ xs) here = (0, omega arith, refl)
contains_of x (y ∷ xs) (there m) = let c = contains_of x xs m in (suc c.0, omega (arith, c.1), c.2)

pub member_of : {A : Type 0} (x : A) (xs : List A) → Contains xs x → Member x xs
member_of {A} x xs c = at xs c.0 c.1 c.2
  where
    at : (xs : List A) (k : ℕ) → k < length xs → slice_index_or xs k x ≡ x → Member x xs
    at [] k h e = absurd (omega arith)
    at (y ∷ xs) zero h e = subst (λ y. Member x (y ∷ xs)) (sym e) here
    at (y ∷ xs) (suc k) h e = there (at xs k (omega arith) e)

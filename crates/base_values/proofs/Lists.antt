-- Places in lists.
use Rattle.std.proofs.Common.{ℕ, zero, suc, ◌≡◌, ◌≢◌, ◌+◌, ◌-◌, ◌<◌, ◌⊎◌, inl, inr, ◌∙◌, subst, List, [], ◌∷◌, ◌++◌, length, take, drop, get_or, slice_get, Some, Option, arith, refl, sym, ap, add-one, drop-cons, None, map, reverse, ◌≤◌}
use Rattle.std.specs.Prelude.{All}
use Rattle.std.proofs.lemmas.List.{length_push, length-drop, reverse-reverse, take_all, reverse-append}
use Rattle.std.proofs.lemmas.Option.{slice_get_within, get_or_from_slice_get, same_Some}

pub drop_item : {A : Type 0} (xs : List A) (i : ℕ) (x : A) → i < length xs → x ≡ get_or xs i x → drop i xs ≡ x ∷ drop (i + 1) xs
drop_item xs i x h e = rw (drop-cons xs i x, add-one, ← e) refl

pub take_item : {A : Type 0} (xs : List A) (i : ℕ) (x : A) → i < length xs → x ≡ get_or xs i x → take (i + 1) xs ≡ take i xs ++ x ∷ []
take_item xs i x h e = rw add-one (go xs i x h e)
  where
    go : {A : Type 0} (xs : List A) (i : ℕ) (x : A) → i < length xs → x ≡ get_or xs i x → take (suc i) xs ≡ take i xs ++ x ∷ []
    go [] i x h e = absurd (omega arith)
    go (y ∷ ys) zero x h e = ap (λ z. z ∷ []) (sym e)
    go (y ∷ ys) (suc i) x h e = ap (λ zs. y ∷ zs) (go ys i x (omega arith) e)

pub take_back : {A : Type 0} (xs : List A) (i : ℕ) (x : A) → i < length xs → x ≡ get_or xs i x → reverse (take (i + 1) xs) ≡ x ∷ reverse (take i xs)
take_back xs i x h e = ap reverse (take_item xs i x h e) ∙ reverse-append (take i xs) (x ∷ [])

pub get_last : {A : Type 0} (xs : List A) (x : A) → slice_get (xs ++ (x ∷ [])) (length xs) ≡ Some x
get_last [] x = refl
get_last (y ∷ ys) x = get_last ys x

pub get_other : {A : Type 0} (xs : List A) (x : A) (q : ℕ) → q ≢ length xs → slice_get (xs ++ (x ∷ [])) q ≡ slice_get xs q
get_other [] x zero n = absurd (n refl)
get_other [] x (suc q) n = refl
get_other (y ∷ ys) x zero n = refl
get_other (y ∷ ys) x (suc q) n = get_other ys x q (λ e. n (ap suc e))

-- an item more is one more
pub one_more : {A : Type 0} (xs : List A) (x : A) → length (xs ++ x ∷ []) ≡ suc (length xs)
one_more xs x = length_push xs x ∙ add-one (length xs)

-- what stands at a place that is there
pub get_there : {A : Type 0} (xs : List A) (i : ℕ) (x : A) → i < length xs → x ≡ get_or xs i x → slice_get xs i ≡ Some x
get_there [] i x h e = absurd (omega arith)
get_there (y ∷ ys) zero x h e = ap Some (sym e)
get_there (y ∷ ys) (suc i) x h e = get_there ys i x (omega arith) e

pub get_within : {A : Type 0} (xs : List (Option A)) (i : ℕ) (x : A) → get_or xs i None ≡ Some x → i < length xs
get_within [] i x e = absurd cc
get_within (y ∷ ys) zero x e = omega arith
get_within (y ∷ ys) (suc i) x e = omega (arith, get_within ys i x e)

pub drop_next : {A : Type 0} (xs : List A) (i : ℕ) (x : A) → slice_get xs i ≡ Some x → drop i xs ≡ x ∷ drop (suc i) xs
drop_next [] i x e = absurd cc
drop_next (y ∷ ys) zero x e = ap (λ z. z ∷ ys) (same_Some y x e)
drop_next (y ∷ ys) (suc i) x e = drop_next ys i x e

pub drop_from : {A : Type 0} (xs : List A) (i : ℕ) (x : A) → slice_get xs i ≡ Some x → drop i xs ≡ x ∷ drop (i + 1) xs
drop_from xs i x e = rw add-one (drop_next xs i x e)

pub take_next : {A : Type 0} (xs : List A) (i : ℕ) (x : A) → slice_get xs i ≡ Some x → take (suc i) xs ≡ take i xs ++ x ∷ []
take_next [] i x e = absurd cc
take_next (y ∷ ys) zero x e = ap (λ z. z ∷ []) (same_Some y x e)
take_next (y ∷ ys) (suc i) x e = ap (λ zs. y ∷ zs) (take_next ys i x e)

-- all from a place on
pub rest_whole : {A : Type 0} (xs : List A) (i : ℕ) → take (length xs - i) (drop i xs) ≡ drop i xs
rest_whole xs i = let left = length-drop i xs in take_all (length xs - i) (drop i xs) (omega (arith, left))

-- what holds of all holds of the one at a place
pub all_at : {A : Type 0} (P : A → Type 0) (xs : List A) (i : ℕ) (x : A) → All P xs → slice_get xs i ≡ Some x → P x
all_at P xs i x a e = subst P (get_or_from_slice_get xs i x x e) (a i x (slice_get_within xs i x e))

-- what stands in a front stands there in the whole
pub get_front : {A : Type 0} (xs ys : List A) (i : ℕ) (x : A) → slice_get xs i ≡ Some x → slice_get (xs ++ ys) i ≡ Some x
get_front [] ys i x e = absurd cc
get_front (y ∷ xs) ys zero x e = e
get_front (y ∷ xs) ys (suc i) x e = get_front xs ys i x e

pub get_pushed : {A : Type 0} (xs : List A) (y : A) (i : ℕ) (x : A) → slice_get (xs ++ y ∷ []) i ≡ Some x → (slice_get xs i ≡ Some x) ⊎ ((i ≡ length xs) × (y ≡ x))
get_pushed [] y zero x e = inr (refl, same_Some y x e)
get_pushed [] y (suc i) x e = absurd cc
get_pushed (z ∷ xs) y zero x e = inl e
get_pushed (z ∷ xs) y (suc i) x e = elim (get_pushed xs y i x e) [ inl p ↦ inl p | inr q ↦ inr (ap suc q.0, q.1) ]

-- an item before a place is an item, and those before it are before the place
pub get_take : {A : Type 0} (xs : List A) (k q : ℕ) (x : A) → slice_get (take k xs) q ≡ Some x → slice_get xs q ≡ Some x
get_take xs zero q x e = absurd cc
get_take [] (suc k) q x e = absurd cc
get_take (y ∷ ys) (suc k) zero x e = e
get_take (y ∷ ys) (suc k) (suc q) x e = get_take ys k q x e

pub take_take : {A : Type 0} (xs : List A) (k q : ℕ) (x : A) → slice_get (take k xs) q ≡ Some x → take q (take k xs) ≡ take q xs
take_take xs zero q x e = absurd cc
take_take [] (suc k) q x e = absurd cc
take_take (y ∷ ys) (suc k) zero x e = refl
take_take (y ∷ ys) (suc k) (suc q) x e = ap (λ zs. y ∷ zs) (take_take ys k q x e)

-- a place is either inside or past the end
pub get_some : {A : Type 0} (xs : List A) (n : ℕ) → n < length xs → (x : A) × (slice_get xs n ≡ Some x)
get_some [] n h = absurd (omega arith)
get_some (x ∷ xs) zero h = (x, refl)
get_some (x ∷ xs) (suc n) h = get_some xs n (omega arith)

pub none_past : {A : Type 0} (xs : List A) (q : ℕ) → slice_get xs q ≡ None → length xs ≤ q
none_past [] q e = omega arith
none_past (x ∷ xs) zero e = absurd cc
none_past (x ∷ xs) (suc q) e = omega (arith, none_past xs q e)

pub all_back : (zs : List (List ℕ)) → map reverse (map reverse zs) ≡ zs
all_back [] = refl
all_back (z ∷ zs) = λ i. reverse-reverse z i ∷ all_back zs i

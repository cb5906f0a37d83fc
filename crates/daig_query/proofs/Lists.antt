-- Fronts of lists.
use Rattle.std.proofs.Common.{◌≡◌, ℕ, zero, suc, ◌+◌, ◌<◌, ◌⊎◌, List, [], ◌∷◌, ◌++◌, map, take, length, Some, slice_get, get_or, set, refl, sym, ap, ◌∙◌, inl, inr, arith, length-append}
use Rattle.std.proofs.lemmas.List.{map-append, append_cancel_right}
use Rattle.std.proofs.lemmas.Option.{same_Some}
use Rattle.base_values.proofs.Lists.{take_next, get_last}

-- one item more
pub map_next : {A B : Type 0} (f : A → B) (xs : List A) (i : ℕ) (x : A) → slice_get xs i ≡ Some x → map f (take (suc i) xs) ≡ map f (take i xs) ++ f x ∷ []
map_next f xs i x e = ap (map f) (take_next xs i x e) ∙ map-append f (take i xs) (x ∷ [])

pub get_take : {A : Type 0} (xs : List A) (k i : ℕ) → i < k → slice_get (take k xs) i ≡ slice_get xs i
get_take xs zero i h = absurd (omega arith)
get_take [] (suc k) i h = refl
get_take (x ∷ xs) (suc k) zero h = refl
get_take (x ∷ xs) (suc k) (suc i) h = get_take xs k i (omega arith)

-- a list is empty, or has a last item
pub last_view : {A : Type 0} (xs : List A) → (xs ≡ []) ⊎ ((us : List A) × (u : A) × (xs ≡ us ++ u ∷ []))
last_view [] = inl refl
last_view (x ∷ xs) = elim (last_view xs) [ inl e ↦ inr ([], x, ap (λ ys. x ∷ ys) e) | inr p ↦ inr (x ∷ p.0, p.1, ap (λ ys. x ∷ ys) p.2) ]

-- a list is those before its last item and that one, also where that one is set
pub last_set : {A : Type 0} (xs : List A) (d v : A) (n : ℕ) → length xs ≡ suc n → (rest : List A) × (xs ≡ rest ++ get_or xs n d ∷ []) × (set xs n v ≡ rest ++ v ∷ [])
last_set [] d v n e = absurd (omega (arith, e))
last_set (x ∷ []) d v zero e = ([], refl, refl)
last_set (x ∷ []) d v (suc n) e = absurd (omega (arith, e))
last_set (x ∷ y ∷ ys) d v zero e = absurd (omega (arith, e))
last_set (x ∷ y ∷ ys) d v (suc n) e =
    let p = last_set (y ∷ ys) d v n (omega (arith, e)) in
    (x ∷ p.0, ap (λ zs. x ∷ zs) p.1, ap (λ zs. x ∷ zs) p.2)

-- a list ends with its last item
pub ends_with : {A : Type 0} (xs : List A) (n : ℕ) → length xs ≡ suc n → (x : A) → x ≡ get_or xs n x → (rest : List A) × (xs ≡ rest ++ x ∷ [])
ends_with xs n size x is =
    let p = last_set xs x x n size in
    (p.0, p.1 ∙ ap (λ y. p.0 ++ y ∷ []) (sym is))

-- two lists that are the same have the same last item
pub same_last : {A : Type 0} (xs ys : List A) (x y : A) → xs ++ x ∷ [] ≡ ys ++ y ∷ [] → (xs ≡ ys) × (x ≡ y)
same_last xs ys x y e =
    let l : length (xs ++ x ∷ []) ≡ length (ys ++ y ∷ []) = ap length e in
    let a : length (xs ++ x ∷ []) ≡ length xs + 1 = length-append xs (x ∷ []) in
    let b : length (ys ++ y ∷ []) ≡ length ys + 1 = length-append ys (y ∷ []) in
    let n : length xs ≡ length ys = omega arith in
    let f : Some x ≡ Some y = sym (get_last xs x) ∙ (ap (λ zs. slice_get zs (length xs)) e ∙ (ap (slice_get (ys ++ y ∷ [])) n ∙ get_last ys y)) in
    let h : x ≡ y = same_Some x y f in
    (append_cancel_right xs ys (x ∷ []) (e ∙ ap (λ v. ys ++ v ∷ []) (sym h)), h)

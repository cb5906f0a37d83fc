-- Lists in which each item stands once.
use Rattle.std.specs.Prelude.{List, [], ◌∷◌, ◌++◌, ◌≢◌}
use Rattle.std.proofs.Common.{refl, subst}
use Rattle.base_values.proofs.Members.{Member, here, there, in_right}
use Rattle.imp_slots.specs.Fits.{Absent, Distinct}

pub not_in : {A : Type 0} (x : A) (xs : List A) → Absent x xs → Member x xs → ⊥
not_in x [] a m = elim m [ ]
not_in x (y ∷ xs) a here = a.0 refl
not_in x (y ∷ xs) a (there m) = not_in x xs a.1 m

pub absent_left : {A : Type 0} (x : A) (xs ys : List A) → Absent x (xs ++ ys) → Absent x xs
absent_left x [] ys a = tt
absent_left x (y ∷ xs) ys a = (a.0, absent_left x xs ys a.1)

pub left_once : {A : Type 0} (xs ys : List A) → Distinct (xs ++ ys) → Distinct xs
left_once [] ys d = tt
left_once (x ∷ xs) ys d = (absent_left x xs ys d.0, left_once xs ys d.1)

pub right_once : {A : Type 0} (xs ys : List A) → Distinct (xs ++ ys) → Distinct ys
right_once [] ys d = d
right_once (x ∷ xs) ys d = right_once xs ys d.1

pub absent_both : {A : Type 0} (n : A) (xs ys : List A) → Absent n xs → Absent n ys → Absent n (xs ++ ys)
absent_both n [] ys a b = b
absent_both n (x ∷ xs) ys a b = (a.0, absent_both n xs ys a.1 b)

pub absent_end : {A : Type 0} (n m : A) (xs : List A) → Absent n xs → n ≢ m → Absent n (xs ++ m ∷ [])
absent_end n m xs a h = absent_both n xs (m ∷ []) a (h, tt)

pub absent_right : {A : Type 0} (n : A) (xs ys : List A) → Absent n (xs ++ ys) → Absent n ys
absent_right n [] ys a = a
absent_right n (x ∷ xs) ys a = absent_right n xs ys a.1

pub absent_if : {A : Type 0} (x : A) (xs : List A) → (Member x xs → ⊥) → Absent x xs
absent_if x [] h = tt
absent_if x (y ∷ xs) h = (λ e. h (subst (λ y. Member x (y ∷ xs)) e here), absent_if x xs (λ m. h (there m)))

-- no item stands in both parts
pub apart : {A : Type 0} (x : A) (xs ys : List A) → Distinct (xs ++ ys) → Member x xs → Member x ys → ⊥
apart x [] ys d a b = elim a [ ]
apart x (y ∷ xs) ys d here b = not_in x (xs ++ ys) d.0 (in_right xs b)
apart x (y ∷ xs) ys d (there a) b = apart x xs ys d.1 a b

pub once_both : {A : Type 0} (xs ys : List A) → Distinct xs → Distinct ys → ((x : A) → Member x xs → Member x ys → ⊥) → Distinct (xs ++ ys)
once_both [] ys d e f = e
once_both (x ∷ xs) ys d e f = (absent_both x xs ys d.0 (absent_if x ys (f x here)), once_both xs ys d.1 e (λ y a b. f y (there a) b))

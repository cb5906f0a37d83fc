-- Lists in which each item stands once, maps of them, and lists without some of their items.
use Rattle.std.specs.Prelude.{◌≡◌, List, [], ◌∷◌, ◌++◌, map}
use Rattle.std.proofs.Common.{refl, subst}
use Rattle.base_values.proofs.Members.{Member, here, there}
use Rattle.imp_slots.specs.Fits.{Distinct}
use Rattle.imp_slots.proofs.Distinct.{not_in, absent_if}

-- an item of a map, and what it is made of
pub record Made {A B : Type 0} (f : A → B) (xs : List A) (y : B) : Type 0 where
  pub item : A
  pub member : Member item xs
  pub is : f item ≡ y

pub made : {A B : Type 0} (f : A → B) (xs : List A) (y : B) → Member y (map f xs) → Made f xs y
made f [] y m = elim m [ ]
made f (x ∷ xs) y here = record { item = x; member = here; is = refl }
made f (x ∷ xs) y (there m) = let k = made f xs y m in record { item = k.item; member = there k.member; is = k.is }

pub map_once : {A B : Type 0} (f : A → B) → ((x y : A) → f x ≡ f y → x ≡ y) → (xs : List A) → Distinct xs → Distinct (map f xs)
map_once f inj [] d = tt
map_once f inj (x ∷ xs) d =
    (absent_if (f x) (map f xs) (λ m. let k = made f xs (f x) m in not_in x xs d.0 (subst (λ y. Member y xs) (inj k.item x k.is) k.member)), map_once f inj xs d.1)

-- a list without some of its items
pub data Thins {A : Type 0} : List A → List A → Type 0 where
  ends : Thins [] []
  keeps : {x : A} {xs ys : List A} → Thins xs ys → Thins (x ∷ xs) (x ∷ ys)
  drops : {y : A} {xs ys : List A} → Thins xs ys → Thins xs (y ∷ ys)

pub thins_both : {A : Type 0} {xs ys us vs : List A} → Thins xs ys → Thins us vs → Thins (xs ++ us) (ys ++ vs)
thins_both ends u = u
thins_both (keeps t) u = keeps (thins_both t u)
thins_both (drops t) u = drops (thins_both t u)

pub thins_in : {A : Type 0} {xs ys : List A} (x : A) → Thins xs ys → Member x xs → Member x ys
thins_in x ends m = m
thins_in x (keeps t) here = here
thins_in x (keeps t) (there m) = there (thins_in x t m)
thins_in x (drops t) m = there (thins_in x t m)

pub thins_once : {A : Type 0} {xs ys : List A} → Thins xs ys → Distinct ys → Distinct xs
thins_once ends d = tt
thins_once (keeps {x} {xs} {ys} t) d = (absent_if x xs (λ m. not_in x ys d.0 (thins_in x t m)), thins_once t d.1)
thins_once (drops t) d = thins_once t d.1

-- Members of lists, and two lists item by item.
use Rattle.std.proofs.Common.{ℕ, zero, suc, ◌≡◌, ◌+◌, ◌<◌, List, [], ◌∷◌, ◌++◌, length, map, drop, take, get_or, slice_get, Some, refl, sym, ap, subst, arith, add-one}
use Rattle.base_values.proofs.Lists.{drop_from, take_next}
use Rattle.base_values.proofs.Members.{Member, here, there}
use Rattle.batch_interp.specs.Pairs.{All2}

pub all2_both : {A B : Type 0} (P : A → B → Type 0) (xs xs' : List A) (ys ys' : List B) → All2 P xs ys → All2 P xs' ys' → All2 P (xs ++ xs') (ys ++ ys')
all2_both P [] xs' [] ys' f g = g
all2_both P [] xs' (y ∷ ys) ys' f g = absurd f
all2_both P (x ∷ xs) xs' [] ys' f g = absurd f
all2_both P (x ∷ xs) xs' (y ∷ ys) ys' f g = (f.0, all2_both P xs xs' ys ys' f.1 g)

pub all2_within : {A B : Type 0} (P Q : A → B → Type 0) (xs : List A) (ys : List B) → ((a : A) (b : B) → Member a xs → P a b → Q a b) → All2 P xs ys → All2 Q xs ys
all2_within P Q [] [] h f = tt
all2_within P Q [] (y ∷ ys) h f = f
all2_within P Q (x ∷ xs) [] h f = f
all2_within P Q (x ∷ xs) (y ∷ ys) h f = (h x y here f.0, all2_within P Q xs ys (λ a b m. h a b (there m)) f.1)

pub all2_as : {A B : Type 0} (P Q : A → B → Type 0) (xs : List A) (ys : List B) → ((a : A) (b : B) → P a b → Q a b) → All2 P xs ys → All2 Q xs ys
all2_as P Q xs ys h f = all2_within P Q xs ys (λ a b m. h a b) f

-- two lists that are told alike, item by item
pub all2_told : {A B C : Type 0} (f : A → C) (g : B → C) (xs : List A) (ys : List B) → All2 (λ a b. g b ≡ f a) xs ys → map g ys ≡ map f xs
all2_told f g [] [] h = refl
all2_told f g [] (y ∷ ys) h = absurd h
all2_told f g (x ∷ xs) [] h = absurd h
all2_told f g (x ∷ xs) (y ∷ ys) h = λ i. h.0 i ∷ all2_told f g xs ys h.1 i

pub all2_map : {A B C : Type 0} (P : A → B → Type 0) (f : C → B) (xs : List A) (cs : List C) → All2 P xs (map f cs) → All2 (λ a c. P a (f c)) xs cs
all2_map P f [] [] h = tt
all2_map P f [] (c ∷ cs) h = absurd h
all2_map P f (x ∷ xs) [] h = absurd h
all2_map P f (x ∷ xs) (c ∷ cs) h = (h.0, all2_map P f xs cs h.1)

-- the pair at a place, and those after it
pub record At {A B : Type 0} (P : A → B → Type 0) (xs : List A) (i : ℕ) (b : B) : Type 0 where
  pub item : A
  pub rest : drop i xs ≡ item ∷ drop (i + 1) xs
  pub front : take (i + 1) xs ≡ take i xs ++ item ∷ []
  pub holds : P item b

paired : {A B : Type 0} (P : A → B → Type 0) (xs : List A) (ys : List B) (i : ℕ) (y : B) → All2 P xs ys → i < length ys → y ≡ get_or ys i y → (x : A) × (slice_get xs i ≡ Some x) × P x y
paired P [] [] i y h l e = absurd (omega arith)
paired P [] (b ∷ bs) i y h l e = absurd h
paired P (a ∷ xs) [] i y h l e = absurd h
paired P (a ∷ xs) (b ∷ bs) zero y h l e = (a, refl, subst (P a) (sym e) h.0)
paired P (a ∷ xs) (b ∷ bs) (suc i) y h l e = paired P xs bs i y h.1 (omega arith) e

pub all2_at : {A B : Type 0} (P : A → B → Type 0) (xs : List A) (ys : List B) (i : ℕ) (y : B) → All2 P xs ys → i < length ys → y ≡ get_or ys i y → At P xs i y
all2_at P xs ys i y h l e =
    let t = paired P xs ys i y h l e in
    record { item = t.0; rest = drop_from xs i t.0 t.1; front = rw add-one (take_next xs i t.0 t.1); holds = t.2 }

pub all2_length : {A B : Type 0} (P : A → B → Type 0) (xs : List A) (ys : List B) → All2 P xs ys → length xs ≡ length ys
all2_length P [] [] h = refl
all2_length P [] (b ∷ bs) h = absurd h
all2_length P (a ∷ xs) [] h = absurd h
all2_length P (a ∷ xs) (b ∷ bs) h = ap suc (all2_length P xs bs h.1)

-- each of a list
abbrev pub AllOf : {A : Type 0} → (A → Type 0) → List A → Type 0
AllOf P [] = Unit {0}
AllOf P (x ∷ xs) = P x × AllOf P xs

pub all_both : {A : Type 0} (P : A → Type 0) (xs ys : List A) → AllOf P xs → AllOf P ys → AllOf P (xs ++ ys)
all_both P [] ys f g = g
all_both P (x ∷ xs) ys f g = (f.0, all_both P xs ys f.1 g)

pub all_as : {A : Type 0} (P Q : A → Type 0) (xs : List A) → ((x : A) → P x → Q x) → AllOf P xs → AllOf Q xs
all_as P Q [] h f = tt
all_as P Q (x ∷ xs) h f = (h x f.0, all_as P Q xs h f.1)

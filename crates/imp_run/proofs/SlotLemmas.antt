-- Slots that are set.
use Rattle.std.specs.Prelude.{◌≡◌, ℕ, zero, suc, pos, List, [], ◌∷◌, ◌++◌, length, map, take, drop, slice_get, slice_set, slice_index_or, Option}
use Rattle.std.proofs.Common.{◌-◌, ◌≤◌, refl, sym, ap, ◌∙◌, subst, arith}
use Rattle.std.proofs.lemmas.List.{take_all, length-drop}
use Rattle.std.proofs.lemmas.List.{map-set}
use Rattle.concrete_sem.specs.Values.{Number, Variables, array_at, as_array, with_number}
use Rattle.concrete_sem.specs.Values as v
use Rattle.concrete_sem.specs.Passing.{over}
use Rattle.imp_run.specs.declared.slots.SlotValue.{SlotValue}
use Rattle.imp_run.specs.declared.slots.SlotValue.TheVariants.{Int, Array}
use Rattle.imp_run.specs.Slots.{number_of, elements_of}

abbrev variables : List Number → List (Option ℕ) → Variables
variables numbers links = record { numbers = numbers; links = links }

-- a place of the list is set, and so is the slot
pub set-slot : (xs : List SlotValue) (links : List (Option ℕ)) (w : Variables) → variables (map number_of xs) links ≡ w → (x : ℕ) (h : SlotValue) → variables (map number_of (slice_set xs x h)) links ≡ with_number w x (number_of h)
set-slot xs links w is x h =
    subst (λ u. variables (map number_of (slice_set xs x h)) links ≡ with_number u x (number_of h)) is
    (ap (λ ns. variables ns links) (map-set number_of xs x h))

held-elements : (xs : List SlotValue) (a : ℕ) → elements_of (slice_get xs a) ≡ as_array (slice_index_or (map number_of xs) a (v.Int (pos 0)))
held-elements [] a = refl
held-elements (Int z ∷ xs) zero = refl
held-elements (Array zs ∷ xs) zero = refl
held-elements (x ∷ xs) (suc a) = held-elements xs a

-- what is taken out of a slot
pub taken-elements : (xs : List SlotValue) (links : List (Option ℕ)) (w : Variables) → variables (map number_of xs) links ≡ w → (a : ℕ) → elements_of (slice_get xs a) ≡ array_at w a
taken-elements xs links w is a = held-elements xs a ∙ ap (λ u. array_at u a) is

twice : {A : Type 0} (xs : List A) (x : ℕ) (y z : A) → slice_set (slice_set xs x y) x z ≡ slice_set xs x z
twice [] x y z = refl
twice (a ∷ xs) zero y z = refl
twice (a ∷ xs) (suc x) y z = ap (λ ys. a ∷ ys) (twice xs x y z)

-- a slot that is set twice
pub set_twice : (w : Variables) (x : ℕ) (y z : Number) → with_number (with_number w x y) x z ≡ with_number w x z
set_twice w x y z = ap (λ ns. variables ns w.links) (twice w.numbers x y z)

-- a list that is cut to the length of a layout, and then filled with what the rest of the layout starts with
filled : {A B L : Type 0} (f : A → B) (g : L → B) (xs : List A) (layout : List L) → map f (take (length layout) xs) ++ map g (drop (length (take (length layout) xs)) layout) ≡ over (map f xs) (map g layout)
filled f g [] [] = refl
filled f g [] (l ∷ ls) = refl
filled f g (x ∷ xs) [] = refl
filled f g (x ∷ xs) (l ∷ ls) = ap (λ zs. f x ∷ zs) (filled f g xs ls)

rest-whole : {L : Type 0} (layout : List L) (n i : ℕ) → length layout - n ≤ i → take i (take (length layout - n) (drop n layout)) ≡ drop n layout
rest-whole layout n i h =
    let long : length (drop n layout) ≡ length layout - n = length-drop n layout in
    let inner : take (length layout - n) (drop n layout) ≡ drop n layout = take_all (length layout - n) (drop n layout) (omega (arith, long)) in
    ap (take i) inner ∙ take_all i (drop n layout) (omega (arith, long, h))

-- where a loop has gone to the end of the rest of the layout
pub filled-end : {A B L : Type 0} (f : A → B) (g : L → B) (xs cut : List A) (layout : List L) (n i : ℕ) → cut ≡ take (length layout) xs → n ≡ length cut → length layout - n ≤ i → map f cut ++ map g (take i (take (length layout - n) (drop n layout))) ≡ over (map f xs) (map g layout)
filled-end {A} f g xs cut layout n i is count h =
    ap (λ ys. map f cut ++ map g ys) (rest-whole layout n i h)
    ∙ ap (λ m. map f cut ++ map g (drop m layout)) count
    ∙ ap (λ (ys : List A). map f ys ++ map g (drop (length ys) layout)) is
    ∙ filled f g xs layout

map-self : {A : Type 0} (xs : List A) → map (λ x. x) xs ≡ xs
map-self [] = refl
map-self (x ∷ xs) = ap (λ ys. x ∷ ys) (map-self xs)

pub links-filled-end : {A L : Type 0} (g : L → A) (xs cut : List A) (layout : List L) (n i : ℕ) → cut ≡ take (length layout) xs → n ≡ length cut → length layout - n ≤ i → cut ++ map g (take i (take (length layout - n) (drop n layout))) ≡ over xs (map g layout)
links-filled-end g xs cut layout n i is count h =
    ap (λ ys. ys ++ map g (take i (take (length layout - n) (drop n layout)))) (sym (map-self cut))
    ∙ filled-end (λ x. x) g xs cut layout n i is count h
    ∙ ap (λ ys. over ys (map g layout)) (map-self xs)

-- Copies of lists.
use Rattle.std.specs.Prelude.{◌≡◌, refl, List, [], ◌∷◌}
use Rattle.std.specs.List.{AllZip}

-- where a copy of an item is the item, a copy of a list is the list
pub copies_equal : {A : Type 0} {IsCopy : A → A → Type 0} → ((x y : A) → IsCopy x y → y ≡ x) → (xs ys : List A) → AllZip IsCopy xs ys → ys ≡ xs
copies_equal equal [] [] h = refl
copies_equal equal [] (y ∷ ys) h = absurd h
copies_equal equal (x ∷ xs) [] h = absurd h
copies_equal equal (x ∷ xs) (y ∷ ys) h = λ i. equal x y h.0 i ∷ copies_equal equal xs ys h.1 i

-- Two lists, item by item.
use Rattle.std.specs.Prelude.{List, [], ◌∷◌}

abbrev pub All2 : {A B : Type 0} → (A → B → Type 0) → List A → List B → Type 0
All2 P [] [] = Unit {0}
All2 P [] (b ∷ bs) = ⊥
All2 P (a ∷ xs) [] = ⊥
All2 P (a ∷ xs) (b ∷ bs) = P a b × All2 P xs bs

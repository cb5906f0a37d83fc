-- Lists of coded items, as their codes.
use Rattle.std.specs.Prelude.{List, [], ◌∷◌, map, ◌≡◌, refl}
use Rattle.std.proofs.Common.{ap}
use base.Stored.{Gv, gcons}
use Rattle.base_values.specs.Equal.{list_to}

-- the code of a mapped list is that of the list by the code of what is mapped
pub list_to-map : {A B : Type 0} (to : B → Gv) (f : A → B) (xs : List A) → list_to (λ x. to (f x)) xs ≡ list_to to (map f xs)
list_to-map to f [] = refl
list_to-map to f (x ∷ xs) = ap (gcons (to (f x))) (list_to-map to f xs)

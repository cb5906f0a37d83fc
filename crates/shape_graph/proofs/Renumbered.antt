-- A list whose first elements are changed already.
use Rattle.std.proofs.Common.{◌≡◌, ℕ, zero, suc, ◌<◌, List, [], ◌∷◌, ◌++◌, length, map, take, drop, get_or, set, refl, ap, arith}

-- the element at the border is as it was
pub get_or-border : {X : Type 0} (f : X → X) (xs : List X) (i : ℕ) (d : X) → i < length xs → get_or (map f (take i xs) ++ drop i xs) i d ≡ get_or xs i d
get_or-border f [] i d h = absurd (omega arith)
get_or-border f (x ∷ xs) zero d h = refl
get_or-border f (x ∷ xs) (suc i) d h = get_or-border f xs i d (omega arith)

-- to change it moves the border
pub set-border : {X : Type 0} (f : X → X) (xs : List X) (i : ℕ) (d : X) → i < length xs
    → set (map f (take i xs) ++ drop i xs) i (f (get_or xs i d)) ≡ map f (take (suc i) xs) ++ drop (suc i) xs
set-border f [] i d h = absurd (omega arith)
set-border f (x ∷ xs) zero d h = refl
set-border f (x ∷ xs) (suc i) d h = ap (λ ys. f x ∷ ys) (set-border f xs i d (omega arith))

-- From an item of a list to those after it.
use Rattle.std.specs.Prelude.{◌≡◌, ℕ, zero, suc, List, [], ◌∷◌, Option, Some, None}

module _ {K : Type 0} (next : K → Option K) where
  -- from an item, or none, on these follow one another, and then none
  abbrev pub IsWalk : Option K → List K → Type 0
  IsWalk at [] = at ≡ None
  IsWalk at (k ∷ rest) = (at ≡ Some k) × IsWalk (next k) rest

  -- what follows from an item on, so many at most
  abbrev pub walk : ℕ → Option K → List K
  walk zero at = []
  walk (suc n) None = []
  walk (suc n) (Some k) = k ∷ walk n (next k)

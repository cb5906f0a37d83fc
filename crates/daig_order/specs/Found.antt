-- The inputs of a name, looked up one after another.
use Rattle.std.specs.Prelude.{◌≡◌, ◌≤◌, List, length, map, take, Option, Some, None}
use Rattle.daig_order.specs.Store.{first_absent}

-- the first of these names have cells, and the values found are theirs
pub record AreFound {T V : Type 0} (value : T → V) (get : T → Option V) (xs : List T) (found : List V) : Type 0 where
  pub within : length found ≤ length xs
  pub values : found ≡ map value (take (length found) xs)
  pub there : first_absent get (take (length found) xs) ≡ None

-- each cell stays as it was
abbrev pub Grown : {T V : Type 0} → (T → Option V) → (T → Option V) → Type 0
Grown {T} {V} old new = (x : T) (v : V) → old x ≡ Some v → new x ≡ Some v

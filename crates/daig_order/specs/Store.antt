-- Cells as a function from names to values, whatever keeps them.
use Rattle.std.specs.Prelude.{◌≡◌, ◌≤◌, ℕ, ◌||◌, Bool, true, false, not, List, [], length, take, find, Option, Some, is_some}
use Rattle.daig_order.specs.Order.{System, member, fill_all}

module _ {T V : Type 0} where
  -- the names that have a cell
  abbrev pub has : (T → Option V) → T → Bool
  has get x = is_some (get x)

  -- the first of these names that has no cell
  abbrev pub first_absent : (T → Option V) → List T → Option T
  first_absent get xs = find (λ x. not (has get x)) xs

  -- each cell holds its name's value
  abbrev pub Holds : (T → V) → (T → Option V) → Type 0
  Holds value get = (x : T) (v : V) → get x ≡ Some v → v ≡ value x

  -- one cell more
  pub record Puts (same : T → T → Bool) (old new : T → Option V) (name : T) (v : V) : Type 0 where
    pub here : (x : T) → same x name ≡ true → new x ≡ Some v
    pub others : (x : T) → same x name ≡ false → new x ≡ old x

  -- what a demand for these fills, in order
  abbrev pub missing_of : System T → (T → Option V) → List T → List T
  missing_of s get xs = fill_all s (has get) [] xs

  -- what an advance leaves, after an error too: the old cells and the first of the missing names, so many
  pub record Leaves (s : System T) (value : T → V) (xs : List T) (old new : T → Option V) (limit count : ℕ) : Type 0 where
    pub adds : (x : T) → has new x ≡ (has old x || member s.same (take count (missing_of s old xs)) x)
    pub within : count ≤ limit
    pub needed : count ≤ length (missing_of s old xs)
    pub holds : Holds value new

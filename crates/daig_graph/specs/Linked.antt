-- Lists that are threaded through their items, each of which knows its neighbours.
use Rattle.std.specs.Prelude.{◌≡◌, ℕ, ◌<◌, Option, Some, None}

-- an item of a list: the number of the list, and the items before and after it
pub record Member (K : Type 0) : Type 0 where
  pub list : ℕ
  pub before : Option K
  pub next : Option K

-- The items and the first items of the lists: neighbours know each other, an item without one before is the first of its
-- list, and ranks fall along each list.
pub record AreLinked {K : Type 0} (members : K → Option (Member K)) (firsts : ℕ → Option K) : Type 0 where
  pub first : (l : ℕ) (k : K) → firsts l ≡ Some k → (m : Member K) × (members k ≡ Some m) × (m.list ≡ l) × (m.before ≡ None)
  pub front : (k : K) (m : Member K) → members k ≡ Some m → m.before ≡ None → firsts m.list ≡ Some k
  pub back : (k j : K) (m : Member K) → members k ≡ Some m → m.before ≡ Some j → (n : Member K) × (members j ≡ Some n) × (n.list ≡ m.list) × (n.next ≡ Some k)
  pub ahead : (k j : K) (m : Member K) → members k ≡ Some m → m.next ≡ Some j → (n : Member K) × (members j ≡ Some n) × (n.list ≡ m.list) × (n.before ≡ Some k)
  pub rank : K → ℕ
  pub peak : ℕ
  pub falls : (k j : K) (m : Member K) → members k ≡ Some m → m.next ≡ Some j → rank j < rank k
  pub low : (k : K) (m : Member K) → members k ≡ Some m → rank k < peak

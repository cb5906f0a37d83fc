-- Other numbers.
use Rattle.std.specs.Prelude.{◌≡◌, ℕ, ◌<◌, ◌≤◌, List, Option, Some, slice_index_or}

-- the new number of a number: what stands there in a list of new numbers, and the number itself beyond it
abbrev pub renumbered : List ℕ → ℕ → ℕ
renumbered new_of n = slice_index_or new_of n n

-- Of the numbers that have something, the new ones rise with the old.
abbrev pub AreRising : {A : Type 0} → (ℕ → Option A) → List ℕ → Type 0
AreRising {A} at new_of =
    (m n : ℕ) (a b : A) → m < n → at m ≡ Some a → at n ≡ Some b → renumbered new_of m < renumbered new_of n

-- Of the numbers that have something, none gets a greater one.
abbrev pub AreBelow : {A : Type 0} → (ℕ → Option A) → List ℕ → Type 0
AreBelow {A} at new_of = (n : ℕ) (a : A) → at n ≡ Some a → renumbered new_of n ≤ n

-- What stood at a number stands, changed, at its new one, and nothing else stands anywhere.
pub record Moves {A : Type 0} (change : A → A) (old new : ℕ → Option A) (new_of : List ℕ) : Type 0 where
  pub there : (n : ℕ) (a : A) → old n ≡ Some a → new (renumbered new_of n) ≡ Some (change a)
  pub back : (q : ℕ) (b : A) → new q ≡ Some b → (n : ℕ) × (a : A) × (old n ≡ Some a) × (renumbered new_of n ≡ q)

-- Nothing stands from this number on.
abbrev pub EndsBy : {A : Type 0} → (ℕ → Option A) → ℕ → Type 0
EndsBy {A} at room = (n : ℕ) (a : A) → at n ≡ Some a → n < room

-- The numbers below this one that had something have it, changed, at their new ones, which are below the room; nothing
-- else stands below; and the others have what they had.
pub record Moving {A : Type 0} (change : A → A) (old mid : ℕ → Option A) (new_of : List ℕ) (count room : ℕ) : Type 0 where
  pub there : (n : ℕ) (a : A) → n < count → old n ≡ Some a → mid (renumbered new_of n) ≡ Some (change a)
  pub back : (q : ℕ) (b : A) → q < count → mid q ≡ Some b → (n : ℕ) × (a : A) × (n < count) × (old n ≡ Some a) × (renumbered new_of n ≡ q)
  pub rest : (n : ℕ) → count ≤ n → mid n ≡ old n
  pub ends : (n : ℕ) (a : A) → n < count → old n ≡ Some a → renumbered new_of n < room

-- What stands in a list.
use Rattle.std.specs.Prelude.{◌≡◌, ℕ, List, Some, slice_get}

-- an item stands in a list
abbrev pub IsIn : {A : Type 0} → List A → A → Type 0
IsIn xs x = (n : ℕ) × (slice_get xs n ≡ Some x)

-- each item stands in a list once
abbrev pub IsOnce : {A : Type 0} → List A → Type 0
IsOnce {A} xs = (m n : ℕ) (x : A) → slice_get xs m ≡ Some x → slice_get xs n ≡ Some x → m ≡ n

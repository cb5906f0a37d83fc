-- What is promised of lists and of codes.
use Rattle.std.specs.Prelude.{ℕ, Bool, ◌≡◌, true, List}
use Rattle.std.specs.List.{AllZip}
use Rattle.std.specs.Bool.{Decides}
use Rattle.std.specs.Cmp.Lexicographic.{pointwise}
use base.Stored.{Coded}
use Rattle.base_values.specs.Equal.{same}

-- the test tells whether two values are the same
abbrev pub IsDecided : {A : Type 0} → (A → A → Bool) → Type 0
IsDecided {A} eq = (x y : A) → Decides (eq x y) (x ≡ y)

-- where the test tells it of two items, the test item by item tells it of two lists
abbrev pub EqualityDecides : {A : Type 0} → (A → A → Bool) → Type 0
EqualityDecides eq = IsDecided eq → IsDecided (pointwise eq)

-- a copy of a value is the same value
abbrev pub IsCopied : {A : Type 0} → (A → A → Type 0) → Type 0
IsCopied {A} IsCopy = (x y : A) → IsCopy x y → y ≡ x

-- where that holds of the items, it holds of the lists
abbrev pub CopiesAreEqual : {A : Type 0} → (A → A → Type 0) → Type 0
CopiesAreEqual IsCopy = IsCopied IsCopy → IsCopied (AllZip IsCopy)

-- at a type that has a code, the test on codes tells whether two values are the same
abbrev pub CodesDecide : Type 0 → Type 0
CodesDecide A = (c : Coded A) → IsDecided (same c)

-- whatever a hash is fed of a value, values with the same code feed the same
abbrev pub HashesAgree : Type 0 → Type 0
HashesAgree A = (c : Coded A) (fed : A → List (List ℕ)) (x y : A) → same c x y ≡ true → fed x ≡ fed y

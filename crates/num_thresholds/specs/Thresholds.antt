-- The nearest of some numbers to another one, on either side.
use Rattle.std.specs.Prelude.{◌≡◌, ℕ, ◌<◌, ◌≤◌, ◌^◌, ℤ, pos, neg_ℤ, ◌≤ℤ◌, ◌<ℤ◌, int_lt, Bool, true, Option, Some, None, List, [], ◌∷◌, length, slice_index_or, if◌then◌else◌}
use Rattle.std.specs.Int.{int_max, int_min}

-- the lesser of a number and another one, if there is one, and the greater
abbrev pub lesser : ℤ → Option ℤ → ℤ
lesser m None = m
lesser m (Some n) = int_min m n

abbrev pub greater : ℤ → Option ℤ → ℤ
greater m None = m
greater m (Some n) = int_max m n

-- the least of the numbers that are not below z, and the greatest of those that are not above it; none where there is none
abbrev pub least_from : List ℤ → ℤ → Option ℤ
least_from [] z = None
least_from (m ∷ ms) z = if int_lt m z then least_from ms z else Some (lesser m (least_from ms z))

abbrev pub greatest_to : List ℤ → ℤ → Option ℤ
greatest_to [] z = None
greatest_to (m ∷ ms) z = if int_lt z m then greatest_to ms z else Some (greater m (greatest_to ms z))

-- none is below one before it
abbrev pub IsRising : List ℤ → Type 0
IsRising ms = (i j : ℕ) → i ≤ j → j < length ms → slice_index_or ms i (pos 0) ≤ℤ slice_index_or ms j (pos 0)

-- each has 64 bits
abbrev pub IsWord : ℤ → Type 0
IsWord m = (neg_ℤ (pos (2 ^ 63)) ≤ℤ m) × (m <ℤ pos (2 ^ 63))

abbrev pub AreWords : List ℤ → Type 0
AreWords ms = (k : ℕ) → IsWord (slice_index_or ms k (pos 0))

-- each has 64 bits, and where this is said of them they rise
pub record AreSeen (rising : Bool) (ms : List ℤ) : Type 0 where
  pub rise : rising ≡ true → IsRising ms
  pub words : AreWords ms

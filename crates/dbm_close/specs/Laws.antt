-- Laws of closing.
use Rattle.std.specs.Prelude.{◌≡◌, ◌↔◌, ℕ, ◌<◌, ◌^◌, ℤ, ◌+ℤ◌, ◌≤ℤ◌, Option, Some, Bool, false, List, length, slice_index_or}
use Rattle.dbm_close.specs.declared.closed.Closed.{Closed}
use Rattle.dbm_close.specs.declared.closed.Closed.TheVariants.{Empty, Matrix}
use Rattle.dbm_close.specs.Close.{IsCloseOf}
use Rattle.dbm_close.specs.Steps.{extreme_high, extreme_low, half, tightened}
use Rattle.dbm_core.specs.Half.{HalfMatrix}
use Rattle.dbm_core.specs.Limits.{IsLimited}
use Rattle.dbm_core.specs.Nodes.{flip}
use Rattle.dbm_core.specs.Valuations.{IsSatisfiedBy}
use Rattle.dbm_core.specs.Weights.{add_weight}

-- each of the values x lies within its slot's extremes
abbrev pub AreInSlots : List Bool → (ℕ → ℤ) → Type 0
AreInSlots kinds x = (k : ℕ) → k < length kinds → (extreme_low (slice_index_or kinds k false) ≤ℤ x k) × (x k ≤ℤ extreme_high (slice_index_or kinds k false))

-- the values x satisfy what closing answered; none satisfy Empty
abbrev pub IsMetBy : Closed → (ℕ → ℤ) → Type 0
IsMetBy Empty x = ⊥
IsMetBy (Matrix r) x = IsSatisfiedBy r x

-- values within the slots' extremes satisfy the answer exactly where they satisfy m
abbrev pub KeepsMeaning : HalfMatrix → Closed → Type 0
KeepsMeaning m c = (x : ℕ → ℤ) → AreInSlots m.kinds x → IsSatisfiedBy m x ↔ IsMetBy c x

-- a closed matrix has the kinds of m
abbrev pub KeepsKinds : HalfMatrix → Closed → Type 0
KeepsKinds m Empty = Unit {0}
KeepsKinds m (Matrix r) = r.kinds ≡ m.kinds

-- a closed matrix has a diagonal of 0 and bounds from -2^64 to 2^64
abbrev pub IsLimitedAnswer : Closed → Type 0
IsLimitedAnswer Empty = Unit {0}
IsLimitedAnswer (Matrix r) = IsLimited (2 ^ 64) r

-- nothing but c is what closing m answers
abbrev pub IsOnlyAnswer : HalfMatrix → Closed → Type 0
IsOnlyAnswer m c = (d : Closed) → IsCloseOf m d → d ≡ c

-- what step 4 halves is twice its half
abbrev pub HalvesAreExact : Type 0
HalvesAreExact = (s : ℕ → ℕ → Option ℤ) (i j : ℕ) (x : ℤ) → add_weight (tightened s i (flip i)) (tightened s (flip j) j) ≡ Some x →
    (h : ℤ) × (half (Some x) ≡ Some h) × (h +ℤ h ≡ x)

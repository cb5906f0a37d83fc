-- Transitive bounds: closing has cut none that a walk still needs.
use Rattle.std.specs.Prelude.{◌≡◌, ℕ, ◌<◌, ℤ, Option, Some, None, Bool, true, false, List, slice_index_or}
use Rattle.dbm_core.specs.Half.{HalfMatrix, entry, nodes}

-- whether there is a bound
abbrev pub is_bound : Option ℤ → Bool
is_bound None = false
is_bound (Some x) = true

-- a bound stands wherever two in a row do
abbrev pub IsTransitive : ℕ → (ℕ → ℕ → Option ℤ) → Type 0
IsTransitive n d = (i k j : ℕ) → i < n → k < n → j < n → is_bound (d i k) ≡ true → is_bound (d k j) ≡ true → is_bound (d i j) ≡ true

-- those of the nodes to which a bound leads from node i
abbrev pub AreReached : HalfMatrix → ℕ → List Bool → Type 0
AreReached m i reached = (j : ℕ) → j < nodes m → slice_index_or reached j false ≡ is_bound (entry m i j)

-- a bound from node k leads to one of these
abbrev pub StaysWithin : HalfMatrix → List Bool → ℕ → Type 0
StaysWithin m reached k = (j : ℕ) → j < nodes m → is_bound (entry m k j) ≡ true → slice_index_or reached j false ≡ true

-- a bound from one of these leads to one of them
abbrev pub StayWithin : HalfMatrix → List Bool → Type 0
StayWithin m reached = (k : ℕ) → k < nodes m → slice_index_or reached k false ≡ true → StaysWithin m reached k

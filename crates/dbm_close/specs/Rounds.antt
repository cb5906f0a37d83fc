-- A round lets walks go through both nodes of one slot.
use Rattle.std.specs.Prelude.{◌≡◌, ℕ, ◌<◌, ◌+◌, ◌*◌, ℤ, pos, Option, Some, None, ◌⊎◌, slice_index_or, cond, eqb, ◌^◌, ◌/◌, negsuc}
use Rattle.dbm_close.specs.declared.middle.Middle.{Middle}
use Rattle.dbm_close.specs.Walks.{AreLeastWeights, HasNoNegativeWalk}
use Rattle.dbm_core.specs.Half.{HalfMatrix, IsMatrix, entry, nodes}
use Rattle.dbm_core.specs.Limits.{AreWithin, IsWithin}
use Rattle.dbm_core.specs.Weights.{AtMost, add_weight, least}

-- one round: a walk may now go through k
abbrev pub through : (ℕ → ℕ → Option ℤ) → ℕ → ℕ → ℕ → Option ℤ
through d k i j = least (d i j) (add_weight (d i k) (d k j))

-- walks may now go through the nodes of slot q
abbrev pub rounded : (ℕ → ℕ → Option ℤ) → ℕ → ℕ → ℕ → Option ℤ
rounded d q = through (through d (2 * q)) (2 * q + 1)

-- the same, where a slot's two diagonal entries are taken from its even node
abbrev pub round_entry : (ℕ → ℕ → Option ℤ) → ℕ → ℕ → ℕ → Option ℤ
round_entry d q i j = cond (eqb i j) (rounded d q (2 * (i / 2)) (2 * (i / 2))) (rounded d q i j)

-- a closed walk at one of the slot's nodes is below 0
abbrev pub IsSlotNegative : (ℕ → ℕ → Option ℤ) → ℕ → Type 0
IsSlotNegative d q = (AtMost (d (2 * q) (2 * q)) (Some (negsuc 0))) ⊎ (AtMost (through d (2 * q) (2 * q + 1) (2 * q + 1)) (Some (negsuc 0)))

-- the closed walks at the slot's nodes weigh 0 or more
abbrev pub IsSlotSound : (ℕ → ℕ → Option ℤ) → ℕ → Type 0
IsSlotSound d q = (AtMost (Some (pos 0)) (d (2 * q) (2 * q))) × (AtMost (Some (pos 0)) (through d (2 * q) (2 * q + 1) (2 * q + 1)))

-- an entry of the diagonal is below 0
abbrev pub IsDiagonalNegative : ℕ → (ℕ → ℕ → Option ℤ) → Type 0
IsDiagonalNegative n d = (i : ℕ) × ((i < n) × AtMost (d i i) (Some (negsuc 0)))

-- none is
abbrev pub IsDiagonalSound : ℕ → (ℕ → ℕ → Option ℤ) → Type 0
IsDiagonalSound n d = (i : ℕ) → i < n → AtMost (Some (pos 0)) (d i i)

-- s has the least weights of m's walks, which step 1 gives, and small entries
pub record HasLeastWeights (m s : HalfMatrix) : Type 0 where
  pub matrix : IsMatrix s
  pub same_kinds : s.kinds ≡ m.kinds
  pub weights : AreLeastWeights (entry m) (nodes m) (entry s)
  pub sound : HasNoNegativeWalk (entry m) (nodes m)
  pub within : AreWithin (nodes m) (2 ^ 102) (entry s)

-- m has the bounds of d to and from both nodes of slot q, those of the second one when walks may go through the first
pub record HasMiddle (n : ℕ) (d : ℕ → ℕ → Option ℤ) (q : ℕ) (m : Middle) : Type 0 where
  pub to_first : (i : ℕ) → i < n → slice_index_or m.to_first i None ≡ d i (2 * q)
  pub from_first : (j : ℕ) → j < n → slice_index_or m.from_first j None ≡ d (2 * q) j
  pub to_second : (i : ℕ) → i < n → slice_index_or m.to_second i None ≡ through d (2 * q) i (2 * q + 1)
  pub from_second : (j : ℕ) → j < n → slice_index_or m.from_second j None ≡ through d (2 * q) (2 * q + 1) j

-- each of its bounds is none or small
pub record IsSmallMiddle (m : Middle) : Type 0 where
  pub to_first : (i : ℕ) → IsWithin (2 ^ 103) (slice_index_or m.to_first i None)
  pub from_first : (j : ℕ) → IsWithin (2 ^ 103) (slice_index_or m.from_first j None)
  pub to_second : (i : ℕ) → IsWithin (2 ^ 103) (slice_index_or m.to_second i None)
  pub from_second : (j : ℕ) → IsWithin (2 ^ 103) (slice_index_or m.from_second j None)

-- a bound from i to j when walks may go through both nodes of m's slot
abbrev pub via_both : Middle → ℕ → ℕ → Option ℤ → Option ℤ
via_both m i j bound = least (least bound (add_weight (slice_index_or m.to_first i None) (slice_index_or m.from_first j None)))
    (add_weight (slice_index_or m.to_second i None) (slice_index_or m.from_second j None))

-- the same, where a slot's two diagonal entries are taken from its even node
abbrev pub middle_entry : Middle → ℕ → ℕ → Option ℤ → Option ℤ
middle_entry m i j bound = cond (eqb i j) (via_both m (2 * (i / 2)) (2 * (i / 2)) bound) (via_both m i j bound)

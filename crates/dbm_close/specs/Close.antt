-- What closing answers: steps 1 to 6 in one definition.
use Rattle.std.specs.Prelude.{ℕ, ◌<◌, ◌+◌, ◌*◌, ◌^◌, ℤ, pos, negsuc, neg_ℤ, ◌≤ℤ◌, ◌<ℤ◌, Option, Some, Bool, List, length, slice_index_or, ◌⊎◌, false}
use Rattle.dbm_close.specs.declared.closed.Closed.{Closed}
use Rattle.dbm_close.specs.declared.closed.Closed.TheVariants.{Empty, Matrix}
use Rattle.dbm_close.specs.Steps.{cut, range_high, range_low, strengthened, tightened}
use Rattle.dbm_close.specs.Walks.{AreLeastWeights, HasNegativeWalk, HasNoNegativeWalk}
use Rattle.dbm_core.specs.Half.{HalfMatrix, HasEntries, entry, nodes}
use Rattle.dbm_core.specs.Nodes.{flip}
use Rattle.dbm_core.specs.Weights.{AtMost, add_weight}

-- the entries after steps 2 and 4
abbrev pub strong : (ℕ → ℕ → Option ℤ) → ℕ → ℕ → Option ℤ
strong s = strengthened (tightened s)

-- the entries after step 5
abbrev pub closed_entry : (ℕ → ℕ → Option ℤ) → ℕ → ℕ → Option ℤ
closed_entry s i j = cut (strong s i j)

-- step 3: the two bounds on a slot leave no number
abbrev pub IsContradictory : ℕ → (ℕ → ℕ → Option ℤ) → Type 0
IsContradictory n t = (i : ℕ) × ((i < n) × AtMost (add_weight (t i (flip i)) (t (flip i) i)) (Some (negsuc 0)))

-- those on each slot leave one
abbrev pub IsNotContradictory : ℕ → (ℕ → ℕ → Option ℤ) → Type 0
IsNotContradictory n t = (i : ℕ) → i < n → AtMost (Some (pos 0)) (add_weight (t i (flip i)) (t (flip i) i))

-- step 5: an entry is below -2^64
abbrev pub IsTooLow : ℕ → (ℕ → ℕ → Option ℤ) → Type 0
IsTooLow n u = (i j : ℕ) × ((i < n) × (j < n) × AtMost (u i j) (Some (negsuc (2 ^ 64))))

-- no entry is
abbrev pub IsNotTooLow : ℕ → (ℕ → ℕ → Option ℤ) → Type 0
IsNotTooLow n u = (i j : ℕ) → i < n → j < n → AtMost (Some (neg_ℤ (pos (2 ^ 64)))) (u i j)

-- step 6: the least value of slot k
abbrev pub slot_low : List Bool → (ℕ → ℕ → Option ℤ) → ℕ → ℤ
slot_low kinds r k = range_low (slice_index_or kinds k false) (r (2 * k) (2 * k + 1))

-- its greatest value
abbrev pub slot_high : List Bool → (ℕ → ℕ → Option ℤ) → ℕ → ℤ
slot_high kinds r k = range_high (slice_index_or kinds k false) (r (2 * k + 1) (2 * k))

-- a slot's range is empty
abbrev pub HasEmptyRange : List Bool → (ℕ → ℕ → Option ℤ) → Type 0
HasEmptyRange kinds r = (k : ℕ) × ((k < length kinds) × (slot_high kinds r k <ℤ slot_low kinds r k))

-- no slot's range is
abbrev pub HasNoEmptyRange : List Bool → (ℕ → ℕ → Option ℤ) → Type 0
HasNoEmptyRange kinds r = (k : ℕ) → k < length kinds → slot_low kinds r k ≤ℤ slot_high kinds r k

-- the least weights s of m's walks lead to Empty
pub record IsEmptiedBy (m : HalfMatrix) (s : ℕ → ℕ → Option ℤ) : Type 0 where
  pub weights : AreLeastWeights (entry m) (nodes m) s
  pub cause : IsContradictory (nodes m) (tightened s) ⊎ (IsTooLow (nodes m) (strong s) ⊎ HasEmptyRange m.kinds (closed_entry s))

-- the least weights s of m's walks lead to the matrix r
pub record IsClosedBy (m r : HalfMatrix) (s : ℕ → ℕ → Option ℤ) : Type 0 where
  pub sound : HasNoNegativeWalk (entry m) (nodes m)
  pub weights : AreLeastWeights (entry m) (nodes m) s
  pub consistent : IsNotContradictory (nodes m) (tightened s)
  pub in_range : IsNotTooLow (nodes m) (strong s)
  pub ranges : HasNoEmptyRange m.kinds (closed_entry s)
  pub entries : HasEntries m.kinds (closed_entry s) r

-- what closing m answers
abbrev pub IsCloseOf : HalfMatrix → Closed → Type 0
IsCloseOf m Empty = HasNegativeWalk (entry m) (nodes m) ⊎ ((s : ℕ → ℕ → Option ℤ) × IsEmptiedBy m s)
IsCloseOf m (Matrix r) = (s : ℕ → ℕ → Option ℤ) × IsClosedBy m r s

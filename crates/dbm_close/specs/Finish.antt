-- What steps 2 to 6 answer, over the least weights.
use Rattle.std.specs.Prelude.{◌≡◌, ℕ, ◌<◌, ◌*◌, ◌/◌, ◌^◌, ℤ, ◌≤ℤ◌, pos, neg_ℤ, Option, Some, Bool, List, length, ◌⊎◌}
use Rattle.dbm_close.specs.declared.closed.Closed.{Closed}
use Rattle.dbm_close.specs.declared.closed.Closed.TheVariants.{Empty, Matrix}
use Rattle.dbm_close.specs.Close.{HasEmptyRange, HasNoEmptyRange, IsContradictory, IsNotContradictory, IsNotTooLow, IsTooLow, closed_entry, slot_high, slot_low, strong}
use Rattle.dbm_close.specs.Steps.{half, tightened}
use Rattle.dbm_core.specs.Half.{HalfMatrix, HasEntries}
use Rattle.dbm_core.specs.Nodes.{IsOfSlot, flip}
use Rattle.dbm_core.specs.Weights.{AtMost, add_weight}

-- steps 2 to 6 lead from the weights f to the matrix r
pub record IsFinishedTo (kinds : List Bool) (f : ℕ → ℕ → Option ℤ) (r : HalfMatrix) : Type 0 where
  pub consistent : IsNotContradictory (2 * length kinds) (tightened f)
  pub in_range : IsNotTooLow (2 * length kinds) (strong f)
  pub ranges : HasNoEmptyRange kinds (closed_entry f)
  pub entries : HasEntries kinds (closed_entry f) r

-- what steps 2 to 6 answer
abbrev pub IsFinishOf : List Bool → (ℕ → ℕ → Option ℤ) → Closed → Type 0
IsFinishOf kinds f Empty = IsContradictory (2 * length kinds) (tightened f) ⊎ (IsTooLow (2 * length kinds) (strong f) ⊎ HasEmptyRange kinds (closed_entry f))
IsFinishOf kinds f (Matrix r) = IsFinishedTo kinds f r

-- steps 2 to 6 find nothing empty and change nothing but at slot q
pub record IsFinishedBut (q : ℕ) (kinds : List Bool) (f : ℕ → ℕ → Option ℤ) : Type 0 where
  pub consistent : (i : ℕ) → i < 2 * length kinds → (i / 2 ≡ q → ⊥) → AtMost (Some (pos 0)) (add_weight (half (f i (flip i))) (half (f (flip i) i)))
  pub entries : (i j : ℕ) → i < 2 * length kinds → j < 2 * length kinds → (IsOfSlot q i j → ⊥) → closed_entry f i j ≡ f i j
  pub in_range : (i j : ℕ) → i < 2 * length kinds → j < 2 * length kinds → (IsOfSlot q i j → ⊥) → AtMost (Some (neg_ℤ (pos (2 ^ 64)))) (strong f i j)
  pub ranges : (k : ℕ) → k < length kinds → (k ≡ q → ⊥) → slot_low kinds (closed_entry f) k ≤ℤ slot_high kinds (closed_entry f) k

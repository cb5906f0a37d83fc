-- Half matrices: of each pair of mirror images, (i, j) and (flip j, flip i), one entry is kept.
use Rattle.std.specs.Prelude.{◌≡◌, ℕ, ◌<◌, ◌≤◌, ◌+◌, ◌*◌, ◌/◌, ℤ, Option, None, Bool, cond, ltb, List, length, slice_index_or}
use Rattle.std.proofs.Common.{suc, zero}
use Rattle.dbm_core.specs.Nodes.{flip}

-- row i keeps the columns up to the last node of i's own slot
abbrev pub row_width : ℕ → ℕ
row_width i = 2 * (i / 2) + 2

-- where row i starts
abbrev pub row_start : ℕ → ℕ
row_start zero = 0
row_start (suc i) = row_start i + row_width i

-- the slots' kinds (true: an array's length) and the kept entries, row by row
pub record HalfMatrix : Type 0 where
  pub kinds : List Bool
  pub kept : List (Option ℤ)

-- how many nodes the matrix has: two for each slot
abbrev pub nodes : HalfMatrix → ℕ
nodes m = 2 * length m.kinds

-- the entry of every pair: the kept one, or the kept mirror image
unfoldable pub entry : HalfMatrix → ℕ → ℕ → Option ℤ
entry m i j = cond (ltb j (row_width i))
    (slice_index_or m.kept (row_start i + j) None)
    (slice_index_or m.kept (row_start (flip j) + flip i) None)

-- what is true of every matrix
pub record IsMatrix (m : HalfMatrix) : Type 0 where
  pub few : length m.kinds ≤ 16
  pub fits : length m.kept ≡ 2 * (length m.kinds * (length m.kinds + 1))
  pub diagonal : (h : ℕ) → h < length m.kinds → entry m (2 * h) (2 * h) ≡ entry m (2 * h + 1) (2 * h + 1)

-- m has these kinds, and f's value at every pair
pub record HasEntries (kinds : List Bool) (f : ℕ → ℕ → Option ℤ) (m : HalfMatrix) : Type 0 where
  pub matrix : IsMatrix m
  pub same_kinds : m.kinds ≡ kinds
  pub entries : (i j : ℕ) → i < 2 * length kinds → j < 2 * length kinds → entry m i j ≡ f i j

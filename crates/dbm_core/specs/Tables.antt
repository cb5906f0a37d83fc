-- The matrix of a table of entries.
use Rattle.std.specs.Prelude.{◌≡◌, ℕ, ◌≤◌, ◌*◌, ℤ, Option, Bool, List, [], ◌∷◌, ◌++◌, length}
use Rattle.std.proofs.Common.{suc, zero}
use Rattle.dbm_core.specs.Half.{HalfMatrix, HasEntries, row_width}
use Rattle.dbm_core.specs.Nodes.{IsCoherent}

-- after these, the values of g at the numbers below n
abbrev pub then_row : List (Option ℤ) → (ℕ → Option ℤ) → ℕ → List (Option ℤ)
then_row front g zero = front
then_row front g (suc n) = then_row front g n ++ (g n ∷ [])

-- f at the kept pairs of the rows below n, row by row
abbrev pub rows : (ℕ → ℕ → Option ℤ) → ℕ → List (Option ℤ)
rows f zero = []
rows f (suc n) = then_row (rows f n) (f n) (row_width n)

-- the matrix with these kinds and f's value at each kept pair
unfoldable pub matrix_of : List Bool → (ℕ → ℕ → Option ℤ) → HalfMatrix
matrix_of kinds f = record { kinds = kinds; kept = rows f (2 * length kinds) }

-- where f is coherent, that matrix has its value at every pair
abbrev pub TablesHaveEntries : Type 0
TablesHaveEntries = (kinds : List Bool) (f : ℕ → ℕ → Option ℤ) → length kinds ≤ 16 → IsCoherent f (2 * length kinds) → HasEntries kinds f (matrix_of kinds f)

-- and no other matrix has
abbrev pub TablesDetermine : Type 0
TablesDetermine = (kinds : List Bool) (f : ℕ → ℕ → Option ℤ) (m : HalfMatrix) → length kinds ≤ 16 → IsCoherent f (2 * length kinds) → HasEntries kinds f m → m ≡ matrix_of kinds f

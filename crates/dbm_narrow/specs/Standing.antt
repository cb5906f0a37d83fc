-- A slot that stands for a node of another slot plus a number, in narrow entries.
use Rattle.std.specs.Prelude.{◌≡◌, ℕ, ◌<◌, ◌+◌, ◌*◌, ℤ, ◌+ℤ◌, Option, Some, None, Bool, cond, eqb, List, length}
use Rattle.dbm_close.specs.declared.closed.Closed.TheVariants as wide
use Rattle.dbm_core.specs.Half.{HalfMatrix, HasEntries, entry, row_width}
use Rattle.dbm_core.specs.Nodes.{flip}
use Rattle.dbm_incremental.specs.ClosedMatrices.{IsClosed}
use Rattle.dbm_incremental.specs.Equations.{ClosesEquated, stood_entry}
use Rattle.dbm_narrow.specs.declared.closing.ClosingResult.{ClosingResult}
use Rattle.dbm_narrow.specs.declared.closing.ClosingResult.TheVariants.{Closed, Empty, TooWide}
use Rattle.dbm_narrow.specs.Entries.{AreEntries, IsEntry, at, held, settle}
use Rattle.dbm_narrow.specs.Rounds.{IsNarrow}

-- the row of one of slot q's nodes, from the row of the node that it stands for: what is added at each column
abbrev pub stood_at : ℕ → List ℤ → ℕ → ℕ → ℤ → ℤ → ℤ → ℕ → ℤ
stood_at h row q y first second others j =
    cond (eqb j (2 * q)) (settle h (first +ℤ at h row y)) (cond (eqb j (2 * q + 1)) (settle h (second +ℤ at h row (flip y))) (settle h (others +ℤ at h row j)))

-- that row lies within three times what the other row, and half of each step, do
abbrev pub StoodFits : ℕ → List ℤ → ℤ → ℤ → ℤ → List ℤ → Type 0
StoodFits h row first second others ys = (b : ℕ) → 3 * b < 16 * h → AreEntries h b row → IsEntry h (2 * b) first → IsEntry h (2 * b) second → IsEntry h (2 * b) others → AreEntries h (3 * b) ys

-- an entry where the rows of slot q's nodes, and so its columns, are these
abbrev pub replaced : ℕ → ℕ → List ℤ → List ℤ → ℕ → ℕ → ℤ → ℤ
replaced h q first second i j x =
    cond (eqb i (2 * q)) (at h first j) (cond (eqb i (2 * q + 1)) (at h second j) (cond (eqb j (2 * q)) (at h second (flip i)) (cond (eqb j (2 * q + 1)) (at h first (flip i)) x)))

-- slot q stands for node y plus c
pub record StandsTo (h : ℕ) (kinds : List Bool) (xs ys : List ℤ) (q y : ℕ) (c : ℤ) : Type 0 where
  pub entries : AreEntries h (2 * h) ys
  pub stood : (i j : ℕ) → i < 2 * length kinds → j < row_width i → entry (held h kinds ys) i j ≡ stood_entry (entry (held h kinds xs)) q y c i j

-- ys are the closed entries of the matrix of xs with the equation
pub record EquatesClosed (h : ℕ) (kinds : List Bool) (xs ys : List ℤ) (q y : ℕ) (c : ℤ) : Type 0 where
  pub narrow : IsNarrow h kinds ys
  pub closes : ClosesEquated (held h kinds xs) q y c (wide.Matrix (held h kinds ys))
  pub closed : IsClosed (held h kinds ys)

abbrev pub IsEquatedOutcome : ℕ → List Bool → List ℤ → List ℤ → ℕ → ℕ → ℤ → ClosingResult → Type 0
IsEquatedOutcome h kinds xs ys q y c Closed = EquatesClosed h kinds xs ys q y c
IsEquatedOutcome h kinds xs ys q y c Empty = ClosesEquated (held h kinds xs) q y c wide.Empty
IsEquatedOutcome h kinds xs ys q y c TooWide = Unit {0}

-- m with slot q standing for node y plus c, where it fits
abbrev pub StandsIf : HalfMatrix → ℕ → ℕ → ℤ → Option HalfMatrix → Type 0
StandsIf m q y c None = Unit {0}
StandsIf m q y c (Some n) = HasEntries m.kinds (stood_entry (entry m) q y c) n

-- Bounds added to narrow entries that are the least weights of their own walks.
use Rattle.std.specs.Prelude.{ℕ, ℤ, ◌*◌, Bool, List, length}
use Rattle.dbm_close.specs.declared.closed.Closed.TheVariants as wide
use Rattle.dbm_close.specs.Walks.{HasNegativeWalk}
use Rattle.dbm_core.specs.Half.{entry}
use Rattle.dbm_incremental.specs.ClosedMatrices.{IsClosed}
use Rattle.dbm_incremental.specs.declared.bounds.Bound.{Bound}
use Rattle.dbm_incremental.specs.Steps.{ClosesAllLowered, lowered_all}
use Rattle.dbm_incremental.specs.Triangles.{AreSoundWeights}
use Rattle.dbm_narrow.specs.declared.closing.ClosingResult.{ClosingResult}
use Rattle.dbm_narrow.specs.declared.closing.ClosingResult.TheVariants.{Closed, Empty, TooWide as OutcomeTooWide}
use Rattle.dbm_narrow.specs.declared.walks.Walks.{Walks}
use Rattle.dbm_narrow.specs.declared.walks.Walks.TheVariants.{Done, Negative, TooWide}
use Rattle.dbm_narrow.specs.Entries.{held}
use Rattle.dbm_narrow.specs.Rounds.{IsNarrow}

-- ys are the least weights of the matrix of xs with the bounds lowered
pub record AllLowered (h : ℕ) (kinds : List Bool) (xs ys : List ℤ) (bs : List Bound) : Type 0 where
  pub narrow : IsNarrow h kinds ys
  pub weights : AreSoundWeights (lowered_all (entry (held h kinds xs)) bs) (2 * length kinds) (entry (held h kinds ys))

-- what lowering them all answers, of the entries before and after
abbrev pub AreLowered : ℕ → List Bool → List ℤ → List ℤ → List Bound → Walks → Type 0
AreLowered h kinds xs ys bs Done = AllLowered h kinds xs ys bs
AreLowered h kinds xs ys bs Negative = HasNegativeWalk (lowered_all (entry (held h kinds xs)) bs) (2 * length kinds)
AreLowered h kinds xs ys bs TooWide = Unit {0}

-- ys are the closed entries of that matrix
pub record LowersClosed (h : ℕ) (kinds : List Bool) (xs ys : List ℤ) (bs : List Bound) : Type 0 where
  pub narrow : IsNarrow h kinds ys
  pub closes : ClosesAllLowered (held h kinds xs) bs (wide.Matrix (held h kinds ys))
  pub closed : IsClosed (held h kinds ys)

-- what closing it answers
abbrev pub IsLoweredOutcome : ℕ → List Bool → List ℤ → List ℤ → List Bound → ClosingResult → Type 0
IsLoweredOutcome h kinds xs ys bs Closed = LowersClosed h kinds xs ys bs
IsLoweredOutcome h kinds xs ys bs Empty = ClosesAllLowered (held h kinds xs) bs wide.Empty
IsLoweredOutcome h kinds xs ys bs OutcomeTooWide = Unit {0}

-- What closing narrow entries answers.
use Rattle.std.specs.Prelude.{ℕ, ◌*◌, ◌≡◌, ℤ, Bool, true, List}
use Rattle.dbm_close.specs.CloseOf.{close_of}
use Rattle.dbm_close.specs.declared.closed.Closed.TheVariants as wide
use Rattle.dbm_close.specs.Finish.{IsFinishOf}
use Rattle.dbm_core.specs.Half.{entry}
use Rattle.dbm_narrow.specs.declared.closing.ClosingResult.{ClosingResult}
use Rattle.dbm_narrow.specs.declared.closing.ClosingResult.TheVariants.{Closed, Empty, TooWide}
use Rattle.dbm_narrow.specs.Entries.{AreEntries, held}
use Rattle.dbm_narrow.specs.Rounds.{IsNarrow}

-- steps 2 to 6 lead from the weights xs to the closed entries ys
pub record FinishesTo (h : ℕ) (kinds : List Bool) (xs ys : List ℤ) : Type 0 where
  pub finish : IsFinishOf kinds (entry (held h kinds xs)) (wide.Matrix (held h kinds ys))
  pub entries : AreEntries h (2 * h) ys

-- they lead to nothing
abbrev pub FinishesEmpty : ℕ → List Bool → List ℤ → Type 0
FinishesEmpty h kinds xs = IsFinishOf kinds (entry (held h kinds xs)) wide.Empty

-- what closing answers, of the entries before and after
abbrev pub IsOutcome : ℕ → List Bool → List ℤ → List ℤ → ClosingResult → Type 0
IsOutcome h kinds xs ys Closed = (close_of (held h kinds xs) ≡ wide.Matrix (held h kinds ys)) × IsNarrow h kinds ys
IsOutcome h kinds xs ys Empty = close_of (held h kinds xs) ≡ wide.Empty
IsOutcome h kinds xs ys TooWide = Unit {0}

-- a bound leaves the limits of a width that is checked alone
abbrev pub OutcomeLeavesIf : Bool → ClosingResult → Type 0
OutcomeLeavesIf checked Closed = Unit {0}
OutcomeLeavesIf checked Empty = Unit {0}
OutcomeLeavesIf checked TooWide = checked ≡ true

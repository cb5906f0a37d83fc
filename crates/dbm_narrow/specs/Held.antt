-- What the matrix of narrow entries is known to be.
use Rattle.std.specs.Prelude.{◌≡◌, ◌⊎◌, ℕ, ◌*◌, ℤ, ◌≤ℤ◌, Option, Some, Bool, true, MatchOption, List, length, map}
use Rattle.std.specs.Bool.{MatchBool}
use Rattle.dbm_close.specs.Close.{HasEmptyRange, HasNoEmptyRange}
use Rattle.dbm_close.specs.Halves.{HasHalves, HasNegativeHalves, HasNoNegativeHalves}
use Rattle.dbm_close.specs.Laws.{AreInSlots}
use Rattle.dbm_close.specs.Rounds.{HasMiddle, IsDiagonalNegative, IsDiagonalSound}
use Rattle.dbm_core.specs.Half.{HalfMatrix, HasEntries, entry, nodes}
use Rattle.dbm_core.specs.Limits.{AreWithin, IsWithin, IsZeroAtMost}
use Rattle.dbm_core.specs.Operations.{forgotten}
use Rattle.dbm_core.specs.Valuations.{IsSatisfiedBy}
use Rattle.dbm_narrow.specs.Closings.{FinishesEmpty, FinishesTo}
use Rattle.dbm_narrow.specs.declared.closing.ClosingResult.{ClosingResult}
use Rattle.dbm_narrow.specs.declared.closing.ClosingResult.TheVariants.{Closed, Empty, TooWide}
use Rattle.dbm_narrow.specs.declared.middle.Middle.{Middle}
use Rattle.dbm_narrow.specs.Entries.{IsEntry, held, wide}
use Rattle.dbm_narrow.specs.Middles.{wide_middle}
use Rattle.dbm_narrow.specs.Rounds.{HasLowEntry, HasNoLowEntry}

-- its diagonal is 0 or less
abbrev pub HasLowDiagonal : ℕ → List Bool → List ℤ → Type 0
HasLowDiagonal h kinds xs = IsZeroAtMost (nodes (held h kinds xs)) (entry (held h kinds xs))

-- whether an entry of the diagonal is below 0
abbrev pub TellsDiagonal : ℕ → List Bool → List ℤ → Bool → Type 0
TellsDiagonal h kinds xs b = MatchBool b (IsDiagonalNegative (nodes (held h kinds xs)) (entry (held h kinds xs))) (IsDiagonalSound (nodes (held h kinds xs)) (entry (held h kinds xs)))

-- whether a slot's range is empty
abbrev pub TellsRanges : ℕ → List Bool → List ℤ → Bool → Type 0
TellsRanges h kinds xs b = MatchBool b (HasEmptyRange kinds (entry (held h kinds xs))) (HasNoEmptyRange kinds (entry (held h kinds xs)))

-- whether two halves of a slot are below 0 together
abbrev pub TellsHalves : ℕ → ℕ → List ℤ → Bool → Type 0
TellsHalves h n hs b = MatchBool b (HasNegativeHalves n (map (wide h) hs)) (HasNoNegativeHalves n (map (wide h) hs))

-- what steps 2 to 6 answer
abbrev pub TellsFinish : ℕ → List Bool → List ℤ → List ℤ → ClosingResult → Type 0
TellsFinish h kinds xs ys Closed = FinishesTo h kinds xs ys
TellsFinish h kinds xs ys Empty = FinishesEmpty h kinds xs
TellsFinish h kinds xs ys TooWide = ⊥

-- what step 6 answers, and step 5 of entries below its limit, of those that it has cut
abbrev pub TellsLast : ℕ → List Bool → List ℤ → ClosingResult → Type 0
TellsLast h kinds xs Closed = HasNoLowEntry h xs × HasNoEmptyRange kinds (entry (held h kinds xs))
TellsLast h kinds xs Empty = HasLowEntry h xs ⊎ HasEmptyRange kinds (entry (held h kinds xs))
TellsLast h kinds xs TooWide = ⊥

-- hs has half of each node's own bound
abbrev pub HoldsHalves : ℕ → List Bool → List ℤ → List ℤ → Type 0
HoldsHalves h kinds xs hs = HasHalves (2 * length kinds) (entry (held h kinds xs)) (map (wide h) hs)

-- m has the bounds to and from both nodes of slot q
abbrev pub HoldsMiddle : {W : Type 0} → ℕ → List Bool → List ℤ → ℕ → Middle W → Type 0
HoldsMiddle h kinds xs q m = HasMiddle (2 * length kinds) (entry (held h kinds xs)) q (wide_middle h m)

-- whether a bound lies within the limits
abbrev pub TellsWithin : ℕ → Option ℤ → Bool → Type 0
TellsWithin h bound b = MatchBool b (IsWithin (2 * h) bound) (IsWithin (2 * h) bound → ⊥)

-- there is none only where the width is checked
abbrev pub IsNoneIf : {A : Type 0} → Bool → Option A → Type 0
IsNoneIf checked o = MatchOption o (checked ≡ true) (λ x. Unit {0})

-- the bound as an entry, none where it lies outside the limits
abbrev pub IsSmallOf : ℕ → ℤ → Option ℤ → Type 0
IsSmallOf h bound o = MatchOption o (IsWithin (2 * h) (Some bound) → ⊥) (λ x. (x ≡ bound) × IsWithin (2 * h) (Some x))

-- the entry of a bound, none where it lies outside the limits
abbrev pub IsEntryOf : ℕ → Option ℤ → Option ℤ → Type 0
IsEntryOf h bound o = MatchOption o (IsWithin (2 * h) bound → ⊥) (λ x. (wide h x ≡ bound) × IsEntry h (2 * h) x)

-- the same matrix, none where a bound lies outside the limits
abbrev pub IsNarrowOf : ℕ → HalfMatrix → Option HalfMatrix → Type 0
IsNarrowOf h m o = MatchOption o (AreWithin (nodes m) (2 * h) (entry m) → ⊥) (λ n. n ≡ m)

-- the values of slot k, of whatever satisfies m, lie from low to high
abbrev pub HoldsValues : HalfMatrix → ℕ → ℤ → ℤ → Type 0
HoldsValues m k low high = (x : ℕ → ℤ) → AreInSlots m.kinds x → IsSatisfiedBy m x → (low ≤ℤ x k) × (x k ≤ℤ high)

-- n has the bounds of m without those on slot k
abbrev pub Forgets : HalfMatrix → ℕ → HalfMatrix → Type 0
Forgets m k n = HasEntries m.kinds (forgotten (entry m) k) n

-- What a round and all rounds make of narrow entries.
use Rattle.std.specs.Prelude.{◌≡◌, ℕ, ◌<◌, ◌*◌, ◌^◌, ℤ, pos, neg_ℤ, ◌≤ℤ◌, ◌<ℤ◌, Bool, true, List, length}
use Rattle.dbm_close.specs.Rounds.{HasLeastWeights, IsSlotNegative, IsSlotSound, rounded}
use Rattle.dbm_close.specs.Walks.{HasNegativeWalk}
use Rattle.dbm_core.specs.Half.{IsMatrix, entry, nodes, row_width}
use Rattle.dbm_narrow.specs.declared.walks.Walks.{Walks}
use Rattle.dbm_narrow.specs.declared.walks.Walks.TheVariants.{Done, Negative, TooWide}
use Rattle.dbm_narrow.specs.Entries.{AreEntries, at, held}
use Rattle.dbm_narrow.specs.Widths.{cut_number}

-- a matrix of narrow entries
pub record IsNarrow (h : ℕ) (kinds : List Bool) (xs : List ℤ) : Type 0 where
  pub matrix : IsMatrix (held h kinds xs)
  pub entries : AreEntries h (2 * h) xs

-- ys are xs as step 5 of closing leaves them
pub record AreCut (h : ℕ) (xs ys : List ℤ) : Type 0 where
  pub size : length ys ≡ length xs
  pub cut : (k : ℕ) → at h ys k ≡ cut_number h (at h xs k)

-- one is below -2^64
abbrev pub HasLowEntry : ℕ → List ℤ → Type 0
HasLowEntry h xs = (k : ℕ) × ((k < length xs) × (at h xs k <ℤ neg_ℤ (pos (2 ^ 64))))

-- none is
abbrev pub HasNoLowEntry : ℕ → List ℤ → Type 0
HasNoLowEntry h xs = (k : ℕ) → k < length xs → neg_ℤ (pos (2 ^ 64)) ≤ℤ at h xs k

-- walks may go through slot q, whose closed walks are 0 or more
pub record RoundsTo (h : ℕ) (kinds : List Bool) (q : ℕ) (xs ys : List ℤ) : Type 0 where
  pub sound : IsSlotSound (entry (held h kinds xs)) q
  pub kept : (i j : ℕ) → i < 2 * length kinds → j < row_width i → entry (held h kinds ys) i j ≡ rounded (entry (held h kinds xs)) q i j
  pub entries : AreEntries h (2 * h) ys

-- what one round answers, of the entries before and after
abbrev pub IsRound : ℕ → List Bool → ℕ → List ℤ → List ℤ → Walks → Type 0
IsRound h kinds q xs ys Done = RoundsTo h kinds q xs ys
IsRound h kinds q xs ys Negative = IsSlotNegative (entry (held h kinds xs)) q
IsRound h kinds q xs ys TooWide = Unit {0}

-- a bound leaves the limits of a width that is checked alone
abbrev pub LeavesIf : Bool → Walks → Type 0
LeavesIf checked Done = Unit {0}
LeavesIf checked Negative = Unit {0}
LeavesIf checked TooWide = checked ≡ true

-- what all rounds answer
abbrev pub AreRounds : ℕ → List Bool → List ℤ → List ℤ → Walks → Type 0
AreRounds h kinds xs ys Done = HasLeastWeights (held h kinds xs) (held h kinds ys) × AreEntries h (2 * h) ys
AreRounds h kinds xs ys Negative = HasNegativeWalk (entry (held h kinds xs)) (nodes (held h kinds xs))
AreRounds h kinds xs ys TooWide = Unit {0}

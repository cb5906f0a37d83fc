-- A bound lowered in narrow entries that are the least weights of their own walks.
use Rattle.std.specs.Prelude.{◌≡◌, ℕ, ◌<◌, ◌≤◌, ◌*◌, ℤ, ◌+ℤ◌, Option, Bool, List, length}
use Rattle.std.specs.Int.{int_min}
use Rattle.dbm_close.specs.Walks.{HasNegativeWalk}
use Rattle.dbm_core.specs.Half.{entry}
use Rattle.dbm_core.specs.Limits.{HasZeroDiagonal}
use Rattle.dbm_core.specs.Nodes.{IsCoherent, flip}
use Rattle.dbm_core.specs.Operations.{lowered}
use Rattle.dbm_incremental.specs.Triangles.{AreSoundWeights, IsTriangular}
use Rattle.dbm_narrow.specs.declared.middle.Middle.{Middle}
use Rattle.dbm_narrow.specs.declared.walks.Walks.{Walks}
use Rattle.dbm_narrow.specs.declared.walks.Walks.TheVariants.{Done, Negative, TooWide}
use Rattle.dbm_narrow.specs.Entries.{AreEntries, at, held, pair_at, settle}
use Rattle.dbm_narrow.specs.Rounds.{IsNarrow}
use Rattle.dbm_narrow.specs.Widths.{IsBound}

-- m has the entries to and from the edge from i to j, which weighs c, and those to and from its mirror image
pub record AreEnds {W : Type 0} (h : ℕ) (n : ℕ) (xs : List ℤ) (i j : ℕ) (c : ℤ) (m : Middle W) : Type 0 where
  pub from_first : (x : ℕ) → x < n → at h m.from_first x ≡ settle h (c +ℤ pair_at h xs j x)
  pub to_first : (x : ℕ) → x < n → at h m.to_first x ≡ pair_at h xs (flip i) (flip x)
  pub to_second : (x : ℕ) → x < n → at h m.to_second x ≡ int_min (pair_at h xs j (flip x)) (settle h (at h m.from_first (flip j) +ℤ at h m.to_first x))
  pub from_second : (x : ℕ) → x < n → at h m.from_second x ≡ settle h (c +ℤ int_min (pair_at h xs (flip i) x) (settle h (pair_at h xs (flip i) i +ℤ at h m.from_first x)))

-- the entries obey the triangle law, and the diagonal is 0
pub record HasOwnWeights (h : ℕ) (kinds : List Bool) (xs : List ℤ) : Type 0 where
  pub diagonal : HasZeroDiagonal (2 * length kinds) (entry (held h kinds xs))
  pub triangles : IsTriangular (2 * length kinds) (entry (held h kinds xs))

-- ys are the least weights, with the bound lowered, of any matrix of which xs are
pub record LowersTo (h : ℕ) (kinds : List Bool) (xs ys : List ℤ) (i j : ℕ) (c : ℤ) : Type 0 where
  pub narrow : IsNarrow h kinds ys
  pub own : HasOwnWeights h kinds ys
  pub weights : (w : ℕ → ℕ → Option ℤ) → IsCoherent w (2 * length kinds) → AreSoundWeights w (2 * length kinds) (entry (held h kinds xs)) →
      AreSoundWeights (lowered w i j c) (2 * length kinds) (entry (held h kinds ys))

-- any such matrix has a closed walk below 0 once the bound is lowered
abbrev pub LowersNegative : ℕ → List Bool → List ℤ → ℕ → ℕ → ℤ → Type 0
LowersNegative h kinds xs i j c = (w : ℕ → ℕ → Option ℤ) → IsCoherent w (2 * length kinds) → AreSoundWeights w (2 * length kinds) (entry (held h kinds xs)) → HasNegativeWalk (lowered w i j c) (2 * length kinds)

-- the entries and a bound lie within b, and what lowering makes of these within the limits
pub record HasRoomFor (h : ℕ) (b : ℕ) (xs : List ℤ) (c : ℤ) : Type 0 where
  pub fits : 7 * b ≤ 2 * h
  pub entries : AreEntries h b xs
  pub bound : IsBound b c

-- what lowering leaves lies within b
abbrev pub StaysWithin : ℕ → ℕ → List ℤ → Walks → Type 0
StaysWithin h b ys Done = AreEntries h b ys
StaysWithin h b ys Negative = Unit {0}
StaysWithin h b ys TooWide = Unit {0}

-- what lowering answers, of the entries before and after
abbrev pub IsLowering : ℕ → List Bool → List ℤ → List ℤ → ℕ → ℕ → ℤ → Walks → Type 0
IsLowering h kinds xs ys i j c Done = LowersTo h kinds xs ys i j c
IsLowering h kinds xs ys i j c Negative = LowersNegative h kinds xs i j c
IsLowering h kinds xs ys i j c TooWide = Unit {0}

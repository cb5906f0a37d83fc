-- Closed matrices, of which closing gives the same again.
use Rattle.std.specs.Prelude.{◌≡◌, ℕ, ◌<◌, ℤ, Option}
use Rattle.dbm_close.specs.Close.{HasNoEmptyRange, IsNotTooLow}
use Rattle.dbm_close.specs.Steps.{cut, even_down, half}
use Rattle.dbm_core.specs.Half.{HalfMatrix, IsMatrix, entry, nodes}
use Rattle.dbm_core.specs.Limits.{HasZeroDiagonal}
use Rattle.dbm_core.specs.Nodes.{IsCoherent, IsOfSlot, flip}
use Rattle.dbm_core.specs.Weights.{AtMost, add_weight}
use Rattle.dbm_incremental.specs.Triangles.{IsTriangular}

-- what steps 1 to 4 leave as it is
pub record IsStrong (n : ℕ) (u : ℕ → ℕ → Option ℤ) : Type 0 where
  pub coherent : IsCoherent u n
  pub diagonal : HasZeroDiagonal n u
  pub triangles : IsTriangular n u
  pub evens : (i : ℕ) → i < n → even_down (u i (flip i)) ≡ u i (flip i)
  pub halves : (i j : ℕ) → i < n → j < n → AtMost (u i j) (half (add_weight (u i (flip i)) (u (flip j) j)))

-- m has u's entries, except those of 2^64 or more
pub record IsClosedFrom (m : HalfMatrix) (u : ℕ → ℕ → Option ℤ) : Type 0 where
  pub matrix : IsMatrix m
  pub strong : IsStrong (nodes m) u
  pub in_range : IsNotTooLow (nodes m) u
  pub ranges : HasNoEmptyRange m.kinds (entry m)
  pub entries : (i j : ℕ) → i < nodes m → j < nodes m → entry m i j ≡ cut (u i j)

-- m is closed
abbrev pub IsClosed : HalfMatrix → Type 0
IsClosed m = (u : ℕ → ℕ → Option ℤ) × IsClosedFrom m u

-- the entries obey the triangle law: none was cut that a walk still needs
abbrev pub IsWhole : HalfMatrix → Type 0
IsWhole m = IsTriangular (nodes m) (entry m)

-- t has the bounds of m except those on slot q
abbrev pub AgreesBut : ℕ → HalfMatrix → HalfMatrix → Type 0
AgreesBut q m t = (i j : ℕ) → i < nodes m → j < nodes m → (IsOfSlot q i j → ⊥) → entry t i j ≡ entry m i j

-- What widening makes of narrow entries.
use Rattle.std.specs.Prelude.{◌*◌, ◌≡◌, ℕ, ◌<◌, ◌+◌, ℤ, Option, Some, None, Bool, true, MatchOption, List, length}
use Rattle.dbm_core.specs.Half.{HalfMatrix, HasEntries, row_start, row_width}
use Rattle.dbm_core.specs.Nodes.{is_single}
use Rattle.dbm_core.specs.Operations.{widen_bound, widened}
use Rattle.dbm_narrow.specs.Entries.{IsEntry, at, wide}

-- z is the entry x widened by y
pub record IsWidened (h : ℕ) (thresholds : List ℤ) (doubled : Bool) (x y z : ℤ) : Type 0 where
  pub bound : wide h z ≡ widen_bound thresholds doubled (wide h x) (wide h y)
  pub entry : IsEntry h (2 * h) z

-- the widened entry, where it fits
abbrev pub IsWidenedIf : ℕ → List ℤ → Bool → ℤ → ℤ → Option ℤ → Type 0
IsWidenedIf h thresholds doubled x y o = MatchOption o (Unit {0}) (IsWidened h thresholds doubled x y)

-- the entry of the threshold that a bound goes to, where it fits
abbrev pub IsThresholdEntry : ℕ → Option ℤ → Option ℤ → Type 0
IsThresholdEntry h bound o = MatchOption o (Unit {0}) (λ x. (wide h x ≡ bound) × IsEntry h (2 * h) x)

-- each entry of row i, xs, is widened by ys to zs
abbrev pub EachWidens : ℕ → List ℤ → ℕ → List ℤ → List ℤ → List ℤ → Type 0
EachWidens h thresholds i xs ys zs = (j : ℕ) → j < length xs → IsWidened h thresholds (is_single i j) (at h xs j) (at h ys j) (at h zs j)

-- the same of row i among all entries
abbrev pub RowWidens : ℕ → List ℤ → ℕ → List ℤ → List ℤ → List ℤ → Type 0
RowWidens h thresholds i xs ys zs = (j : ℕ) → j < row_width i → IsWidened h thresholds (is_single i j) (at h xs (row_start i + j)) (at h ys (row_start i + j)) (at h zs (row_start i + j))

-- that where the answer is true
abbrev pub RowWidensOn : ℕ → Bool → List ℤ → ℕ → List ℤ → List ℤ → List ℤ → Type 0
RowWidensOn h answer thresholds i xs ys zs = answer ≡ true → RowWidens h thresholds i xs ys zs

-- the same of the n first rows
abbrev pub Widens : ℕ → List ℤ → ℕ → List ℤ → List ℤ → List ℤ → Type 0
Widens h thresholds n xs ys zs = (i j : ℕ) → i < n → j < row_width i → IsWidened h thresholds (is_single i j) (at h xs (row_start i + j)) (at h ys (row_start i + j)) (at h zs (row_start i + j))

-- that of all rows, where the answer is true
abbrev pub WidensOn : ℕ → Bool → List ℤ → ℕ → List ℤ → List ℤ → List ℤ → Type 0
WidensOn h answer thresholds slots xs ys zs = answer ≡ true → Widens h thresholds (2 * slots) xs ys zs

-- the matrix a widened by b, where it fits
abbrev pub WidensIf : List ℤ → HalfMatrix → HalfMatrix → Option HalfMatrix → Type 0
WidensIf thresholds a b None = Unit {0}
WidensIf thresholds a b (Some r) = HasEntries a.kinds (widened thresholds a b) r

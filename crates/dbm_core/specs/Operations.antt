-- What the operations on matrices give at each pair.
use Rattle.std.specs.Prelude.{◌≡◌, ℕ, ◌+◌, ℤ, Option, Some, None, Bool, cond, eqb, ltb, ◌&&◌, ◌||◌, ◌⊎◌, List, slice_index_or, slice_set, pos, ◌+ℤ◌, ◌≤ℤ◌, ◌<ℤ◌, ◌/◌, int_lt, [], ◌∷◌}
use Rattle.dbm_core.specs.Half.{HalfMatrix, entry, row_start, row_width}
use Rattle.dbm_core.specs.Nodes.{flip, is_single}
use Rattle.dbm_core.specs.Weights.{greatest, least}

-- no bounds: 0 on the diagonal
abbrev pub unbounded : ℕ → ℕ → Option ℤ
unbounded i j = cond (eqb i j) (Some (pos 0)) None

-- the join: the greater bound at each pair
abbrev pub joined : HalfMatrix → HalfMatrix → ℕ → ℕ → Option ℤ
joined a b i j = greatest (entry a i j) (entry b i j)

-- the bounds on slot k dropped, except the diagonal
abbrev pub forgotten : (ℕ → ℕ → Option ℤ) → ℕ → ℕ → ℕ → Option ℤ
forgotten d k i j = cond (eqb i j) (d i j) (cond (eqb (i / 2) k || eqb (j / 2) k) None (d i j))

-- ---- a bound lowered

-- whether (a, b) is the pair (i, j) or its mirror image
abbrev pub is_pair : ℕ → ℕ → ℕ → ℕ → Bool
is_pair i j a b = (eqb a i && eqb b j) || (eqb a (flip j) && eqb b (flip i))

-- the bound of the pair and of its mirror image made x at most
unfoldable pub lowered : (ℕ → ℕ → Option ℤ) → ℕ → ℕ → ℤ → ℕ → ℕ → Option ℤ
lowered d i j x a b = cond (is_pair i j a b) (least (d a b) (Some x)) (d a b)

-- the kept entry at a place made x at most
abbrev pub lower_at : List (Option ℤ) → ℕ → ℤ → List (Option ℤ)
lower_at kept p x = slice_set kept p (least (slice_index_or kept p None) (Some x))

-- the same at a pair, where it is kept
abbrev pub lower_pair : List (Option ℤ) → ℕ → ℕ → ℤ → List (Option ℤ)
lower_pair kept i j x = cond (ltb j (row_width i)) (lower_at kept (row_start i + j) x) kept

-- ---- the widening

-- a threshold, or its double
abbrev pub threshold_value : Bool → ℤ → ℤ
threshold_value doubled m = cond doubled (m +ℤ m) m

-- the least of the thresholds' values that is not less than the bound; none where all are less
abbrev pub next_threshold : List ℤ → Bool → ℤ → Option ℤ
next_threshold [] doubled bound = None
next_threshold (m ∷ ms) doubled bound = cond (int_lt (threshold_value doubled m) bound) (next_threshold ms doubled bound)
    (least (Some (threshold_value doubled m)) (next_threshold ms doubled bound))

-- a bound widened: it stays where the new one is not greater, else goes to the next threshold
abbrev pub widen_bound : List ℤ → Bool → Option ℤ → Option ℤ → Option ℤ
widen_bound thresholds doubled None new = None
widen_bound thresholds doubled (Some old) None = None
widen_bound thresholds doubled (Some old) (Some new) = cond (int_lt old new) (next_threshold thresholds doubled new) (Some old)

-- the widening of a by b: at a pair (i, i'), whose bound is on twice a value, the thresholds are doubled
abbrev pub widened : List ℤ → HalfMatrix → HalfMatrix → ℕ → ℕ → Option ℤ
widened thresholds a b i j = widen_bound thresholds (is_single i j) (entry a i j) (entry b i j)

-- m is one of the thresholds
abbrev pub IsThreshold : List ℤ → ℤ → Type 0
IsThreshold [] m = ⊥
IsThreshold (k ∷ ks) m = (m ≡ k) ⊎ IsThreshold ks m

-- each threshold's value that is not less than the bound is v at least
abbrev pub IsBelowThresholds : List ℤ → Bool → ℤ → ℤ → Type 0
IsBelowThresholds thresholds doubled bound v = (m : ℤ) → IsThreshold thresholds m → bound ≤ℤ threshold_value doubled m → v ≤ℤ threshold_value doubled m

-- the least threshold's value that is not less than the bound, none where all are less
abbrev pub IsNextThreshold : List ℤ → Bool → ℤ → Option ℤ → Type 0
IsNextThreshold thresholds doubled bound None = (m : ℤ) → IsThreshold thresholds m → threshold_value doubled m <ℤ bound
IsNextThreshold thresholds doubled bound (Some v) =
    ((m : ℤ) × IsThreshold thresholds m × (threshold_value doubled m ≡ v)) × ((bound ≤ℤ v) × IsBelowThresholds thresholds doubled bound v)

-- what `next_threshold` gives is that
abbrev pub NextThresholdIsLeast : Type 0
NextThresholdIsLeast = (thresholds : List ℤ) (doubled : Bool) (bound : ℤ) → IsNextThreshold thresholds doubled bound (next_threshold thresholds doubled bound)

-- Bounds added to a matrix.
use Rattle.std.specs.Prelude.{◌≡◌, ℕ, ℤ, ◌^◌, Option, Some, None, Bool, List, [], ◌∷◌, ◌++◌}
use Rattle.dbm_core.specs.Half.{HalfMatrix}
use Rattle.dbm_core.specs.Limits.{IsWithin}
use Rattle.dbm_incremental.specs.declared.bounds.Bound.{Bound}
use Rattle.dom_octagon_meaning.specs.Matrices.{meets_end, with_bound}

-- a bound, if there is one, added
abbrev pub with_bound_if : HalfMatrix → Option Bound → HalfMatrix
with_bound_if m None = m
with_bound_if m (Some b) = with_bound m b.row b.column b.bound

-- one after another
abbrev pub with_bounds : HalfMatrix → List Bound → HalfMatrix
with_bounds m [] = m
with_bounds m (b ∷ bs) = with_bounds (with_bound m b.row b.column b.bound) bs

-- four bounds, each if there is one, added
abbrev pub with_four : HalfMatrix → (a b c d : Option Bound) → HalfMatrix
with_four m a b c d = with_bound_if (with_bound_if (with_bound_if (with_bound_if m a) b) c) d

-- a bound, if there is one, after others
abbrev pub and_bound : List Bound → Option Bound → List Bound
and_bound bs None = bs
and_bound bs (Some b) = bs ++ (b ∷ [])

-- added to a matrix of these kinds, the bound makes v_i meet the end c of a range
abbrev pub IsEnd : List Bool → ℕ → ℤ → Option Bound → Type 0
IsEnd kinds i c o = (m : HalfMatrix) → m.kinds ≡ kinds → with_bound_if m o ≡ meets_end m i c

-- a bound, if there is one, is small
abbrev pub IsSmallBound : Option Bound → Type 0
IsSmallBound None = Unit {0}
IsSmallBound (Some b) = IsWithin (2 ^ 70) (Some b.bound)

-- each of the bounds is
abbrev pub AreSmallBounds : List Bound → Type 0
AreSmallBounds [] = Unit {0}
AreSmallBounds (b ∷ bs) = IsWithin (2 ^ 70) (Some b.bound) × AreSmallBounds bs

-- The bounds to and from the ends of a lowered bound and of its mirror image.
use Rattle.std.specs.Prelude.{◌≡◌, ℕ, ◌<◌, ◌^◌, ℤ, Option, Some, None, slice_index_or, cond, eqb}
use Rattle.dbm_core.specs.Limits.{IsWithin}
use Rattle.dbm_core.specs.Nodes.{flip}
use Rattle.dbm_core.specs.Weights.{add_weight, least}
use Rattle.dbm_incremental.specs.declared.ends.Ends.{Ends}
use Rattle.dbm_incremental.specs.Triangles.{edged}

-- m has the bounds of d to and from the edge from a to b, which weighs c, and those to and from its mirror image when walks may use the edge
pub record HasEnds (n : ℕ) (d : ℕ → ℕ → Option ℤ) (a b : ℕ) (c : ℤ) (m : Ends) : Type 0 where
  pub to_first : (i : ℕ) → i < n → slice_index_or m.to_first i None ≡ d i a
  pub from_first : (j : ℕ) → j < n → slice_index_or m.from_first j None ≡ add_weight (Some c) (d b j)
  pub to_second : (i : ℕ) → i < n → slice_index_or m.to_second i None ≡ edged d a b c i (flip b)
  pub from_second : (j : ℕ) → j < n → slice_index_or m.from_second j None ≡ add_weight (Some c) (edged d a b c (flip a) j)

-- each of its bounds is none or small
pub record AreSmallEnds (m : Ends) : Type 0 where
  pub to_first : (i : ℕ) → IsWithin (2 ^ 120) (slice_index_or m.to_first i None)
  pub from_first : (j : ℕ) → IsWithin (2 ^ 120) (slice_index_or m.from_first j None)
  pub to_second : (i : ℕ) → IsWithin (2 ^ 120) (slice_index_or m.to_second i None)
  pub from_second : (j : ℕ) → IsWithin (2 ^ 120) (slice_index_or m.from_second j None)

-- a bound from i to j when walks may use both edges
abbrev pub over_both : Ends → ℕ → ℕ → Option ℤ → Option ℤ
over_both m i j bound = least (least bound (add_weight (slice_index_or m.to_first i None) (slice_index_or m.from_first j None)))
    (add_weight (slice_index_or m.to_second i None) (slice_index_or m.from_second j None))

-- the same, where the diagonal stays
abbrev pub ends_entry : Ends → ℕ → ℕ → Option ℤ → Option ℤ
ends_entry m i j bound = cond (eqb i j) bound (over_both m i j bound)

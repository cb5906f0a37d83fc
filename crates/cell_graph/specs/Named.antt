-- Cells by the numbers of their names.
use Rattle.std.specs.Prelude.{◌≡◌, ℕ, suc, List, [], ◌∷◌, map, Option, Some, None, option_map, Bool, is_some, if◌then◌else◌, slice_get}
use Rattle.std.specs.Option.{option_and_then}
use Rattle.std.specs.Ordering.{nat_cmp}
use Rattle.std.specs.FinMap.{FinMap, get}
use Rattle.daig_graph.specs.Cells.{Filled}
use Rattle.cell_names.specs.Paths.{CellName}
use Rattle.cell_graph.specs.Same.{same_name}

-- the number of a name: its place among the names
unfoldable pub number_of : List CellName → CellName → Option ℕ
number_of [] x = None
number_of (y ∷ ys) x = if same_name x y then Some 0 else option_map suc (number_of ys x)

module _ {V : Type 0} (cells : FinMap nat_cmp (Filled V)) (names : List CellName) where
  -- the cell of a name
  abbrev pub filled_at : CellName → Option (Filled V)
  filled_at x = option_and_then (get cells) (number_of names x)

  -- the names that have a cell
  abbrev pub kept : CellName → Bool
  kept x = is_some (filled_at x)

-- these are the numbers of these names
abbrev pub AreNumbers : List CellName → List ℕ → List CellName → Type 0
AreNumbers names numbers xs = map (slice_get names) numbers ≡ map Some xs

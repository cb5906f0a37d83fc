-- Paths, their last frame first, and the numbered steps that make them.
use Rattle.std.specs.Prelude.{ℕ, List, [], ◌∷◌, Option, Some, None, map, slice_get}
use Rattle.cell_names.specs.declared.frame.NameFrame.{NameFrame}
use Rattle.cell_names.specs.declared.frame.NameFrame.TheVariants.{InCall, InLoop}
use Rattle.cell_names.specs.declared.frame.Point.{Point}
use Rattle.cell_names.specs.declared.path.Name.{Name}
use Rattle.cell_names.specs.declared.path.PathStep.{PathStep}

-- the name of a cell: its path, the last frame first, and its point
pub record CellName : Type 0 where
  pub path : List NameFrame
  pub point : Point

-- the path at a place, and the empty one past the end
abbrev pub or_root : Option (List NameFrame) → List NameFrame
or_root (Some path) = path
or_root None = []

abbrev pub path_at : List (List NameFrame) → ℕ → List NameFrame
path_at paths n = or_root (slice_get paths n)

-- the paths of the steps, after the empty one
abbrev pub paths_of : List PathStep → List (List NameFrame)
paths_of steps = [] ∷ map (λ s. s.frames) steps

-- a name whose path has a number
abbrev pub name_in : List (List NameFrame) → Name → CellName
name_in paths name = record { path = path_at paths name.path; point = name.point }

-- the call sites of a path, the last first
abbrev pub sites_of : List NameFrame → List ℕ
sites_of [] = []
sites_of (InCall n ∷ w) = n ∷ sites_of w
sites_of (InLoop n k ∷ w) = sites_of w

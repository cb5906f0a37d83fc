-- The forms that matrices are held in.
use Rattle.std.specs.Prelude.{◌^◌, Option, Some, None}
use Rattle.dbm_core.specs.Half.{HalfMatrix, entry, nodes}
use Rattle.dbm_core.specs.Limits.{AreWithin}
use Rattle.dom_octagon_states.specs.declared.bounds.Held.{Held}
use Rattle.dom_octagon_states.specs.declared.bounds.Held.TheVariants.{Large, Small}

-- the matrix, in either form
abbrev pub matrix_held : Held → HalfMatrix
matrix_held (Small n) = n.value
matrix_held (Large m) = m.value

-- a matrix that fits the narrow form is held in it
abbrev pub IsHeld : Held → Type 0
IsHeld (Small n) = Unit {0}
IsHeld (Large m) = AreWithin (nodes m.value) (2 ^ 25) (entry m.value) → ⊥

-- the matrix, if there is one, fits the narrow form
abbrev pub IsSmallIf : Option HalfMatrix → Type 0
IsSmallIf None = Unit {0}
IsSmallIf (Some m) = AreWithin (nodes m) (2 ^ 25) (entry m)

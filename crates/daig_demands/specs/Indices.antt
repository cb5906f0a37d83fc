-- The points whose cells carry the index of a loop.
use Rattle.std.specs.Prelude.{Bool, true, false}
use Rattle.cell_names.specs.declared.frame.Point.{Point}
use Rattle.cell_names.specs.declared.frame.Point.TheVariants.{Fix, Exit, Leap}

abbrev pub carries_index : Point → Bool
carries_index (Fix n) = true
carries_index (Exit n) = true
carries_index (Leap n b) = true
carries_index _ = false

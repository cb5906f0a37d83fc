-- What is kept of a checked program.
use Rattle.std.specs.Prelude.{◌≡◌}
use Rattle.imp_check.specs.Fine.{IsFine}
use Rattle.imp_check.specs.Slots.{routines_of}
use Rattle.imp_table.specs.declared.checked.Parts.{Parts}

-- the program has no fault, and its table and its procedures over slots are of it
pub record AreRight (p : Parts) : Type 0 where
  pub fine : IsFine p.program
  pub routines : p.routines ≡ routines_of p.program
  pub table : p.table.program ≡ p.program

-- Programs without faults.
use Rattle.std.specs.Prelude.{◌≡◌, List, None}
use Rattle.imp_syntax.specs.Plain.{Procedure}
use Rattle.imp_slots.specs.Fits.{IsChecked}
use Rattle.imp_check.specs.Programs.{AreNumbered, check_fault}
use Rattle.imp_check.specs.Slots.{routines_of}

-- The program has no fault, its numbers stand once, and over slots it fits.
pub record IsFine (program : List Procedure) : Type 0 where
  pub faultless : check_fault program ≡ None
  pub numbered : AreNumbered program
  pub fit : IsChecked (routines_of program)

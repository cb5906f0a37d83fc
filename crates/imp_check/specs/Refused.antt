-- When a program is refused.
use Rattle.std.specs.Prelude.{◌≡◌, Option, Some}
use Rattle.imp_check.specs.declared.fault.LocatedFault.{LocatedFault}
use Rattle.imp_check.specs.declared.fault.CheckError.{CheckError}
use Rattle.imp_check.specs.declared.fault.CheckError.TheVariants.{Fault, Memory}

-- the error is the first fault, or out of memory
abbrev pub IsRefused : Option LocatedFault → CheckError → Type 0
IsRefused o (Fault f) = o ≡ Some f
IsRefused o Memory = Unit {0}

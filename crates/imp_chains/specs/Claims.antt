-- What is claimed of chains, places and thresholds.
use Rattle.std.specs.Prelude.{◌≡◌, ℕ, suc, ◌<◌, List, length, slice_get, Some, true}
use Rattle.imp_slots.specs.Plain.{Routine, code_numbers}
use Rattle.imp_slots.specs.Fits.{FitsCode, IsChecked}
use Rattle.imp_chains.specs.declared.widening.Widening.{Widening}
use Rattle.imp_chains.specs.Chains.{chains, through, has, holder, named}
use Rattle.imp_chains.specs.Thresholds.{thresholds, IsRising}

-- the thresholds of a procedure that fits its layout rise
abbrev pub ThresholdsRise : Type 0
ThresholdsRise = (w : Widening) (before : List Routine) (r : Routine) → FitsCode before r.layout r.code → IsRising (thresholds w r)

-- the chains of a procedure that is not main go through those that call it
abbrev pub ChainsAreThroughCallers : Type 0
ChainsAreThroughCallers = (program : List Routine) → IsChecked program → (p : ℕ) → suc p < length program → chains program p ≡ through (chains program) 0 program p

-- a statement's procedure is found by its number, and a procedure by its name
pub record IsFound (program : List Routine) (p : ℕ) (r : Routine) : Type 0 where
  pub statement : (n : ℕ) → has n (code_numbers r.code) ≡ true → holder n program ≡ Some p
  pub name : named r.name program ≡ Some p

abbrev pub PlacesAreFound : Type 0
PlacesAreFound = (program : List Routine) → IsChecked program → (p : ℕ) (r : Routine) → slice_get program p ≡ Some r → IsFound program p r

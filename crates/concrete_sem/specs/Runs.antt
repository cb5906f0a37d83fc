-- Runs of so many steps at most, and how often they stand at a location.
use Rattle.std.specs.Prelude.{ℕ, zero, suc, ◌+◌, List, Bool, true, false}
use Rattle.imp_slots.specs.Plain.{Routine}
use Rattle.imp_words.specs.declared.run_end.RunEnd.{RunEnd}
use Rattle.imp_words.specs.declared.run_end.RunEnd.TheVariants as end
use Rattle.concrete_sem.specs.Steps.{Config, Step, Next, Faulted, InputsUsedUp, Ended, step}

pub record Run : Type 0 where
  pub end : RunEnd
  -- how many configurations stood at the location, the first and the last included
  pub reached : ℕ

abbrev pub ends : RunEnd → Run
ends e = record { end = e; reached = 0 }

-- the run had one more configuration before
abbrev pub counted : (here : Bool) → Run → Run
counted true r = record r { reached = r.reached + 1 }
counted false r = r

-- A run with that many steps allowed. A step that faults, or that lacks an input, is a step.
module _ (program : List Routine) (is_here : Config → Bool) where
  abbrev pub end_with_no_fuel : Step → Run
  end_with_no_fuel Ended = ends end.Ended
  end_with_no_fuel (Next c) = ends end.FuelUsedUp
  end_with_no_fuel (Faulted n k) = ends end.FuelUsedUp
  end_with_no_fuel (InputsUsedUp n) = ends end.FuelUsedUp

  -- how the run goes on after the step
  abbrev pub run_on : Step → (Config → Run) → Run
  run_on (Next c) f = f c
  run_on (Faulted n k) f = ends (end.Fault n k)
  run_on (InputsUsedUp n) f = ends (end.InputsUsedUp n)
  run_on Ended f = ends end.Ended

  abbrev pub run_from : (fuel : ℕ) → Config → Run
  run_from zero c = counted (is_here c) (end_with_no_fuel (step program c))
  run_from (suc fuel) c = counted (is_here c) (run_on (step program c) (run_from fuel))

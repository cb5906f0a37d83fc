-- What is claimed of steps: well-formed configurations go on until main is done, and stay well-formed.
use Rattle.std.specs.Prelude.{◌≡◌, ◌↔◌, ◌++◌, List, All, ℤ, option_map}
use Rattle.imp_slots.specs.Plain.{Code, Routine}
use Rattle.imp_slots.specs.Fits.{IsChecked}
use Rattle.concrete_sem.specs.Values.{IsWord}
use Rattle.concrete_sem.specs.Steps.{Work, Config, Next, Ended, push, leave_loop, step, start}
use Rattle.concrete_sem.specs.WellFormed.{IsWellFormed, IsEnded}
use Rattle.concrete_sem.specs.Items.{do_items, items, leave_items}

-- a well-formed configuration has no step exactly where it is ended
abbrev pub StepsGoOn : Type 0
StepsGoOn = (program : List Routine) → IsChecked program → (c : Config) → IsWellFormed program c → (step program c ≡ Ended) ↔ IsEnded program c

-- a step keeps well-formedness
abbrev pub StepsKeepForm : Type 0
StepsKeepForm = (program : List Routine) → IsChecked program → (c d : Config) → IsWellFormed program c → step program c ≡ Next d → IsWellFormed program d

-- runs begin in well-formed configurations
abbrev pub StartIsWellFormed : Type 0
StartIsWellFormed = (program : List Routine) → IsChecked program → (inputs : List ℤ) → All IsWord inputs → IsWellFormed program (start program inputs)

-- pushing a block puts just its Do items before
abbrev pub PushesItems : Type 0
PushesItems = (c : Code) (w : Work) → items (push c w) ≡ do_items c ++ items w

-- a break removes the items before the first Test, which becomes a Done
abbrev pub BreakLeavesItems : Type 0
BreakLeavesItems = (w : Work) → option_map items (leave_loop w) ≡ leave_items (items w)

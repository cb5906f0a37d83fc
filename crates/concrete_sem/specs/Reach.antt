-- Where a configuration stands, and what runs reach.
use Rattle.std.specs.Prelude.{◌≡◌, ℕ, zero, suc, List, [], ◌∷◌, reverse, slice_get, option_map, Option, Some, None, true, All, ℤ}
use Rattle.imp_syntax.specs.declared.edit.Location.{Location}
use Rattle.imp_syntax.specs.declared.edit.Location.TheVariants.{Before, After, Head, End}
use Rattle.imp_slots.specs.Plain.{Code, Stop, Simple, If, While, Call, Break, Routine}
use Rattle.imp_chains.specs.Chains.{ends_in}
use Rattle.concrete_sem.specs.Values.{IsWord}
use Rattle.concrete_sem.specs.Steps.{Work, Ret, Do, Done, Test, Frame, In, Config, Step, Next, Faulted, InputsUsedUp, Ended, step, start}

-- the number of a block's first statement
abbrev pub first_number : Code → Option ℕ
first_number Stop = None
first_number (Simple n e r) = Some n
first_number (If n g t e r) = Some n
first_number (While n g b r) = Some n
first_number (Call n i q r) = Some n
first_number (Break n r) = Some n

-- the location of the item on top
abbrev pub location_of : List Routine → Work → Option Location
location_of program (Ret p) = option_map (λ (r : Routine). End r.name) (slice_get program p)
location_of program (Done n i w) = Some (After n)
location_of program (Test n g b w) = Some (Head n)
location_of program (Do c w) = option_map Before (first_number c)

-- where the configuration stands: the location of the item on top of its last frame
abbrev pub standing : List Routine → List Frame → Option Location
standing program [] = None
standing program (In p v w ∷ below) = location_of program w

-- the number of a Done
abbrev pub site : Work → ℕ
site (Ret p) = 0
site (Done n i w) = n
site (Test n g b w) = 0
site (Do c w) = 0

-- the call sites of these frames, the last one first
abbrev pub sites : List Frame → List ℕ
sites [] = []
sites (In p v w ∷ below) = site w ∷ sites below

-- the call sites of a configuration: the numbers of the Done items on top of all frames but the last, the last one first
abbrev pub call_sites : List Frame → List ℕ
call_sites [] = []
call_sites (f ∷ below) = sites below

-- the configuration with its last frame alone
abbrev pub last_alone : List Frame → List Frame
last_alone [] = []
last_alone (f ∷ below) = f ∷ []

abbrev pub top : Config → Config
top c = record c { frames = last_alone c.frames }

-- what follows the step's configuration, if it comes to one
abbrev pub after_step : Step → (Config → Option Config) → Option Config
after_step (Next c) f = f c
after_step (Faulted n k) f = None
after_step (InputsUsedUp n) f = None
after_step Ended f = None

-- the configuration after that many steps
abbrev pub after_steps : List Routine → ℕ → Config → Option Config
after_steps program zero c = Some c
after_steps program (suc k) c = after_step (step program c) (after_steps program k)

-- Under some inputs a run of the program comes to the configuration, at this location, with call sites of which the string,
-- from the outermost call in, is a suffix.
pub record Reach (program : List Routine) (l : Location) (string : List ℕ) (c : Config) : Type 0 where
  pub inputs : List ℤ
  pub words : All IsWord inputs
  pub steps : ℕ
  pub comes : after_steps program steps (start program inputs) ≡ Some c
  pub location : standing program c.frames ≡ Some l
  pub suffix : ends_in (reverse string) (call_sites c.frames) ≡ true

-- The parts of a configuration in code, as plain data.
use Rattle.std.specs.Prelude.{◌≡◌, ℕ, List, [], ◌∷◌}
use Rattle.concrete_sem.specs.Steps.{Work, Ret, Frame, In, Config, Step, step_frame, goes_on}
use Rattle.concrete_sem.specs.Values.{Heap, Variables}
use Rattle.imp_slots.specs.Plain.{Guard, Code, Routine}
use Rattle.concrete_sem.specs.Steps as plain
use Rattle.imp_run.specs.declared.work.Item.{Item}
use Rattle.imp_run.specs.Work.{work_on}
use Rattle.imp_run.specs.declared.machine.Activation.{Activation}
use Rattle.imp_run.specs.declared.machine.RunState.{RunState}
use Rattle.imp_run.specs.declared.machine.Stepped.{Stepped}
use Rattle.imp_run.specs.declared.machine.Stepped.TheVariants as s

abbrev pub work_of : ℕ → List Item → Work
work_of p items = work_on (Ret p) items

abbrev pub frame_of : Activation → Frame
frame_of a = In a.place a.slots (work_of a.place a.work.items)

-- frames one upon another, the last one before
abbrev pub frames_on : List Frame → List Activation → List Frame
frames_on below [] = below
frames_on below (a ∷ more) = frames_on (frame_of a ∷ below) more

-- what a step came to, at the configuration after it
abbrev pub step_of : Stepped → Config → Step
step_of s.Next c = plain.Next c
step_of (s.Fault n k) c = plain.Faulted n k
step_of (s.NoInput n) c = plain.InputsUsedUp n
step_of s.Ended c = plain.Ended

-- The last frame's step, whatever the program is and whatever frames and procedure stand below: from this work to that.
abbrev pub StepsTo : Stepped → Heap → Variables → (Work → Work) → Heap → Variables → (Work → Work) → Type 0
StepsTo s h v work h2 v2 work2 =
    (program : List Routine) (below : List Frame) (p : ℕ) → step_frame program p below h v (work (Ret p)) ≡ step_of s (goes_on p below h2 v2 (work2 (Ret p)))

-- the frames, the last one first
abbrev pub frames_of : RunState → List Frame
frames_of m = frame_of m.last ∷ frames_on [] m.below.items

abbrev pub config_of : RunState → Config
config_of m = record { heap = m.store; frames = frames_of m }

-- This code, on top of the last frame's work, begins: whatever the program is, the step from there comes to this machine.
abbrev pub BeginsSo : Code → RunState → Stepped → RunState → Type 0
BeginsSo code before s after =
    (program : List Routine) → step_frame program before.last.place (frames_on [] before.below.items) before.store before.last.slots (plain.Do code (work_of before.last.place before.last.work.items)) ≡ step_of s (config_of after)

-- the same of a loop whose condition is tested
abbrev pub TestsSo : ℕ → Guard → Code → RunState → Stepped → RunState → Type 0
TestsSo n cond body before s after =
    (program : List Routine) → step_frame program before.last.place (frames_on [] before.below.items) before.store before.last.slots (plain.Test n cond body (work_of before.last.place before.last.work.items)) ≡ step_of s (config_of after)

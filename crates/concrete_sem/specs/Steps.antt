-- Configurations and steps.
use Rattle.std.specs.Prelude.{ℕ, ◌-◌, List, [], ◌∷◌, length, slice_get, Option, Some, None, Bool, true, false, ℤ}
use Rattle.imp_slots.specs.Plain.{Guard, Invoke, Code, Stop, Simple, If, While, Call, Break, Routine}
use Rattle.imp_words.specs.declared.fault.FaultKind.{FaultKind}
use Rattle.concrete_sem.specs.Values.{Variables, Heap, Attempt, Gives, Faults, LacksInput}
use Rattle.concrete_sem.specs.Evaluation.{truth_of}
use Rattle.concrete_sem.specs.Effects.{effect_of}
use Rattle.concrete_sem.specs.Passing.{first_variables, pass, back}

-- What a frame still has to do. A Do is one item for each statement of its block, and the items of a frame end with its
-- one Ret, of its procedure. The Done of a call has the call.
pub data Work : Type 0 where
  Ret : (p : ℕ) → Work
  Do : Code → Work → Work
  Done : (n : ℕ) → Option Invoke → Work → Work
  Test : (n : ℕ) → Guard → Code → Work → Work

-- A frame: its procedure, by its place in the program, its variables and its work.
pub data Frame : Type 0 where
  In : (p : ℕ) → Variables → Work → Frame

-- A configuration: the heap with the inputs left, and the frames, the last one first.
pub record Config : Type 0 where
  pub heap : Heap
  pub frames : List Frame

-- What a step comes to: a configuration, a fault at a statement, an input wanted there where none was left; or there is
-- no step.
pub data Step : Type 0 where
  Next : Config → Step
  Faulted : (n : ℕ) → FaultKind → Step
  InputsUsedUp : (n : ℕ) → Step
  Ended : Step

-- Do of each statement of a block, before the work.
abbrev pub push : Code → Work → Work
push Stop w = w
push (Simple n e r) w = Do (Simple n e r) w
push (If n g t e r) w = Do (If n g t e r) w
push (While n g b r) w = Do (While n g b r) w
push (Call n i q r) w = Do (Call n i q r) w
push (Break n r) w = Do (Break n r) w

-- The work after the innermost loop, from its Done on.
abbrev pub leave_loop : Work → Option Work
leave_loop (Ret p) = None
leave_loop (Do c w) = leave_loop w
leave_loop (Done n i w) = leave_loop w
leave_loop (Test n g b w) = Some (Done n None w)

abbrev pub chosen : Bool → Code → Code → Code
chosen true t e = t
chosen false t e = e

-- the frame goes on with these variables and this work
abbrev pub goes_on : ℕ → List Frame → Heap → Variables → Work → Config
goes_on p below h v w = record { heap = h; frames = In p v w ∷ below }

-- what is attempted at statement n decides the step
abbrev pub step_at : {A : Type 0} → (n : ℕ) → Attempt A → (A → Step) → Step
step_at n (Gives a) f = f a
step_at n (Faults k) f = Faulted n k
step_at n LacksInput f = InputsUsedUp n

abbrev pub step_if_some : {A : Type 0} → Option A → (A → Step) → Step
step_if_some None f = Ended
step_if_some (Some a) f = f a

-- the condition of a loop has this truth value
abbrev pub turn : ℕ → List Frame → Heap → Variables → ℕ → Guard → Code → Work → Bool → Config
turn p below h v n g b w true = goes_on p below h v (push b (Test n g b w))
turn p below h v n g b w false = goes_on p below h v (Done n None w)

-- the frame on top is removed, and its caller takes the result
abbrev pub returns_to : Heap → Variables → List Frame → Step
returns_to h d [] = Ended
returns_to h d (In p v (Ret q) ∷ below) = Ended
returns_to h d (In p v (Do c w) ∷ below) = Ended
returns_to h d (In p v (Test n g b w) ∷ below) = Ended
returns_to h d (In p v (Done n None w) ∷ below) = Ended
returns_to h d (In p v (Done n (Some i) w) ∷ below) = Next (goes_on p below h (back i.returning v d) (Done n (Some i) w))

-- the frame of the callee is added
abbrev pub enters : ℕ → List Frame → Heap → Variables → Routine → Config
enters q below h v r = goes_on q below h v (push r.code (Ret q))

-- One step of a program, by the item on top of the last frame. Where no run comes to, there is no step.
module _ (program : List Routine) where
  abbrev pub step_frame : ℕ → List Frame → Heap → Variables → Work → Step
  step_frame p below h v (Ret q) = returns_to h v below
  step_frame p below h v (Done n i w) = Next (goes_on p below h v w)
  step_frame p below h v (Test n g b w) = step_at n (truth_of v g) (λ t. Next (turn p below h v n g b w t))
  step_frame p below h v (Do Stop w) = Ended
  step_frame p below h v (Do (Simple n e r) w) = step_at n (effect_of e h v) (λ x. Next (goes_on p below x.0 x.1 (Done n None (push r w))))
  step_frame p below h v (Do (If n g t e r) w) = step_at n (truth_of v g) (λ b. Next (goes_on p below h v (push (chosen b t e) (Done n None (push r w)))))
  step_frame p below h v (Do (While n g b r) w) = Next (goes_on p below h v (Test n g b (push r w)))
  step_frame p below h v (Do (Call n i q r) w) =
      step_at n (pass i.entering v) (λ u. step_if_some (slice_get program q) (λ c. Next (enters q (In p v (Done n (Some i) (push r w)) ∷ below) h u c)))
  step_frame p below h v (Do (Break n r) w) = step_if_some (leave_loop w) (λ u. Next (goes_on p below h v u))

  abbrev pub step_frames : Heap → List Frame → Step
  step_frames h [] = Ended
  step_frames h (In p v w ∷ below) = step_frame p below h v w

  abbrev pub step : Config → Step
  step c = step_frames c.heap c.frames

  -- the place of main, the last procedure
  abbrev pub main : ℕ
  main = length program - 1

  abbrev pub started : Heap → Option Routine → Config
  started h None = record { heap = h; frames = [] }
  started h (Some r) = goes_on main [] h (first_variables r.layout) (push r.code (Ret main))

  -- the configuration in which a run with these inputs begins
  abbrev pub start : (inputs : List ℤ) → Config
  start inputs = started (record { cells = []; inputs = inputs }) (slice_get program main)

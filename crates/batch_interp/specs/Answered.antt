-- What an answer says, and when a question is refused.
use Rattle.std.specs.Prelude.{◌≡◌, ℕ, List, reverse, Result, Ok, Err}
use Rattle.imp_syntax.specs.declared.edit.Location.{Location}
use Rattle.imp_slots.specs.Plain.{Routine}
use Rattle.concrete_sem.specs.Values.{Variables, Heap}
use Rattle.concrete_sem.specs.Steps.{Config}
use Rattle.concrete_sem.specs.Reach.{top, Reach}
use Rattle.concrete_sem.specs.WellFormed.{variables_of}
use Rattle.batch_meaning.specs.Values as plain
use Rattle.batch_meaning.specs.Answers as meaning
use Rattle.batch_interp.specs.declared.error.QueryError.{QueryError}
use Rattle.batch_interp.specs.declared.error.QueryError.TheVariants.{Refused, Memory}
use Rattle.batch_interp.specs.declared.value.Answer.{Answer}
use Rattle.batch_interp.specs.declared.value.Answer.TheVariants.{State, Over}

-- an answer as a value, whose chains have the last call first
abbrev pub value_of : {S : Type 0} → Answer S → plain.Value S
value_of (State s) = plain.State s
value_of (Over n chain) = plain.Over n (reverse chain)

-- the question is refused for this cause, or memory is wanting
abbrev pub IsRefused : {S : Type 0} → meaning.Answer S → QueryError → Type 0
IsRefused a (Refused why) = a ≡ meaning.Refuses why
IsRefused a Memory = Unit {0}

-- An answer is given, or the question is refused.
abbrev pub IsAnswer : {S : Type 0} → meaning.Answer S → Result (Answer S) QueryError → Type 0
IsAnswer a (Ok x) = a ≡ meaning.Answers (value_of x)
IsAnswer a (Err e) = IsRefused a e

-- the procedure of a location, or why it has none, and so no answer
abbrev pub IsPlace : meaning.Found → Result ℕ QueryError → Type 0
IsPlace f (Ok p) = f ≡ meaning.In p
IsPlace f (Err (Refused why)) = f ≡ meaning.Misses why
IsPlace f (Err Memory) = ⊥

-- A state that is answered describes the last frame of each configuration that a run reaches there.
abbrev pub Describes : {S : Type 0} → (S → Heap → List Variables → Type 0) → List Routine → Location → (string : List ℕ) → Answer S → Type 0
Describes covers program l string (State s) = (c : Config) → Reach program l string c → covers s (top c).heap (variables_of (top c).frames)
Describes covers program l string (Over n chain) = Unit {0}

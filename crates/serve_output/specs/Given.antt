-- What is given of an output before it is written: its bytes, or why there are none.
use Rattle.std.specs.Prelude.{◌≡◌, ◌⊎◌, ℕ, List, Option, Some, Result, Ok, Err, IfOk, IsErrOf, Vec}
use Rattle.io_edge.specs.Outside.{Lacks, Rose}
use Rattle.imp_syntax.specs.Plain.{Procedure}
use Rattle.serve_command.specs.declared.job.Task.{Task}
use Rattle.serve_answers.specs.Readings.{Readings}
use Rattle.serve_output.specs.declared.error.JobError.{JobError}
use Rattle.serve_output.specs.declared.error.JobError.TheVariants.{Refused, Files, LongFile, Memory}
use Rattle.serve_output.specs.declared.status.Status.{Status}
use Rattle.serve_output.specs.declared.status.Status.TheVariants as end
use Rattle.serve_output.specs.Ends.{EndsBy}
use Rattle.serve_output.specs.Output.{Output, done, of_file, program_output, refused, task_output, IsProgram}

-- what the output is, where there are no bytes for this reason; a file that is not there is told apart by no error
abbrev pub IsEnd : JobError → Output → Type 0
IsEnd (Refused why) output = output ≡ refused why
IsEnd Files output = Unit {0}
IsEnd LongFile output = output.status ≡ 9
IsEnd Memory output = Unit {0}

abbrev pub Gives : {Z : Type 0} → Result (Vec ℕ Z) JobError → Output → Type 0
Gives (Ok bytes) output = output ≡ done bytes.items
Gives (Err error) output = IsEnd error output

-- How a job ends by what is given for it. `quiet`: nothing is written; `sink_fails`: a write failed.
abbrev pub EndsGiven : {V : Type 0} → (quiet sink_fails : Type 0) → Result V JobError → Status → Type 0
EndsGiven quiet sink_fails (Ok bytes) status = EndsBy end.Done sink_fails status
EndsGiven quiet sink_fails (Err (Refused why)) status = EndsBy end.Source sink_fails status
EndsGiven quiet sink_fails (Err Files) status = (status ≡ end.Files) × quiet
EndsGiven quiet sink_fails (Err LongFile) status = (status ≡ end.LongFile) × quiet
EndsGiven quiet sink_fails (Err Memory) status = status ≡ end.Memory

-- the bytes that are given, where memory suffices
abbrev pub GivesBytes : {Z E : Type 0} → List ℕ → Result (Vec ℕ Z) E → Type 0
GivesBytes bytes given = IfOk given (λ v. v.items ≡ bytes)

-- A file is not to be had only where a call of the files failed, or they lack it.
abbrev pub FailsOnFile : {S V : Type 0} → (faults : S → ℕ) → (told : S → Option (List ℕ → Option (List ℕ))) → (before after : S) → (name : List ℕ) → Result V JobError → Type 0
FailsOnFile faults told before after name given = IsErrOf given Files → Rose (faults before) (faults after) ⊎ Lacks (told before) name

module _ (files : Option (List ℕ → Option (List ℕ))) (name : List ℕ) where
  -- Where the files are told, this one has the bytes; or, read with this limit, it ends so.
  abbrev pub HasBytes : (bytes : List ℕ) → Type 0
  HasBytes bytes = (folder : List ℕ → Option (List ℕ)) → files ≡ Some folder → folder name ≡ Some bytes

  abbrev pub EndsFile : (most : ℕ) → JobError → Type 0
  EndsFile most error =
      (folder : List ℕ → Option (List ℕ)) (give : List ℕ → Output) → files ≡ Some folder → IsEnd error (of_file most (folder name) give)

  -- Where the files are told, this one is the program; or it gives none, and what is given of it ends so.
  abbrev pub IsProgramIn : List Procedure → Type 0
  IsProgramIn program = (readings : Readings) (folder : List ℕ → Option (List ℕ)) → files ≡ Some folder → IsProgram readings (folder name) program

  abbrev pub EndsProgram : JobError → Type 0
  EndsProgram error =
      (readings : Readings) (folder : List ℕ → Option (List ℕ)) (give : List Procedure → Output) → files ≡ Some folder →
      IsEnd error (program_output readings (folder name) give)

  -- Where the files are told, what the task gives of the program of this one, whatever the script is.
  abbrev pub GivesTask : {Z : Type 0} → Task → Result (Vec ℕ Z) JobError → Type 0
  GivesTask task given =
      (readings : Readings) (folder : List ℕ → Option (List ℕ)) (script : List ℕ) → files ≡ Some folder →
      Gives given (program_output readings (folder name) (task_output readings task folder script))

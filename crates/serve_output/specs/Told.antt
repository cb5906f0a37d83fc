-- What is told of the outside, and which words are given.
use Rattle.std.specs.Prelude.{◌≡◌, ℕ, List, Option, Some, None, map, String, string_bytes}
use Rattle.imp_syntax.specs.Plain.{Procedure}
use Rattle.serve_command.specs.declared.job.Job.{Job}
use Rattle.serve_command.specs.declared.job.Job.TheVariants as job
use Rattle.serve_command.specs.Jobs.{job_of}
use Rattle.serve_output.specs.Jobs.{AsksToServe}
use Rattle.serve_answers.specs.Readings.{Readings}
use Rattle.serve_output.specs.Output.{Output, output, IsAccepted}

-- the job that the words name
abbrev pub job_of_words : {Z : Type 0} → List (String Z) → Option Job
job_of_words words = job_of (map string_bytes words)

-- The files, the script, and what the sink took before.
pub record Told : Type 0 where
  pub folder : List ℕ → Option (List ℕ)
  pub script : List ℕ
  pub taken : List ℕ

-- the files are told, where the job has one
abbrev pub TellsFiles : Option Job → Option (List ℕ → Option (List ℕ)) → (List ℕ → Option (List ℕ)) → Type 0
TellsFiles None files folder = Unit {0}
TellsFiles (Some (job.File file task)) files folder = files ≡ Some folder
TellsFiles (Some (job.Gen seed size domain)) files folder = Unit {0}

-- the script is told, where an accepted program is served
abbrev pub TellsScript : Readings → Option Job → (List ℕ → Option (List ℕ)) → Option (List ℕ) → List ℕ → Type 0
TellsScript readings job folder script text = AsksToServe job → (program : List Procedure) → IsAccepted readings job folder program → script ≡ Some text

-- All that the output depends on is told, and what the sink took.
pub record Tells (readings : Readings) (job : Option Job) (files : Option (List ℕ → Option (List ℕ))) (script sink : Option (List ℕ)) (told : Told) : Type 0 where
  pub files_are : TellsFiles job files told.folder
  pub script_is : TellsScript readings job told.folder script told.script
  pub sink_is : sink ≡ Some told.taken

-- the output of the job
abbrev pub job_output : Readings → Option Job → Told → Output
job_output readings job told = output readings job told.folder told.script

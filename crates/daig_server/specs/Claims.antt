-- What is claimed of the lines and reports of every program that the words accept, whatever was asked and edited before.
use Rattle.std.specs.Prelude.{◌≡◌, ℕ, List, Option, Some}
use Rattle.imp_syntax.specs.Plain.{Procedure}
use Rattle.domain_laws.specs.Operations.{Operations}
use Rattle.serve_command.specs.declared.job.AnalysisOptions.{AnalysisOptions}
use Rattle.serve_command.specs.declared.job.Job.{Job}
use Rattle.serve_command.specs.declared.job.Job.TheVariants as job
use Rattle.serve_command.specs.declared.job.Task.TheVariants.{Serve}
use Rattle.serve_answers.specs.Readings.{Readings}
use Rattle.reuse_laws.specs.Shorter as shorter
use Rattle.serve_output.specs.Domains.{meaning_of}
use Rattle.serve_output.specs.Jobs.{domain_in, engine_in}
use Rattle.serve_output.specs.Output.{output, IsAccepted}
use Rattle.serve_output.specs.Settles.{served_after, IsSettledAfter}
use Rattle.serve_output.specs.Sound.{IsBatchSound, IsSoundAfter}

-- the operations of the domain that is asked for
abbrev pub operations_in : (asked : Option Job) → Operations (meaning_of (domain_in asked)).State
operations_in asked = (meaning_of (domain_in asked)).operations

module _ (asked : Option Job) where
  -- Every line is answered soundly, after any lines before it.
  abbrev pub LinesAreSound : Type 0
  LinesAreSound =
      (readings : Readings) (folder : List ℕ → Option (List ℕ)) (program : List Procedure) (before : List (List ℕ)) (line : List ℕ) →
      IsAccepted readings asked folder program →
      IsSoundAfter (meaning_of (domain_in asked)) readings (engine_in asked) program before line

  -- The report of the program is sound.
  abbrev pub ReportsAreSound : Type 0
  ReportsAreSound =
      (readings : Readings) (folder : List ℕ → Option (List ℕ)) (program : List Procedure) → IsAccepted readings asked folder program →
      IsBatchSound (meaning_of (domain_in asked)) (engine_in asked) program

  -- After any lines what is asked next fills no more cells because of what others asked.
  abbrev pub NeverLonger : Type 0
  NeverLonger =
      (readings : Readings) (folder : List ℕ → Option (List ℕ)) (program : List Procedure) (before : List (List ℕ)) →
      IsAccepted readings asked folder program →
      shorter.NeverLonger (operations_in asked) (served_after (domain_in asked) readings (engine_in asked) program before)

  -- After any lines no line is replied by an over, where the budget is enough for the program that is then present.
  abbrev pub LinesSettle : Type 0
  LinesSettle =
      (readings : Readings) (folder : List ℕ → Option (List ℕ)) (program : List Procedure) (before : List (List ℕ)) (line : List ℕ) →
      IsAccepted readings asked folder program →
      IsSettledAfter (domain_in asked) readings (engine_in asked) program before line

-- The output is the same, however many results are remembered.
abbrev pub MemoIsUnseen : Type 0
MemoIsUnseen =
    (readings : Readings) (settings : AnalysisOptions) (memo other : ℕ) (file : List ℕ) (folder : List ℕ → Option (List ℕ)) (text : List ℕ) →
    output readings (Some (job.File file (Serve settings memo))) folder text ≡ output readings (Some (job.File file (Serve settings other))) folder text

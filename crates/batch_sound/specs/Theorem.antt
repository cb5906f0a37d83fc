-- What is claimed of answers and reports.
use Rattle.std.specs.Prelude.{◌≡◌, ℕ, List, [], Some, All, ℤ, Contains}
use Rattle.imp_syntax.specs.declared.edit.Location.{Location}
use Rattle.imp_syntax.specs.declared.edit.Location.TheVariants.{Before}
use Rattle.imp_slots.specs.Plain.{Routine}
use Rattle.imp_slots.specs.Fits.{IsChecked}
use Rattle.imp_words.specs.declared.fault.FaultKind.{FaultKind}
use Rattle.imp_words.specs.declared.fault.FaultKind.TheVariants.{Index, Null as NullFault, Assert as Failed}
use Rattle.concrete_sem.specs.Values.{Variables, Heap, IsWord}
use Rattle.concrete_sem.specs.Steps.{Config, Faulted, step, start}
use Rattle.concrete_sem.specs.Reach.{top, after_steps, Reach}
use Rattle.concrete_sem.specs.WellFormed.{variables_of}
use Rattle.imp_words.specs.declared.verdict.Verdict.TheVariants.{Dead, Safe}
use Rattle.imp_words.specs.declared.findings.Check.{Check}
use Rattle.imp_words.specs.declared.findings.Check.TheVariants.{Bounds, Null, Assert}
use Rattle.imp_words.specs.declared.findings.Finding.{Finding}
use Rattle.domain_laws.specs.Operations.{Operations}
use Rattle.batch_meaning.specs.Values.{State}
use Rattle.batch_meaning.specs.Batch.{LoopOptions}
use Rattle.batch_meaning.specs.Answers.{Answers, answer}
use Rattle.batch_meaning.specs.Report.{report}

-- Where the answer is a state, it describes the last frame of each configuration that a run reaches there.
abbrev pub AreAnswersSound : {S : Type 0} → Operations S → (S → Heap → List Variables → Type 0) → Type 0
AreAnswersSound {S} dom covers =
    (engine : LoopOptions) (program : List Routine) (l : Location) (string : List ℕ) (s : S) (c : Config) →
    IsChecked program → answer dom engine program l string ≡ Answers (State s) → Reach program l string c →
    covers s (top c).heap (variables_of (top c).frames)

-- Under some inputs a run of the program ends with this fault at statement n.
pub record EndsWithFault (program : List Routine) (n : ℕ) (k : FaultKind) : Type 0 where
  pub inputs : List ℤ
  pub words : All IsWord inputs
  pub steps : ℕ
  pub last : Config
  pub comes : after_steps program steps (start program inputs) ≡ Some last
  pub faults : step program last ≡ Faulted n k

-- how a run fails a check
abbrev pub failing : Check → FaultKind
failing Bounds = Index
failing Null = NullFault
failing Assert = Failed

-- what a finding says of runs: none fails a safe check, none comes to a dead statement
pub record IsFindingSound (program : List Routine) (f : Finding) : Type 0 where
  pub safe : f.verdict ≡ Safe → EndsWithFault program f.id (failing f.check) → ⊥
  pub dead : f.verdict ≡ Dead → (c : Config) → Reach program (Before f.id) [] c → ⊥

abbrev pub AreReportsSound : {S : Type 0} → Operations S → Type 0
AreReportsSound {S} dom =
    (engine : LoopOptions) (program : List Routine) (f : Finding) → IsChecked program → Contains (report dom engine program) f → IsFindingSound program f

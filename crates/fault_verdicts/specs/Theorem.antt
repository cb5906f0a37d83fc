-- What is claimed of reports of faults.
use Rattle.std.specs.Prelude.{◌≡◌, ℕ, List, [], Contains, ◌⊎◌}
use Rattle.imp_slots.specs.Plain.{Routine}
use Rattle.imp_slots.specs.Fits.{IsChecked}
use Rattle.imp_words.specs.declared.fault.FaultKind.{FaultKind}
use Rattle.concrete_sem.specs.Steps.{Config, Next, step}
use Rattle.concrete_sem.specs.Reach.{Reach}
use Rattle.batch_meaning.specs.Batch.{LoopOptions}
use Rattle.batch_sound.specs.Theorem.{EndsWithFault}
use Rattle.domain_laws.specs.Operations.{Operations}
use Rattle.fault_words.specs.declared.finding.FaultVerdict.TheVariants.{Dead, Safe, May, Fails}
use Rattle.fault_words.specs.declared.finding.FaultFinding.{FaultFinding}
use Rattle.fault_verdicts.specs.declared.statement.Evaluated.{Evaluated}
use Rattle.fault_verdicts.specs.Statements.{evaluated_statements, place_of}
use Rattle.fault_verdicts.specs.Report.{faults}

-- A run comes to where statement n of the program evaluates.
pub record Comes (program : List Routine) (n : ℕ) (c : Config) : Type 0 where
  pub statement : Evaluated
  pub of_program : Contains (evaluated_statements program) statement
  pub number : statement.number ≡ n
  pub reach : Reach program (place_of statement) [] c

-- What a finding says of runs: none ends with a fault that is safe, none comes to a statement that is dead, none goes on
-- from one that fails.
pub record IsFaultSound (program : List Routine) (f : FaultFinding) : Type 0 where
  pub safe : f.verdict ≡ Safe → EndsWithFault program f.id f.fault → ⊥
  pub dead : f.verdict ≡ Dead → (c : Config) → Comes program f.id c → ⊥
  pub fails : f.verdict ≡ Fails → (c d : Config) → Comes program f.id c → step program c ≡ Next d → ⊥

-- the fault of statement n is told: it may come, or no run goes on
pub record IsTold (all : List FaultFinding) (n : ℕ) (k : FaultKind) : Type 0 where
  pub finding : FaultFinding
  pub of_report : Contains all finding
  pub id : finding.id ≡ n
  pub fault : finding.fault ≡ k
  pub verdict : (finding.verdict ≡ May) ⊎ (finding.verdict ≡ Fails)

-- no verdict is may or fails
abbrev pub NoneWarns : List FaultFinding → Type 0
NoneWarns all = (f : FaultFinding) → Contains all f → (f.verdict ≡ Safe) ⊎ (f.verdict ≡ Dead)

-- No run of the program ends with a fault, under any inputs.
abbrev pub NeverFails : List Routine → Type 0
NeverFails program = (n : ℕ) (k : FaultKind) → EndsWithFault program n k → ⊥

-- What a report says of a program.
pub record IsReportSound (program : List Routine) (all : List FaultFinding) : Type 0 where
  pub each : (f : FaultFinding) → Contains all f → IsFaultSound program f
  pub complete : (n : ℕ) (k : FaultKind) → EndsWithFault program n k → IsTold all n k
  pub never : NoneWarns all → NeverFails program

abbrev pub AreFaultsSound : {S : Type 0} → Operations S → Type 0
AreFaultsSound {S} dom = (engine : LoopOptions) (program : List Routine) → IsChecked program → IsReportSound program (faults dom engine program)

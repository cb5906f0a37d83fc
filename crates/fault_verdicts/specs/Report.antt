-- The report of faults: a verdict for each fault that a statement can end a run with.
use Rattle.std.specs.Prelude.{List, [], ◌∷◌, ◌++◌, map}
use Rattle.imp_slots.specs.Plain.{Routine}
use Rattle.imp_words.specs.declared.fault.FaultKind.{FaultKind}
use Rattle.imp_words.specs.declared.refusal.QueryRefusal.TheVariants.{LongString, NoProcedure, NoStatement, WrongStatement, NoChain}
use Rattle.domain_laws.specs.Operations.{Operations}
use Rattle.batch_meaning.specs.Values.{State, Over}
use Rattle.batch_meaning.specs.Batch.{LoopOptions}
use Rattle.batch_meaning.specs.Answers.{Answer, Refuses, Answers, answer}
use Rattle.fault_points.specs.declared.point.FaultPoint.{FaultPoint}
use Rattle.fault_words.specs.declared.finding.FaultVerdict.{FaultVerdict}
use Rattle.fault_words.specs.declared.finding.FaultVerdict.TheVariants.{Dead, May}
use Rattle.fault_words.specs.declared.finding.FaultFinding.{FaultFinding}
use Rattle.fault_verdicts.specs.declared.statement.Evaluated.{Evaluated}
use Rattle.fault_verdicts.specs.Verdicts.{verdict_of, kinds_of}
use Rattle.fault_verdicts.specs.Statements.{evaluated_statements, place_of}

module _ {S : Type 0} (dom : Operations S) where
  -- dead where no chain comes to the procedure, may where the value is Over, else what the state says
  abbrev pub verdict_in : Answer S → FaultKind → List FaultPoint → FaultVerdict
  verdict_in (Refuses NoChain) k ps = Dead
  verdict_in (Refuses LongString) k ps = May
  verdict_in (Refuses NoProcedure) k ps = May
  verdict_in (Refuses NoStatement) k ps = May
  verdict_in (Refuses WrongStatement) k ps = May
  verdict_in (Answers (Over n z)) k ps = May
  verdict_in (Answers (State s)) k ps = verdict_of dom s k ps

  abbrev pub fault_finding : Answer S → Evaluated → FaultKind → FaultFinding
  fault_finding a x k = record { id = x.number; fault = k; verdict = verdict_in a k x.points }

  -- of a statement, by the answer where it evaluates
  abbrev pub findings_by : Answer S → Evaluated → List FaultFinding
  findings_by a x = map (fault_finding a x) (kinds_of x.points)

  module _ (engine : LoopOptions) (program : List Routine) where
    abbrev pub findings_of : List Evaluated → List FaultFinding
    findings_of [] = []
    findings_of (x ∷ xs) = findings_by (answer dom engine program (place_of x) []) x ++ findings_of xs

    abbrev pub faults : List FaultFinding
    faults = findings_of (evaluated_statements program)

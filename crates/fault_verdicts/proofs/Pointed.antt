-- Statements without fault points: nothing is found of them.
use Rattle.std.proofs.Common.{◌≡◌, Bool, true, false, List, [], ◌∷◌, ◌++◌, map, refl, sym, ap, ◌∙◌}
use Rattle.imp_slots.specs.Plain.{Routine}
use Rattle.domain_laws.specs.Operations.{Operations}
use Rattle.batch_meaning.specs.Answers.{Answer, answer}
use Rattle.batch_meaning.specs.Batch.{LoopOptions}
use Rattle.fault_points.specs.declared.point.FaultPoint.{FaultPoint}
use Rattle.fault_words.specs.declared.finding.FaultFinding.{FaultFinding}
use Rattle.fault_verdicts.specs.declared.statement.Evaluated.{Evaluated}
use Rattle.fault_verdicts.specs.Verdicts.{kinds_of}
use Rattle.fault_verdicts.specs.Statements.{are_some, evaluated_statements, has_points, place_of, with_points}
use Rattle.fault_verdicts.specs.Report.{fault_finding, faults, findings_by, findings_of}

module _ {S : Type 0} (dom : Operations S) where
  pub none_found : (a : Answer S) (x : Evaluated) → has_points x ≡ false → findings_by dom a x ≡ []
  none_found a x e = go x.points e
    where
      go : (ps : List FaultPoint) → are_some ps ≡ false → map (fault_finding dom a x) (kinds_of ps) ≡ []
      go [] h = refl
      go (p ∷ ps) h = absurd cc

  module _ (engine : LoopOptions) (program : List Routine) where
    -- what is found of a statement
    abbrev here : Evaluated → List FaultFinding
    here x = findings_by dom (answer dom engine program (place_of x) []) x

    -- so those that have points give the report
    pub pointed_found : (xs : List Evaluated) → findings_of dom engine program (with_points xs) ≡ findings_of dom engine program xs
    pointed_found [] = refl
    pointed_found (x ∷ xs) = go (has_points x) refl (pointed_found xs)
      where
        go : (b : Bool) → has_points x ≡ b → findings_of dom engine program (with_points xs) ≡ findings_of dom engine program xs → findings_of dom engine program (with_points (x ∷ xs)) ≡ here x ++ findings_of dom engine program xs
        go true e more = rw e (ap (λ fs. here x ++ fs) more)
        go false e more = rw e (more ∙ ap (λ fs. fs ++ findings_of dom engine program xs) (sym (none_found (answer dom engine program (place_of x) []) x e)))

    pub pointed_faults : findings_of dom engine program (with_points (evaluated_statements program)) ≡ faults dom engine program
    pointed_faults = pointed_found (evaluated_statements program)

-- What is found of the check of a statement.
use Rattle.imp_slots.specs.Plain.{Act}
use Rattle.domain_laws.specs.Operations.{Operations}
use Rattle.imp_words.specs.declared.verdict.Verdict.{Verdict}
use Rattle.imp_words.specs.declared.verdict.Verdict.TheVariants.{Dead, May}
use Rattle.alarm_report.specs.declared.Found.{Found}
use Rattle.alarm_report.specs.declared.Found.TheVariants.{Absent, Over, State}

-- dead where no chain comes, may where a loop used up its budget, else what the state says
abbrev pub verdict_for : {S : Type 0} → Operations S → Act → Found S → Verdict
verdict_for dom act Absent = Dead
verdict_for dom act Over = May
verdict_for dom act (State s) = dom.check act s.now

-- The report: a verdict on each statement that has a check.
use Rattle.std.specs.Prelude.{ℕ, List, [], ◌∷◌, ◌++◌, map, Option, Some, None}
use Rattle.imp_syntax.specs.declared.edit.Location.TheVariants.{Before}
use Rattle.imp_slots.specs.Plain.{Effect, Does, Code, Stop, Simple, If, While, Call, Break, Routine}
use Rattle.imp_words.specs.declared.verdict.Verdict.{Verdict}
use Rattle.imp_words.specs.declared.verdict.Verdict.TheVariants.{Dead, May}
use Rattle.domain_laws.specs.Operations.{Operations}
use Rattle.domain_laws.specs.Checks.{Check, check_of, kind_of}
use Rattle.imp_words.specs.declared.findings.Finding.{Finding}
use Rattle.batch_meaning.specs.Values.{State, Over}
use Rattle.batch_meaning.specs.Batch.{LoopOptions}
use Rattle.batch_meaning.specs.Answers.{Answer, Refuses, Answers, answer}
use Rattle.imp_words.specs.declared.refusal.QueryRefusal.TheVariants.{LongString, NoProcedure, NoStatement, WrongStatement, NoChain}

-- A statement that has a check.
pub record CheckedStatement : Type 0 where
  pub number : ℕ
  pub effect : Effect
  pub check : Check

abbrev pub checked_one : ℕ → Effect → Option Check → List CheckedStatement
checked_one n e None = []
checked_one n e (Some c) = record { number = n; effect = e; check = c } ∷ []

-- the checked statements of a block, of procedures, in the order of the text
abbrev pub checked_in : Code → List CheckedStatement
checked_in Stop = []
checked_in (Simple n e r) = checked_one n e (check_of e) ++ checked_in r
checked_in (If n g t e r) = checked_in t ++ (checked_in e ++ checked_in r)
checked_in (While n g b r) = checked_in b ++ checked_in r
checked_in (Call n i q r) = checked_in r
checked_in (Break n r) = checked_in r

abbrev pub checked_statements : List Routine → List CheckedStatement
checked_statements [] = []
checked_statements (r ∷ rs) = checked_in r.code ++ checked_statements rs

module _ {S : Type 0} (dom : Operations S) (engine : LoopOptions) where
  -- dead where no chain comes to the procedure, may where the value is Over, else what the state says
  abbrev pub verdict_on : Effect → Answer S → Verdict
  verdict_on e (Refuses NoChain) = Dead
  verdict_on e (Refuses LongString) = May
  verdict_on e (Refuses NoProcedure) = May
  verdict_on e (Refuses NoStatement) = May
  verdict_on e (Refuses WrongStatement) = May
  verdict_on e (Answers (Over n z)) = May
  verdict_on e (Answers (State s)) = dom.check (Does e) s

  abbrev pub finding : List Routine → CheckedStatement → Finding
  finding program c = record { id = c.number; check = kind_of c.check; verdict = verdict_on c.effect (answer dom engine program (Before c.number) []) }

  abbrev pub report : List Routine → List Finding
  report program = map (finding program) (checked_statements program)

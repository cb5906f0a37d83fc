-- Reports: the checked statements of a program, and what is found of them.
use Rattle.std.specs.Prelude.{◌≡◌, ℕ, ◌+◌, ◌*◌, List, [], ◌∷◌, ◌++◌, map, length, Option, Some, None, Result, Ok, Err, Contains, IfOk, IsSome, OnOk}
use Rattle.imp_syntax.specs.Plain.{Procedure}
use Rattle.imp_syntax.specs.declared.edit.Location.{Location}
use Rattle.imp_syntax.specs.declared.edit.Location.TheVariants.{Before}
use Rattle.imp_slots.specs.Plain.{Act, DoBreak, Does, Effect, Routine}
use Rattle.imp_slots.specs.ActionViews.{act_of}
use Rattle.imp_slots.specs.declared.actions.SlotStmt.{SlotStmt}
use Rattle.imp_check.specs.Entries.{entries_of, entry_of}
use Rattle.imp_check.specs.Slots.{routines_of}
use Rattle.imp_check.specs.declared.entry.Entry.{Entry}
use Rattle.imp_check.specs.declared.entry.SlotForm.{SlotForm}
use Rattle.imp_check.specs.declared.entry.SlotForm.TheVariants as form
use Rattle.base_values.specs.declared.error.Memory.{Memory}
use Rattle.imp_words.specs.declared.findings.Finding.{Finding}
use Rattle.imp_words.specs.declared.refusal.QueryRefusal.{QueryRefusal}
use Rattle.domain_laws.specs.Operations.{Operations}
use Rattle.domain_laws.specs.Checks.{Check, check_of, kind_in, kind_of}
use Rattle.alarm_report.specs.Reporting.{verdict_for}
use Rattle.alarm_report.specs.declared.Found.{Found}
use Rattle.batch_meaning.specs.Answers.{Answer}
use Rattle.batch_meaning.specs.Batch.{LoopOptions}
use Rattle.batch_meaning.specs.Report.{CheckedStatement, checked_one, checked_statements, finding, report, verdict_on}
use Rattle.batch_sound.specs.Theorem.{IsFindingSound}
use Rattle.daig_graph.specs.declared.value.Value.{Value}
use Rattle.daig_machine.specs.Machine.{Machine}
use Rattle.daig_machine.specs.Turns.{IsBetween, missing_for_report, after_report}
use Rattle.daig_session.specs.declared.parts.Parts.{Parts}
use Rattle.daig_session.specs.Places.{chain_count, Tells}
use Rattle.daig_session.specs.Sessions.{FromEach, TicksAtMost}

-- a statement of a number, if it has a check
abbrev pub checked_act : ℕ → Act → List CheckedStatement
checked_act n DoBreak = []
checked_act n (Does e) = checked_one n e (check_of e)

abbrev pub checked_form : ℕ → SlotForm → List CheckedStatement
checked_form n (form.Stmt s) = checked_act n (act_of s)
checked_form n (form.Cond c) = []
checked_form n (form.Call i q) = []

abbrev pub checked_entry : ℕ → Option Entry → List CheckedStatement
checked_entry n None = []
checked_entry n (Some e) = checked_form n e.form

abbrev pub checked_stmt : ℕ → Option SlotStmt → List CheckedStatement
checked_stmt n None = []
checked_stmt n (Some s) = checked_act n (act_of s)

-- those of some statements, by their numbers
abbrev pub checked_by : (at : ℕ → Option Entry) → List ℕ → List CheckedStatement
checked_by at [] = []
checked_by at (n ∷ ns) = checked_entry n (at n) ++ checked_by at ns

-- the statement of a number in a program, and some of them
abbrev pub checked_at : List Procedure → ℕ → List CheckedStatement
checked_at program n = checked_entry n (entry_of (entries_of program) n)

abbrev pub checked_among : List Procedure → List ℕ → List CheckedStatement
checked_among program ns = checked_by (entry_of (entries_of program)) ns

-- what a statement does has a check
abbrev pub IsChecked : SlotStmt → Type 0
IsChecked s = IsSome (kind_in (act_of s))

-- a statement that has a check
abbrev pub HasCheck : List Procedure → ℕ → Type 0
HasCheck program n = (e : Effect) × (k : Check) × (checked_at program n ≡ checked_one n e (Some k))

-- where they are asked for
abbrev pub places_of : List CheckedStatement → List Location
places_of cs = map (λ c. Before c.number) cs

-- those of a statement, if it has a check, and those of some statements, by their numbers
abbrev pub checks_at : List Procedure → ℕ → List Location
checks_at program n = places_of (checked_at program n)

abbrev pub checks_among : List Procedure → List ℕ → List Location
checks_among program [] = []
checks_among program (n ∷ ns) = checks_at program n ++ checks_among program ns

-- the number of chains to all of a machine's
abbrev pub checked_chains : Machine → ℕ
checked_chains m = chain_count (routines_of m.program) (places_of (checked_statements (routines_of m.program)))

module _ {S : Type 0} (dom : Operations S) (m : Machine) where
  -- A report: that of the present program, interpreted from scratch; what was missing for it is kept.
  abbrev pub Reports : (stands : Machine → Type 0) → Result (List Finding) Memory → Type 0
  Reports stands (Ok found) = (found ≡ report dom m.engine (routines_of m.program)) × stands (after_report dom m)
  Reports stands (Err e) = IsBetween (missing_for_report dom m) m stands

  -- what is found of them
  abbrev pub findings : List CheckedStatement → List Finding
  findings cs = map (finding dom m.engine (routines_of m.program)) cs

-- what a report makes of an answer: the verdict of each answer that is told so
abbrev pub GivesVerdict : {S : Type 0} → (is_told : Answer S → Type 0) → Found S → Type 0
GivesVerdict {S} is_told found =
    (dom : Operations S) (engine : LoopOptions) (a : Answer S) (e : Effect) → is_told a → verdict_for dom (Does e) found ≡ verdict_on dom engine e a

-- the finding of the one check that these statements have, by each answer that is told so
abbrev pub GivesFinding : {S : Type 0} → Operations S → (id : ℕ) → Result (Value S) QueryRefusal → List CheckedStatement → Result Finding Memory → Type 0
GivesFinding {S} dom id known checked result =
    (engine : LoopOptions) (a : Answer S) (e : Effect) (k : Check) → Tells a known → checked ≡ checked_one id e (Some k) →
    IfOk result (λ f. f ≡ record { id = id; check = kind_of k; verdict = verdict_on dom engine e a })

-- the checked statement of this number in a machine's program, and those of these numbers
abbrev pub statement_here : ℕ → Machine → List CheckedStatement
statement_here id m = checked_at m.program id

abbrev pub statements_in : List ℕ → Machine → List CheckedStatement
statements_in ids m = checked_among m.program ids

-- where they are asked for, and where all are
abbrev pub checked_here : ℕ → Machine → List Location
checked_here id m = places_of (statement_here id m)

abbrev pub checked_in : List ℕ → Machine → List Location
checked_in ids m = places_of (statements_in ids m)

abbrev pub all_checked : Machine → List Location
all_checked m = places_of (checked_statements (routines_of m.program))

-- What a report does for the checked statements of each machine that the session stood for.
module _ {D S : Type 0} (operations : D → Operations S) (old new : Parts D S) where
  -- What is found of them comes after what was found before.
  abbrev pub Finds : (Machine → List CheckedStatement) → (before after : List Finding) → Type 0
  Finds checked before after = FromEach operations old new (λ dom m _. after ≡ before ++ findings dom m (checked m))

  -- All that is found is what is found of all of them.
  abbrev pub FindsAll : (found : List Finding) → Type 0
  FindsAll found = FromEach operations old new (λ dom m _. found ≡ findings dom m (checked_statements (routines_of m.program)))

  -- A report: that of the present program, interpreted from scratch, ..
  abbrev pub ReportsFrom : Result (List Finding) Memory → Type 0
  ReportsFrom result = FromEach operations old new (λ dom m stands. Reports dom m stands result)

  -- .. and the work for it.
  abbrev pub TicksForReport : {E : Type 0} → (counted : D → ℕ) → (before after : ℕ) → Result (List Finding) E → Type 0
  TicksForReport counted before after result = FromEach operations old new
      (λ dom m _. OnOk result (TicksAtMost counted old before after (length (missing_for_report dom m) + 2 * checked_chains m)))

-- each finding is sound for every run of the session's program
abbrev pub AreFindingsSound : {D S : Type 0} → Parts D S → List Finding → Type 0
AreFindingsSound session found = (f : Finding) → Contains found f → IsFindingSound (routines_of session.book.history.now) f

-- What calls answer, and the machines that stand after them.
use Rattle.std.specs.Prelude.{◌≡◌, ◌⊎◌, ℕ, ◌+◌, ◌*◌, ◌<◌, ◌≤◌, nat_lt, List, [], length, Option, Some, None, Result, Ok, Err, Contains, false}
use Rattle.imp_syntax.specs.Plain.{Procedure}
use Rattle.imp_syntax.specs.declared.edit.Location.{Location}
use Rattle.imp_words.specs.declared.refusal.QueryRefusal.{QueryRefusal}
use Rattle.imp_words.specs.declared.refusal.QueryRefusal.TheVariants.{LongString}
use Rattle.imp_words.specs.declared.findings.Finding.{Finding}
use Rattle.imp_check.specs.Slots.{routines_of}
use Rattle.concrete_sem.specs.Values.{Variables, Heap}
use Rattle.domain_laws.specs.Operations.{Operations}
use Rattle.batch_meaning.specs.Answers.{Refuses}
use Rattle.batch_meaning.specs.Batch.{LoopOptions}
use Rattle.batch_meaning.specs.Report.{report}
use Rattle.batch_sound.specs.Theorem.{IsFindingSound}
use Rattle.fault_verdicts.specs.Report.{faults}
use Rattle.fault_verdicts.specs.Theorem.{IsReportSound}
use Rattle.why_slice.specs.Claims.{Suffices}
use Rattle.daig_graph.specs.declared.value.Value.{Value}
use Rattle.daig_query.specs.Answered.{Covers, Says}
use Rattle.daig_tickets.specs.declared.tickets.NoTicket.{NoTicket}
use Rattle.daig_machine.specs.Machine.{Machine, Ticket}
use Rattle.daig_machine.specs.Turns.{IsBetween, answer_at, after_question, after_close, after_last_step, missing_asked, missing_at, refusal_asked, string_of, with_names, with_ticket, after_step, targets_of, upstream_at}
use Rattle.daig_machine.specs.declared.question.Question.{Question}
use Rattle.daig_machine.specs.declared.question.Question.TheVariants as asks
use Rattle.daig_session.specs.declared.error.QueryError.{QueryError}
use Rattle.daig_session.specs.declared.error.QueryError.TheVariants as query
use Rattle.daig_session.specs.declared.error.AskError.{AskError}
use Rattle.daig_session.specs.declared.error.AskError.TheVariants as ask
use Rattle.daig_session.specs.declared.error.StepError.{StepError}
use Rattle.daig_session.specs.declared.error.StepError.TheVariants as step
use Rattle.daig_session.specs.declared.error.UndoError.{UndoError}
use Rattle.daig_session.specs.declared.error.UndoError.TheVariants as undo
use Rattle.daig_session.specs.declared.stepping.StepResult.{StepResult}
use Rattle.daig_session.specs.declared.course.Kind.{Kind}
use Rattle.daig_session.specs.declared.course.Kind.TheVariants as kind
use Rattle.daig_session.specs.declared.stepping.StepResult.TheVariants as told
use Rattle.daig_session.specs.declared.stepping.Stepped.{Stepped}
use Rattle.daig_session.specs.declared.stepping.Stepped.TheVariants as stepped
use Rattle.daig_session.specs.Faults.{fault_chains}
use Rattle.daig_session.specs.Going.{IsAnswered, IsOfKind}
use Rattle.daig_session.specs.Reports.{checked_chains}

-- why no ticket is opened for a question that has no answer
abbrev pub ask_error : QueryError → AskError
ask_error (query.Refused r) = ask.Refused r
ask_error query.Memory = ask.Memory

-- what a step tells, of a machine
module _ {S : Type 0} (dom : Operations S) (m : Machine) where
  -- What a step tells is the answer of a question for a state, ..
  abbrev pub IsState : Location → (string : List ℕ) → StepResult S → Type 0
  IsState l string (told.Pending n) = ⊥
  IsState l string (told.State v) = Says (answer_at dom l string m) (Some v)
  IsState l string (told.Why stmts) = ⊥
  IsState l string (told.Report found) = ⊥
  IsState l string (told.Faults found) = ⊥

  -- .. for the statements that it depends on, ..
  abbrev pub IsWhy : Location → (string : List ℕ) → StepResult S → Type 0
  IsWhy l string (told.Pending n) = ⊥
  IsWhy l string (told.State v) = ⊥
  IsWhy l string (told.Why stmts) = IsAnswered (answer_at dom l string m) × (stmts ≡ upstream_at dom l string m)
  IsWhy l string (told.Report found) = ⊥
  IsWhy l string (told.Faults found) = ⊥

  -- .. for a report, ..
  abbrev pub IsReport : StepResult S → Type 0
  IsReport (told.Pending n) = ⊥
  IsReport (told.State v) = ⊥
  IsReport (told.Why stmts) = ⊥
  IsReport (told.Report found) = found ≡ report dom m.engine (routines_of m.program)
  IsReport (told.Faults found) = ⊥

  -- .. or for a report of faults: ..
  abbrev pub IsFaults : StepResult S → Type 0
  IsFaults (told.Pending n) = ⊥
  IsFaults (told.State v) = ⊥
  IsFaults (told.Why stmts) = ⊥
  IsFaults (told.Report found) = ⊥
  IsFaults (told.Faults found) = found ≡ faults dom m.engine (routines_of m.program)

  -- .. that of the present program, interpreted from scratch.
  abbrev pub IsTold : Question → StepResult S → Type 0
  IsTold (asks.State l string) turn = IsState l string turn
  IsTold (asks.Why l string) turn = IsWhy l string turn
  IsTold asks.Report turn = IsReport turn
  IsTold (asks.Faults only) turn = IsFaults turn

-- what answers are of a machine, and which machine stands after them
module _ {S : Type 0} (dom : Operations S) (m : Machine) (stands : Machine → Type 0) where
  -- A question without an answer: the program refuses it; or some of what was missing is kept, when memory runs out.
  abbrev pub Fails : Location → (string : List ℕ) → QueryError → Type 0
  Fails l string (query.Refused r) = (answer_at dom l string m ≡ Refuses r) × stands m
  Fails l string query.Memory = IsBetween (missing_at dom l string m) m stands

  -- A question: the answer of the present program, interpreted from scratch; what was missing is kept.
  abbrev pub Questions : Location → (string : List ℕ) → Result (Value S) QueryError → Type 0
  Questions l string (Ok v) = Says (answer_at dom l string m) (Some v) × stands (after_question dom l string m)
  Questions l string (Err e) = Fails l string e

  -- The same with the statements that the answer depends on in its place.
  abbrev pub Explains : Location → (string : List ℕ) → Result (List ℕ) QueryError → Type 0
  Explains l string (Ok stmts) = IsAnswered (answer_at dom l string m) × (stmts ≡ upstream_at dom l string m) × stands (after_question dom l string m)
  Explains l string (Err e) = Fails l string e

  -- No ticket is opened for a question with this call string: the program refuses it so; sixteen are open; or memory runs out.
  abbrev pub StaysUnopened : (string : List ℕ) → (refusal : Option QueryRefusal) → AskError → Type 0
  StaysUnopened string refusal (ask.Refused r) = (refusal ≡ Some r) × ((r ≡ LongString) ⊎ (length m.tickets < 16)) × stands m
  StaysUnopened string refusal ask.Full = (nat_lt 2 (length string) ≡ false) × (16 ≤ length m.tickets) × stands m
  StaysUnopened string refusal ask.Memory = stands m

  -- A ticket is opened, exactly where fewer than sixteen are and the program does not refuse the question.
  abbrev pub Opens : Question → Result ℕ AskError → Type 0
  Opens q (Ok n) = (n ≡ m.next_ticket) × (length m.tickets < 16) × (refusal_asked dom q m ≡ None) × stands (with_ticket q m)
  Opens q (Err e) = StaysUnopened (string_of q) (refusal_asked dom q m) e

  module _ (t : Ticket) (most : ℕ) where
    -- More than so many names were missing, of which the first are kept now.
    pub record IsPending (n : ℕ) : Type 0 where
      pub filled : n ≡ most
      pub answers : refusal_asked dom t.question m ≡ None
      pub more : most < length (missing_asked dom t.question m)
      pub after : stands (after_step dom t most m)

    -- All that was missing is kept now; the answer is told, and the ticket is closed.
    pub record IsDone (turn : StepResult S) : Type 0 where
      pub few : length (missing_asked dom t.question m) ≤ most
      pub says : IsTold dom m t.question turn
      pub after : stands (after_last_step dom t m)

    -- The present program has no such location, or no chain to it; the ticket is closed.
    pub record IsGone : Type 0 where
      pub why : QueryRefusal
      pub refused : refusal_asked dom t.question m ≡ Some why
      pub after : stands (after_close t.number m)

    abbrev pub IsStep : Result (StepResult S) StepError → Type 0
    IsStep (Ok (told.Pending n)) = IsPending n
    IsStep (Ok (told.State v)) = IsDone (told.State v)
    IsStep (Ok (told.Why stmts)) = IsDone (told.Why stmts)
    IsStep (Ok (told.Report found)) = IsDone (told.Report found)
    IsStep (Ok (told.Faults found)) = IsDone (told.Faults found)
    IsStep (Err step.NoTicket) = ⊥
    IsStep (Err step.Gone) = IsGone
    IsStep (Err step.Memory) = IsBetween (missing_asked dom t.question m) m stands

    -- For a report all that was missing is kept now, and its statements are still to be judged.
    pub record IsToJudge (kind : Kind) (filled : ℕ) : Type 0 where
      pub kind_is : IsOfKind t.question kind
      pub few : length (missing_asked dom t.question m) ≤ most
      pub filled_is : filled ≡ length (missing_asked dom t.question m)
      pub after : stands (with_names (missing_asked dom t.question m) m)

    -- A step with a report's statements still to be judged.
    abbrev pub IsStepped : Result (Stepped S) StepError → Type 0
    IsStepped (Ok (stepped.Told turn)) = IsStep (Ok turn)
    IsStepped (Ok (stepped.Full kind filled)) = IsToJudge kind filled
    IsStepped (Err e) = IsStep (Err e)

  -- A step of a ticket, or of none.
  abbrev pub IsStepOf : (most : ℕ) → Option Ticket → Result (StepResult S) StepError → Type 0
  IsStepOf most None r = (r ≡ Err step.NoTicket) × stands m
  IsStepOf most (Some t) r = IsStep t most r

  abbrev pub IsSteppedOf : (ticket most : ℕ) → Option Ticket → Result (Stepped S) StepError → Type 0
  IsSteppedOf ticket most None r = (r ≡ Err step.NoTicket) × stands m
  IsSteppedOf ticket most (Some t) r = (t.number ≡ ticket) × IsStepped t most r

-- what a report tells, and the chains to its places
abbrev pub IsJudged : {S : Type 0} → Operations S → Machine → Kind → StepResult S → Type 0
IsJudged dom m kind.Checks turn = IsReport dom m turn
IsJudged dom m kind.Faults turn = IsFaults dom m turn

abbrev pub chains_along : Machine → Kind → ℕ
chains_along m kind.Checks = checked_chains m
chains_along m kind.Faults = fault_chains m

-- the chains whose states are read for an answer: those of a state, and those to all the places of a report
abbrev pub chains_read : Machine → Question → ℕ
chains_read m (asks.State l string) = length (targets_of m l string)
chains_read m (asks.Why l string) = 0
chains_read m asks.Report = checked_chains m
chains_read m (asks.Faults only) = fault_chains m

-- how many cells a step fills, and twice the chains that are read for an answer
abbrev pub work_of : {S : Type 0} → Operations S → Machine → Question → StepResult S → ℕ
work_of dom m q (told.Pending n) = n
work_of dom m q (told.State v) = length (missing_asked dom q m) + 2 * chains_read m q
work_of dom m q (told.Why stmts) = length (missing_asked dom q m) + 2 * chains_read m q
work_of dom m q (told.Report found) = length (missing_asked dom q m) + 2 * chains_read m q
work_of dom m q (told.Faults found) = length (missing_asked dom q m) + 2 * chains_read m q

-- the same before a report is judged
abbrev pub work_until : {S : Type 0} → Operations S → Machine → Question → Stepped S → ℕ
work_until dom m q (stepped.Told turn) = work_of dom m q turn
work_until dom m q (stepped.Full kind filled) = filled

-- a report that is told is sound
abbrev pub ReportsDone : {S : Type 0} → (program : List Procedure) → StepResult S → Type 0
ReportsDone program (told.Pending n) = Unit {0}
ReportsDone program (told.State v) = Unit {0}
ReportsDone program (told.Why stmts) = Unit {0}
ReportsDone program (told.Report found) = (f : Finding) → Contains found f → IsFindingSound (routines_of program) f
ReportsDone program (told.Faults found) = IsReportSound (routines_of program) found

-- What a step tells holds of every run: a state covers those there, ..
module _ {S : Type 0} (dom : Operations S) (covers : S → Heap → List Variables → Type 0) (engine : LoopOptions) (program : List Procedure) where
  abbrev pub CoversDone : Location → (string : List ℕ) → StepResult S → Type 0
  CoversDone l string (told.Pending n) = Unit {0}
  CoversDone l string (told.State v) = Covers covers (routines_of program) l string (Some v)
  CoversDone l string (told.Why stmts) = Unit {0}
  CoversDone l string (told.Report found) = Unit {0}
  CoversDone l string (told.Faults found) = Unit {0}

  -- .. the statements that a state depends on suffice for it, ..
  abbrev pub SufficesDone : Location → (string : List ℕ) → StepResult S → Type 0
  SufficesDone l string (told.Pending n) = Unit {0}
  SufficesDone l string (told.State v) = Unit {0}
  SufficesDone l string (told.Why stmts) = Suffices dom engine program l string stmts
  SufficesDone l string (told.Report found) = Unit {0}
  SufficesDone l string (told.Faults found) = Unit {0}

  -- .. and reports are sound.
  abbrev pub SoundDone : Question → StepResult S → Type 0
  SoundDone (asks.State l string) turn = CoversDone l string turn
  SoundDone (asks.Why l string) turn = SufficesDone l string turn
  SoundDone asks.Report turn = ReportsDone program turn
  SoundDone (asks.Faults only) turn = ReportsDone program turn

  abbrev pub SoundUntil : Question → Stepped S → Type 0
  SoundUntil q (stepped.Told turn) = SoundDone q turn
  SoundUntil q (stepped.Full kind filled) = Unit {0}

-- A ticket is closed, if one of this number is open.
abbrev pub Cancels : (m : Machine) → (stands : Machine → Type 0) → (number : ℕ) → Option Ticket → Result (Unit {0}) NoTicket → Type 0
Cancels m stands number None (Ok done) = ⊥
Cancels m stands number None (Err none) = stands m
Cancels m stands number (Some t) (Ok done) = stands (after_close number m)
Cancels m stands number (Some t) (Err none) = ⊥

-- A move to the nearest of some programs, if there is one.
abbrev pub Goes : (m : Machine) → (stands : Machine → Type 0) → (side : List (List Procedure)) → (there : Machine) → Result ℕ UndoError → Type 0
Goes m stands side there (Ok n) = (0 < length side) × (n ≡ m.next) × stands there
Goes m stands side there (Err undo.Nothing) = (side ≡ []) × stands m
Goes m stands side there (Err undo.Memory) = stands m

-- why there is no such move
abbrev pub IsStopped : List (List Procedure) → UndoError → Type 0
IsStopped side undo.Nothing = side ≡ []
IsStopped side undo.Memory = Unit {0}

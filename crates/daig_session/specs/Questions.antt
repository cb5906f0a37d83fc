-- What a question does to a session: what it fills, what it answers, and what is counted for it.
use Rattle.std.specs.Prelude.{◌≡◌, ◌+◌, ◌*◌, ℕ, suc, List, length, map, slice_get, Some, Result, Err, IfOk, IfErr, IfSome, OnOk, None, MatchOption}
use Rattle.imp_syntax.specs.declared.edit.Location.{Location}
use Rattle.imp_check.specs.Slots.{routines_of}
use Rattle.imp_flow.specs.Reached.{target_of}
use Rattle.domain_laws.specs.Operations.{Operations}
use Rattle.concrete_sem.specs.Values.{Variables, Heap}
use Rattle.daig_graph.specs.declared.value.Value.{Value}
use Rattle.daig_query.specs.Answered.{AreFilled, Covers}
use Rattle.daig_machine.specs.Machine.{Machine, keeping, ticket_of}
use Rattle.daig_machine.specs.Turns.{after_question, missing_at, refusal_asked, string_of, targets_of, IsBetween}
use Rattle.daig_machine.specs.declared.question.Question.{Question}
use Rattle.daig_machine.specs.declared.question.Question.TheVariants as asks
use Rattle.why_slice.specs.Claims.{Suffices}
use Rattle.daig_tickets.specs.declared.tickets.NoTicket.{NoTicket}
use Rattle.daig_tickets.specs.declared.tickets.OpenTicket.{OpenTicket}
use Rattle.daig_tickets.specs.Tickets.{ticket as ticket_in}
use Rattle.daig_session.specs.declared.course.Course.{Course}
use Rattle.daig_session.specs.declared.course.Going.{Going}
use Rattle.daig_session.specs.declared.error.AskError.{AskError}
use Rattle.daig_session.specs.declared.error.QueryError.{QueryError}
use Rattle.daig_session.specs.declared.error.StepError.{StepError}
use Rattle.daig_session.specs.declared.parts.Parts.{Parts}
use Rattle.daig_session.specs.declared.queries.Filled.{Filled}
use Rattle.daig_session.specs.declared.stepping.StepResult.{StepResult}
use Rattle.daig_session.specs.declared.stepping.Stepped.{Stepped}
use Rattle.daig_session.specs.declared.stepping.Stepped.TheVariants as stepped
use Rattle.daig_session.specs.declared.book.Book.{Book}
use Rattle.daig_session.specs.declared.course.Kind.{Kind}
use Rattle.cell_rows.specs.Targets.{Target}
use Rattle.daig_query.specs.declared.engine.Engine.{Engine}
use Rattle.daig_query.specs.declared.walk.Walk.{Walk}
use Rattle.daig_session.specs.Books.{flow_in, machine_of, OfTicketAt}
use Rattle.daig_session.specs.Engines.{WorksAtMost}
use Rattle.daig_session.specs.Going.{IsAsked, IsAtOne}
use Rattle.daig_session.specs.Holds.{Holds}
use Rattle.daig_session.specs.Sessions.{FromEach, StandsFor, TicksAtMost, TicksFilling}
use Rattle.daig_session.specs.Tours.{IsTourFull}
use Rattle.daig_session.specs.Turns.{chains_along, chains_read, work_of, work_until, Cancels, Explains, Fails, IsJudged, IsStep, IsStepOf, IsStepped, IsSteppedOf, IsTold, Opens, Questions, SoundDone, SoundUntil, StaysUnopened}

-- a question that a session's program has, with these targets
abbrev pub Asks : {D S : Type 0} → Parts D S → Location → List ℕ → Going → Type 0
Asks session l string going = IsAsked (flow_in session.book).program l string (map target_of going.targets)

-- Nothing is missing for it: its targets have values in the new session, by the program of the old one.
abbrev pub HasFilled : {D S : Type 0} → (D → Operations S) → (old new : Parts D S) → Going → Type 0
HasFilled operations old new going =
    AreFilled (operations old.engine.domain) new.engine.store going.walk (flow_in old.book) (map target_of going.targets)

-- What comes of a question, from each machine that the session stood for.
module _ {D S : Type 0} (operations : D → Operations S) (old new : Parts D S) (l : Location) (string : List ℕ) where
  -- Just what was missing is filled, ..
  abbrev pub FillsMissing : {E : Type 0} → Result Filled E → Type 0
  FillsMissing result = FromEach operations old new (λ dom m _. IfOk result (λ f. f.count ≡ length (missing_at dom l string m)))

  -- .. so that the machine after the question stands, once the cost is told.
  abbrev pub StandsAnswered : {E : Type 0} → Result Filled E → Type 0
  StandsAnswered result = FromEach operations old new (λ dom m _. IfOk result (λ f.
      Holds dom new.engine.store (record old.book { cost = f.count }) (after_question dom l string m)))

  -- Before that some of what was missing is kept.
  abbrev pub StandsBetween : {F E : Type 0} → Result F E → Type 0
  StandsBetween result = FromEach operations old new (λ dom m stands. IfOk result (λ _. IsBetween (missing_at dom l string m) m stands))

  -- why there is no answer
  abbrev pub FailsFrom : {F : Type 0} → Result F QueryError → Type 0
  FailsFrom result = FromEach operations old new (λ dom m stands. IfErr result (Fails dom m stands l string))

  -- the answer, and what the answer depends on
  abbrev pub QuestionsFrom : Result (Value S) QueryError → Type 0
  QuestionsFrom result = FromEach operations old new (λ dom m stands. Questions dom m stands l string result)

  abbrev pub ExplainsFrom : Result (List ℕ) QueryError → Type 0
  ExplainsFrom result = FromEach operations old new (λ dom m stands. Explains dom m stands l string result)

  -- The work for what was missing is counted, ..
  abbrev pub TicksForMissing : {F E : Type 0} → (counted : D → ℕ) → (before after : ℕ) → Result F E → Type 0
  TicksForMissing counted before after result = FromEach operations old new (λ dom m _. IfOk result (λ _.
      TicksAtMost counted old before after (length (missing_at dom l string m))))

  -- .. with that for the answer, two for each chain; ..
  abbrev pub TicksForAnswer : {F E : Type 0} → (counted : D → ℕ) → (before after : ℕ) → Result F E → Type 0
  TicksForAnswer counted before after result = FromEach operations old new (λ dom m _. IfOk result (λ _.
      TicksAtMost counted old before after (length (missing_at dom l string m) + 2 * length (targets_of m l string))))

  -- .. or that for what was filled of it.
  abbrev pub TicksForSome : (counted : D → ℕ) → (before after : ℕ) → Type 0
  TicksForSome counted before after =
      (m : Machine) → StandsFor operations old m → TicksFilling counted old new before after (2 * length (targets_of m l string))

-- a value that is answered for a question covers every run of the session's program there
abbrev pub CoversIn : {D S : Type 0} → (covers : D → S → Heap → List Variables → Type 0) → Parts D S → Location → List ℕ → Value S → Type 0
CoversIn covers session l string v = Covers (covers session.engine.domain) (routines_of session.book.history.now) l string (Some v)

-- the statements that are listed for it suffice in the session's program
abbrev pub SufficesIn : {D S : Type 0} → (operations : D → Operations S) → Parts D S → Location → List ℕ → List ℕ → Type 0
SufficesIn operations session l string = Suffices (operations session.engine.domain) session.book.setting.engine session.book.history.now l string

-- What comes of opening a ticket, from each machine that the session stood for, ..
abbrev pub OpensFrom : {D S : Type 0} → (operations : D → Operations S) → (old new : Parts D S) → Question → Result ℕ AskError → Type 0
OpensFrom operations old new q result = FromEach operations old new (λ dom m stands. Opens dom m stands q result)

-- .. where an error tells that none is opened, and the session stays, ..
abbrev pub StaysUnopenedFrom : {D S F : Type 0} → (operations : D → Operations S) → Parts D S → Question → Result F AskError → Type 0
StaysUnopenedFrom operations session q result = FromEach operations session session (λ dom m stands.
    IfErr result (StaysUnopened dom m stands (string_of q) (refusal_asked dom q m)))

-- .. and else the program does not refuse it, ..
abbrev pub NotRefuses : {D S T E : Type 0} → (operations : D → Operations S) → Parts D S → Question → Result T E → Type 0
NotRefuses operations session q result = FromEach operations session session (λ dom m _. OnOk result (refusal_asked dom q m ≡ None))

-- .. of a question at one place too, ..
abbrev pub StaysUnasked : {D S F : Type 0} → (operations : D → Operations S) → Parts D S → Location → (string : List ℕ) → Result F AskError → Type 0
StaysUnasked operations session l string result = StaysUnopenedFrom operations session (asks.State l string) result

-- .. and of closing one.
abbrev pub CancelsFrom : {D S : Type 0} → (operations : D → Operations S) → (old new : Parts D S) → (ticket : ℕ) → Result (Unit {0}) NoTicket → Type 0
CancelsFrom operations old new ticket result = FromEach operations old new (λ _ m stands. Cancels m stands ticket (ticket_of ticket m.tickets) result)

-- What comes of a step of a ticket, from each machine that the session stood for.
module _ {D S : Type 0} (operations : D → Operations S) (old new : Parts D S) (ticket : ℕ) where
  abbrev pub StepsFrom : (most : ℕ) → Result (StepResult S) StepError → Type 0
  StepsFrom most result = FromEach operations old new (λ dom m stands. IsStepOf dom m stands most (ticket_of ticket m.tickets) result)

  -- what it tells holds of every run
  abbrev pub IsSoundStep : (covers : D → S → Heap → List Variables → Type 0) → Result (StepResult S) StepError → Type 0
  IsSoundStep covers result = FromEach operations old new (λ dom m _. IfOk result (λ turn. IfSome (ticket_of ticket m.tickets) (λ t.
      SoundDone dom (covers old.engine.domain) m.engine m.program t.question turn)))

  -- The work for it is counted, ..
  abbrev pub TicksForStep : (counted : D → ℕ) → (before after : ℕ) → Result (StepResult S) StepError → Type 0
  TicksForStep counted before after result = FromEach operations old new (λ dom m _. IfOk result (λ turn. IfSome (ticket_of ticket m.tickets) (λ t.
      TicksAtMost counted old before after (work_of dom m t.question turn))))

  -- .. or that for what was filled; nothing is counted where there is no such ticket.
  abbrev pub TicksForSomeStep : (counted : D → ℕ) → (before after : ℕ) → Type 0
  TicksForSomeStep counted before after = (m : Machine) → StandsFor operations old m → MatchOption (ticket_of ticket m.tickets) (after ≡ before) (λ t.
      TicksFilling counted old new before after (2 * chains_read m t.question))

-- The same of the ticket at a place.
module _ {D S : Type 0} (operations : D → Operations S) (old new : Parts D S) (place : ℕ) where
  abbrev pub IsThere : OpenTicket Course → Type 0
  IsThere o = slice_get old.book.tickets.open_ones.items place ≡ Some o

  abbrev pub StepsThere : (most : ℕ) → Result (StepResult S) StepError → Type 0
  StepsThere most result = (m : Machine) (o : OpenTicket Course) → StandsFor operations old m → IsThere o →
      IsStep (operations old.engine.domain) m (StandsFor operations new) (ticket_in o) most result

  abbrev pub IsSoundThere : (covers : D → S → Heap → List Variables → Type 0) → Result (StepResult S) StepError → Type 0
  IsSoundThere covers result = (m : Machine) (o : OpenTicket Course) → StandsFor operations old m → IsThere o →
      IfOk result (SoundDone (operations old.engine.domain) (covers old.engine.domain) m.engine m.program o.question)

  abbrev pub TicksForThere : (counted : D → ℕ) → (before after : ℕ) → Result (StepResult S) StepError → Type 0
  TicksForThere counted before after result = (m : Machine) (o : OpenTicket Course) → StandsFor operations old m → IsThere o →
      IfOk result (λ turn. TicksAtMost counted old before after (work_of (operations old.engine.domain) m o.question turn))

  abbrev pub TicksForSomeThere : (counted : D → ℕ) → (before after : ℕ) → Type 0
  TicksForSomeThere counted before after = (m : Machine) (o : OpenTicket Course) → StandsFor operations old m → IsThere o →
      TicksFilling counted old new before after (2 * chains_read m o.question)

  -- .. before a report is judged
  abbrev pub SteppedThere : (most : ℕ) → Result (Stepped S) StepError → Type 0
  SteppedThere most result = (m : Machine) (o : OpenTicket Course) → StandsFor operations old m → IsThere o →
      IsStepped (operations old.engine.domain) m (StandsFor operations new) (ticket_in o) most result

  abbrev pub IsSoundUntilThere : (covers : D → S → Heap → List Variables → Type 0) → Result (Stepped S) StepError → Type 0
  IsSoundUntilThere covers result = (m : Machine) (o : OpenTicket Course) → StandsFor operations old m → IsThere o →
      IfOk result (SoundUntil (operations old.engine.domain) (covers old.engine.domain) m.engine m.program o.question)

  abbrev pub TicksUntilThere : (counted : D → ℕ) → (before after : ℕ) → Result (Stepped S) StepError → Type 0
  TicksUntilThere counted before after result = (m : Machine) (o : OpenTicket Course) → StandsFor operations old m → IsThere o →
      IfOk result (λ turn. TicksAtMost counted old before after (work_until (operations old.engine.domain) m o.question turn))

-- A step of a ticket before a report is judged.
module _ {D S : Type 0} (operations : D → Operations S) (old new : Parts D S) (ticket : ℕ) where
  abbrev pub StepsUntil : (most : ℕ) → Result (Stepped S) StepError → Type 0
  StepsUntil most result = FromEach operations old new (λ dom m stands. IsSteppedOf dom m stands ticket most (ticket_of ticket m.tickets) result)

  abbrev pub IsSoundUntil : (covers : D → S → Heap → List Variables → Type 0) → Result (Stepped S) StepError → Type 0
  IsSoundUntil covers result = FromEach operations old new (λ dom m _. IfOk result (λ turn. IfSome (ticket_of ticket m.tickets) (λ t.
      SoundUntil dom (covers old.engine.domain) m.engine m.program t.question turn)))

  abbrev pub TicksUntil : (counted : D → ℕ) → (before after : ℕ) → Result (Stepped S) StepError → Type 0
  TicksUntil counted before after result = FromEach operations old new (λ dom m _. IfOk result (λ turn. IfSome (ticket_of ticket m.tickets) (λ t.
      TicksAtMost counted old before after (work_until dom m t.question turn))))

-- nothing is missing any more where a report is to be judged
abbrev pub IsFullTurn : {D S : Type 0} → (operations : D → Operations S) → Parts D S → Stepped S → Type 0
IsFullTurn operations session (stepped.Told turn) = Unit {0}
IsFullTurn operations session (stepped.Full kind filled) = IsTourFull operations session kind

-- What is told of a report, for which nothing is missing: nothing more is kept.
abbrev pub JudgesFrom : {D S E : Type 0} → (operations : D → Operations S) → (old new : Parts D S) → Kind → Result (StepResult S) E → Type 0
JudgesFrom operations old new kind result = FromEach operations old new (λ dom m stands. IfOk result (λ turn.
    IsJudged dom m kind turn × stands (keeping m.kept 0 m)))

abbrev pub StaysUnjudged : {D S R E : Type 0} → (operations : D → Operations S) → (old new : Parts D S) → Result R E → Type 0
StaysUnjudged operations old new result = FromEach operations old new (λ dom m stands. IfErr result (λ _. stands m))

-- the work for it: two operations for each chain to its places; and one more where it fails
abbrev pub TicksForJudging : {D S R E : Type 0} → (operations : D → Operations S) → (old new : Parts D S) → (counted : D → ℕ) → Kind → (before after : ℕ) → Result R E → Type 0
TicksForJudging operations old new counted kind before after result = FromEach operations old new (λ dom m _. IfOk result (λ _.
    TicksAtMost counted old before after (2 * chains_along m kind)))

abbrev pub TicksWhileJudging : {D S : Type 0} → (operations : D → Operations S) → (old new : Parts D S) → (counted : D → ℕ) → Kind → (before after : ℕ) → Type 0
TicksWhileJudging operations old new counted kind before after = FromEach operations old new (λ dom m _.
    TicksAtMost counted old before after (suc (2 * chains_along m kind)))

-- What is told of the question of the ticket at a place of a book, ..
module _ {D S : Type 0} (operations : D → Operations S) (engine : Engine D S) (book : Book) (place : ℕ) where
  -- .. which asks at one place, and of which nothing is missing: for each machine with the book's program ..
  abbrev pub IsFilledAt : Walk → Type 0
  IsFilledAt walk = OfTicketAt book.tickets.open_ones.items place (λ o. IsAtOne o.question (λ l string. (ts : List Target) ×
      IsAsked (flow_in book).program l string ts × AreFilled (operations engine.domain) engine.store walk (flow_in book) ts))

  abbrev pub OfMachineAt : (Machine → Question → Type 0) → Type 0
  OfMachineAt holds = (m : Machine) → machine_of book m.kept ≡ m → OfTicketAt book.tickets.open_ones.items place (λ o. holds m o.question)

  -- .. it is the answer, ..
  abbrev pub TellsAtPlace : {E : Type 0} → Result (StepResult S) E → Type 0
  TellsAtPlace result = OfMachineAt (λ m q. IfOk result (IsTold (operations engine.domain) m q))

  -- .. it holds of every run, ..
  abbrev pub IsSoundAtPlace : {E : Type 0} → (covers : D → S → Heap → List Variables → Type 0) → Result (StepResult S) E → Type 0
  IsSoundAtPlace covers result = OfMachineAt (λ m q. IfOk result (SoundDone (operations engine.domain) (covers engine.domain) m.engine m.program q))

  -- .. and two operations are counted for each chain that is read.
  abbrev pub TicksAtPlace : (counted : D → ℕ) → (before after : ℕ) → Type 0
  TicksAtPlace counted before after = OfMachineAt (λ m q. WorksAtMost counted engine before after (2 * chains_read m q))

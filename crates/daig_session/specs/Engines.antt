-- What is said of an engine, by the operations of its domain: what its cells are right for, how far questions have come in it,
-- what it fills for them, and what is counted for that.
use Rattle.std.specs.Prelude.{◌≡◌, ◌≤◌, ◌+◌, ◌*◌, ℕ, suc, List, length, map, Option, Some, Result, IfOk, IfErr, IfSome}
use Rattle.std.specs.FinMap.{len}
use Rattle.imp_syntax.specs.declared.edit.Location.{Location}
use Rattle.concrete_sem.specs.Values.{Variables, Heap}
use Rattle.domain_laws.specs.Operations.{Operations}
use Rattle.batch_meaning.specs.Answers.{answer}
use Rattle.cell_rows.specs.Targets.{Target}
use Rattle.imp_flow.specs.Plans.{Plan}
use Rattle.imp_flow.specs.Reached.{target_of}
use Rattle.daig_graph.specs.declared.value.Value.{Value}
use Rattle.daig_query.specs.declared.engine.Engine.{Engine}
use Rattle.daig_query.specs.declared.names_sweep.NewNames.{NewNames}
use Rattle.daig_query.specs.declared.walk.Walk.{Walk}
use Rattle.daig_query.specs.Answered.{AreFilled, Covers, Says}
use Rattle.daig_query.specs.Filled.{cells_added, missing, Fills}
use Rattle.daig_query.specs.Renamed.{names_after}
use Rattle.daig_query.specs.Right.{IsRight}
use Rattle.daig_session.specs.declared.book.Book.{Book}
use Rattle.daig_machine.specs.Turns.{refusal_by}
use Rattle.daig_machine.specs.declared.question.Question.{Question}
use Rattle.daig_session.specs.declared.course.Course.{Course}
use Rattle.daig_session.specs.declared.course.Going.{Going}
use Rattle.daig_session.specs.declared.error.QueryError.{QueryError}
use Rattle.daig_session.specs.Books.{flow_in, OfTicketAt}
use Rattle.daig_session.specs.Going.{HasComeFar, IsAsked, IsGoing, IsRefused, TellsRefusal}
use Rattle.daig_session.specs.Holds.{IsReady}

module _ {D S : Type 0} (operations : D → Operations S) (engine : Engine D S) where
  -- Its cells are right for a program, ..
  abbrev pub IsRightFor : Plan → Type 0
  IsRightFor plan = IsRight (operations engine.domain) plan engine.store

  -- .. or for that of a book, which is in order with them.
  abbrev pub IsReadyWith : Book → Type 0
  IsReadyWith book = IsReady (operations engine.domain) engine.store book

  -- A question of a program has come so far, ..
  abbrev pub HasCome : Plan → Location → (string : List ℕ) → Going → Type 0
  HasCome plan l string going = IsGoing (operations engine.domain) plan engine.store l string going

  -- .. or some question of a book's program.
  abbrev pub IsUnderWay : Book → Going → Type 0
  IsUnderWay book going = (l : Location) × (string : List ℕ) × HasCome (flow_in book) l string going

  -- The program refuses a question, as an error tells.
  abbrev pub RefusesBy : Plan → Location → (string : List ℕ) → QueryError → Type 0
  RefusesBy plan l string why = IsRefused (answer (operations engine.domain) plan.engine plan.program l string) why

  -- A ticket's question has come so far, ..
  abbrev pub HasComeFor : Plan → Question → Course → Type 0
  HasComeFor plan q course = HasComeFar (operations engine.domain) plan engine.store q course

  -- .. or is to begin, ..
  abbrev pub BeginsFor : Plan → Question → Option Course → Type 0
  BeginsFor plan q course = IfSome course (HasComeFor plan q)

  -- .. or the program refuses it; ..
  abbrev pub RefusesAsked : Plan → Question → QueryError → Type 0
  RefusesAsked plan q why = TellsRefusal (refusal_by (operations engine.domain) plan.engine plan.program q) why

  -- .. so the ticket at a place has come so far, ..
  abbrev pub ResumesAt : Book → (place : ℕ) → Result Course QueryError → Type 0
  ResumesAt book place result = OfTicketAt book.tickets.open_ones.items place (λ o. IfOk result (HasComeFor (flow_in book) o.question))

  -- .. or the program refuses its question.
  abbrev pub RefusesAt : Book → (place : ℕ) → Result Course QueryError → Type 0
  RefusesAt book place result = OfTicketAt book.tickets.open_ones.items place (λ o. IfErr result (RefusesAsked (flow_in book) o.question))

  -- how many cells are missing for a question that has come so far
  abbrev pub missing_for : Book → Going → ℕ
  missing_for book going = length (missing (operations engine.domain) (flow_in book) (map target_of going.targets) engine.store)

-- So much work is counted at most, each piece as one operation of the engine's domain.
abbrev pub WorksAtMost : {D S : Type 0} → (counted : D → ℕ) → Engine D S → (before after work : ℕ) → Type 0
WorksAtMost counted engine before after work = after ≤ before + counted engine.domain * work

-- What is read of an engine by a walk, where nothing is missing for the targets of a question.
module _ {D S : Type 0} (operations : D → Operations S) (engine : Engine D S) (walk : Walk) where
  -- There is such a question.
  abbrev pub IsFilledForOne : Type 0
  IsFilledForOne = (plan : Plan) × (l : Location) × (string : List ℕ) × (ts : List Target) ×
      IsAsked plan.program l string ts × AreFilled (operations engine.domain) engine.store walk plan ts

  -- what holds of each such question
  abbrev pub OfEachFilled : (Plan → Location → (string : List ℕ) → Type 0) → Type 0
  OfEachFilled holds = (plan : Plan) (l : Location) (string : List ℕ) (ts : List Target) →
      IsAsked plan.program l string ts → AreFilled (operations engine.domain) engine.store walk plan ts → holds plan l string

  -- What is read is its answer, ..
  abbrev pub SaysForFilled : {E : Type 0} → Result (Value S) E → Type 0
  SaysForFilled result = OfEachFilled (λ plan l string.
      IfOk result (λ v. Says (answer (operations engine.domain) plan.engine plan.program l string) (Some v)))

  -- .. a state that is read covers every run there, ..
  abbrev pub CoversForFilled : {E : Type 0} → (covers : D → S → Heap → List Variables → Type 0) → Result (Value S) E → Type 0
  CoversForFilled covers result = OfEachFilled (λ plan l string.
      IfOk result (λ v. Covers (covers engine.domain) plan.program l string (Some v)))

  -- .. and two operations are counted for each target.
  abbrev pub TicksForTargets : (counted : D → ℕ) → (before after : ℕ) → Type 0
  TicksForTargets counted before after = (plan : Plan) (ts : List Target) →
      AreFilled (operations engine.domain) engine.store walk plan ts → WorksAtMost counted engine before after (2 * length ts)

-- What a call makes of an engine.
module _ {D S : Type 0} (old new : Engine D S) where
  -- The names are those that were worked out, if any were, and else those that stood.
  abbrev pub TakesNames : Option NewNames → Type 0
  TakesNames made = new.store.names ≡ names_after old.store.names made

  -- The domain stays, and so does how much may be kept beside what is needed.
  abbrev pub KeepsSetup : Type 0
  KeepsSetup = (new.domain ≡ old.domain) × (new.spare ≡ old.spare)

  -- No more cells are stale than it had.
  abbrev pub HasFewStale : Type 0
  HasFewStale = new.store.stale.count ≤ len old.store.graph.cells

  -- It has the same names, by the same numbers.
  abbrev pub KeepsNames : Type 0
  KeepsNames = new.store.names ≡ old.store.names

  -- how many cells it fills
  abbrev pub IsAdded : (count : ℕ) → Type 0
  IsAdded count = count ≡ cells_added old.store new.store

  -- An operation is counted for each cell that it fills, and one more.
  abbrev pub TicksForAdded : (counted : D → ℕ) → (before after : ℕ) → Type 0
  TicksForAdded counted before after = WorksAtMost counted old before after (suc (cells_added old.store new.store))

-- What a call fills for a question of a book's program, which had come so far before it, and has come so far after it.
module _ {D S : Type 0} (operations : D → Operations S) (old new : Engine D S) (book : Book) (before : Going) where
  -- what was missing is filled, the first so much of it as cells are added
  abbrev pub FillsFirst : Type 0
  FillsFirst = Fills (operations old.domain) (flow_in book) (map target_of before.targets) old.store new.store (cells_added old.store new.store)

  -- Each question that had come so far has come on.
  abbrev pub GoesOn : (after : Going) → Type 0
  GoesOn after = (l : Location) (string : List ℕ) →
      IsGoing (operations old.domain) (flow_in book) old.store l string before → IsGoing (operations old.domain) (flow_in book) new.store l string after

  -- Nothing is missing any more.
  abbrev pub HasAll : (after : Going) → Type 0
  HasAll after = AreFilled (operations old.domain) new.store after.walk (flow_in book) (map target_of before.targets)

-- What is written for a line, and which machine stands after it.
use Rattle.std.specs.Prelude.{◌≡◌, ◌≤◌, ◌+◌, ◌⊎◌, ℕ, List, [], Option, Some, None, Result, Ok, Err, IfErr, IfOk, Vec}
use Rattle.fault_words.specs.declared.finding.FaultVerdict.{FaultVerdict}
use Rattle.fault_words.specs.Picking.{with_verdict}
use Rattle.imp_syntax.specs.declared.edit.Location.{Location}
use Rattle.imp_syntax.specs.declared.edit.Location.TheVariants.{Before}
use Rattle.imp_check.specs.Slots.{routines_of}
use Rattle.domain_laws.specs.Operations.{Operations}
use Rattle.batch_meaning.specs.Answers.{Answer}
use Rattle.cell_names.specs.Paths.{CellName}
use Rattle.daig_machine.specs.Machine.{Machine, Ticket, ticket_of}
use Rattle.daig_machine.specs.Turns.{IsBetween, missing_asked, missing_at, missing_for_faults, missing_for_report}
use Rattle.daig_machine.specs.declared.question.Question.{Question}
use Rattle.daig_machine.specs.declared.question.Question.TheVariants as what
use Rattle.daig_graph.specs.declared.value.Value.{Value}
use Rattle.daig_query.specs.Answered.{Says}
use Rattle.daig_session.specs.Sessions.{StandsFor}
use Rattle.daig_session.specs.declared.error.AskError.{AskError}
use Rattle.daig_session.specs.declared.error.AskError.TheVariants as ask
use Rattle.daig_session.specs.declared.error.QueryError.{QueryError}
use Rattle.daig_session.specs.declared.error.QueryError.TheVariants as question
use Rattle.daig_session.specs.declared.error.StepError.{StepError}
use Rattle.daig_session.specs.declared.error.StepError.TheVariants as step
use Rattle.daig_session.specs.declared.error.UndoError.{UndoError}
use Rattle.daig_session.specs.declared.error.UndoError.TheVariants as undo
use Rattle.daig_session.specs.declared.session.Session.{Session}
use Rattle.daig_session.specs.declared.stepping.StepResult as stepping
use Rattle.daig_session.specs.declared.stepping.StepResult.TheVariants as stepped
use Rattle.request_json.specs.declared.error.ReadError.{ReadError}
use Rattle.request_json.specs.declared.request.Query.{Query}
use Rattle.request_json.specs.declared.request.Request.{Request}
use Rattle.request_json.specs.declared.request.Request.TheVariants as q
use Rattle.request_json.specs.declared.reply.Reply.{Reply}
use Rattle.request_json.specs.declared.reply.Reply.TheVariants as r
use Rattle.request_json.specs.declared.reply.Refusal.{Refusal}
use Rattle.request_json.specs.declared.reply.Refusal.TheVariants as refusal
use Rattle.request_json.specs.Replies.{reply_text}
use Rattle.request_json.specs.Requests.{request_of}
use Rattle.imp_syntax.specs.declared.edit.Edit.{Edit}
use Rattle.serve_replies.specs.States.{answer_reply, layout_at}
use Rattle.serve_answers.specs.Edits.{IsTextError, replace_of, insert_of, delete_of, guard_of, declare_of, add_of, drop_of}
use Rattle.serve_answers.specs.Readings.{Readings}
use Rattle.serve_answers.specs.declared.edits.TextError.{TextError}
use Rattle.serve_answers.specs.Lines.{line_turn, request_turn}
use Rattle.serve_answers.specs.Turns.{step_turn, Outcome}

-- The reply of a turn is written, and what stands is its machine.
pub record Follows (turn : Outcome) (stands : Machine → Type 0) (line : List ℕ) : Type 0 where
  pub reply : line ≡ reply_text turn.reply
  pub machine : stands turn.machine

-- The line is the text of a reply, if there is memory.
abbrev pub IsLineOf : {E Z : Type 0} → Reply → Result (Vec ℕ Z) E → Type 0
IsLineOf reply line = IfOk line (λ v. v.items ≡ reply_text reply)

-- a request that fills names: after memory ran out some of them may be filled, and all else is as it was
abbrev pub Fills : Result Request ReadError → Type 0
Fills (Err error) = ⊥
Fills (Ok (q.State query)) = Unit {0}
Fills (Ok (q.Why query)) = Unit {0}
Fills (Ok q.Report) = Unit {0}
Fills (Ok (q.Faults only)) = Unit {0}
Fills (Ok (q.Step ticket n)) = Unit {0}
Fills (Ok request) = ⊥

-- what is missing for a ticket, if it is open, and for a request
abbrev pub missing_for_ticket : {S : Type 0} → Operations S → Option Ticket → Machine → List CellName
missing_for_ticket dom None m = []
missing_for_ticket dom (Some t) m = missing_asked dom t.question m

abbrev pub missing_of : {S : Type 0} → Operations S → Result Request ReadError → Machine → List CellName
missing_of dom (Err error) m = []
missing_of dom (Ok (q.State query)) m = missing_at dom query.at query.string m
missing_of dom (Ok (q.Why query)) m = missing_at dom query.at query.string m
missing_of dom (Ok q.Report) m = missing_for_report dom m
missing_of dom (Ok (q.Faults only)) m = missing_for_faults dom m
missing_of dom (Ok (q.Step ticket n)) m = missing_for_ticket dom (ticket_of ticket m.tickets) m
missing_of dom (Ok request) m = []

-- When memory runs out some of these names are kept, the first ones, and nothing else is changed; or what stands is the
-- machine after the turn, and its reply alone is not written.
abbrev pub IsHalted : List CellName → Outcome → Machine → (stands : Machine → Type 0) → Type 0
IsHalted xs turn m stands = IsBetween xs m stands ⊎ stands turn.machine

-- why a question has no answer, a ticket is not opened or not stepped, the program stays; nothing when memory runs out
abbrev pub query_refusal : QueryError → Option Refusal
query_refusal (question.Refused why) = Some (refusal.Query why)
query_refusal question.Memory = None

abbrev pub ask_refusal : AskError → Option Refusal
ask_refusal (ask.Refused why) = Some (refusal.Query why)
ask_refusal ask.Full = Some refusal.ManyTickets
ask_refusal ask.Memory = None

abbrev pub step_refusal : StepError → Option Refusal
step_refusal step.NoTicket = Some refusal.NoTicket
step_refusal step.Gone = Some refusal.Gone
step_refusal step.Memory = None

abbrev pub move_refusal : UndoError → (otherwise : Refusal) → Option Refusal
move_refusal undo.Nothing otherwise = Some otherwise
move_refusal undo.Memory otherwise = None

-- The line tells this refusal; when memory runs out there is no line.
abbrev pub Tells : {V E : Type 0} → Result V E → (items : V → List ℕ) → Option Refusal → Type 0
Tells line items (Some why) = IfOk line (λ v. items v ≡ reply_text (r.Refused why))
Tells line items None = IfOk line (λ v. ⊥)

-- by what the answer to a question is told: the location of a state, any where there is none, and the verdict of faults that are wanted
abbrev pub told_at : Question → Location
told_at (what.State l string) = l
told_at (what.Why l string) = l
told_at what.Report = Before 0
told_at (what.Faults only) = Before 0

abbrev pub told_only : Question → Option FaultVerdict
told_only (what.State l string) = None
told_only (what.Why l string) = None
told_only what.Report = None
told_only (what.Faults only) = only

-- The line tells how many cells a step filled, or what it answers: a state at a location, of faults those with a verdict.
abbrev pub TellsTurn : {V E S : Type 0} → Result V E → (items : V → List ℕ) → Operations S → (stands : Machine → Type 0) → Location → Option FaultVerdict → stepping.StepResult S → Type 0
TellsTurn line items dom stands at only (stepped.Pending n) = IfOk line (λ v. items v ≡ reply_text (r.Pending n))
TellsTurn {S = S} line items dom stands at only (stepped.State v) = (m : Machine) (a : Answer S) → stands m → Says a (Some v) →
    IfOk line (λ w. items w ≡ reply_text (answer_reply dom (layout_at (routines_of m.program) at) a))
TellsTurn line items dom stands at only (stepped.Why stmts) = IfOk line (λ v. items v ≡ reply_text (r.Why stmts))
TellsTurn line items dom stands at only (stepped.Report found) = IfOk line (λ v. items v ≡ reply_text (r.Report found))
TellsTurn line items dom stands at only (stepped.Faults found) = IfOk line (λ v. items v ≡ reply_text (r.Faults (with_verdict only found)))

-- a request for an edit
abbrev pub Edits : Request → Type 0
Edits (q.Replace id text) = Unit {0}
Edits (q.Insert place text) = Unit {0}
Edits (q.Delete id) = Unit {0}
Edits (q.Guard id text) = Unit {0}
Edits (q.Declare proc name kind) = Unit {0}
Edits (q.Add before text) = Unit {0}
Edits (q.Drop proc) = Unit {0}
Edits request = ⊥

-- the edit that a request asks for, whose new statements carry the numbers from the next one on
abbrev pub edit_asked : Readings → (next : ℕ) → Request → Result Edit Refusal
edit_asked readings next (q.Replace id text) = replace_of readings next id text
edit_asked readings next (q.Insert place text) = insert_of readings next place text
edit_asked readings next (q.Delete id) = delete_of id
edit_asked readings next (q.Guard id text) = guard_of readings id text
edit_asked readings next (q.Declare proc name kind) = declare_of proc name kind
edit_asked readings next (q.Add before text) = add_of readings next before text
edit_asked readings next (q.Drop proc) = drop_of proc
edit_asked readings next request = Err refusal.NoRequest

-- what is made of a text is this edit, or why the text gives none
abbrev pub Makes : Result Edit Refusal → Result Edit TextError → Type 0
Makes e (Ok edit) = e ≡ Ok edit
Makes e (Err error) = IsTextError e error

-- What a call makes of a session, from each machine that it stood for: what it is given by is of the domain's operations and
-- of the machine. A line is the result, if there is memory.
module _ {D S : Type 0} (operations : D → Operations S) (old new : Session D S) where
  -- The line is the reply of the turn, and the session then stands for the machine after it.
  abbrev pub TakesTurn : {E Z : Type 0} → (Operations S → Machine → Outcome) → Result (Vec ℕ Z) E → Type 0
  TakesTurn turn line = (m : Machine) → StandsFor operations old m →
      IfOk line (λ v. Follows (turn (operations old.engine.domain) m) (StandsFor operations new) v.items)

  -- When memory runs out some of the missing names are kept, the first ones; or the reply alone is not written.
  abbrev pub FillsOrTurns : {V E : Type 0} → (missing : Operations S → Machine → List CellName) → (Operations S → Machine → Outcome) → Result V E → Type 0
  FillsOrTurns missing turn line = (m : Machine) → StandsFor operations old m →
      IfErr line (λ _. IsHalted (missing (operations old.engine.domain) m) (turn (operations old.engine.domain) m) m (StandsFor operations new))

  -- The same, where the request is one that fills names.
  abbrev pub FillsWhereAsked : {V E : Type 0} → Result Request ReadError → (Operations S → Machine → Outcome) → Result V E → Type 0
  FillsWhereAsked request turn line = (m : Machine) → Fills request → StandsFor operations old m →
      IfErr line (λ _. IsHalted (missing_of (operations old.engine.domain) request m) (turn (operations old.engine.domain) m) m (StandsFor operations new))

  -- The same of the names that a question misses, ..
  abbrev pub FillsOnQuery : {V E : Type 0} → (query : Query) → (Operations S → Query → Machine → Outcome) → Result V E → Type 0
  FillsOnQuery query turn line = FillsOrTurns (λ dom. missing_at dom query.at query.string) (λ dom. turn dom query) line

  -- .. and of those that a ticket misses.
  abbrev pub FillsOnStep : {V E : Type 0} → (ticket n : ℕ) → Result V E → Type 0
  FillsOnStep ticket n line = FillsOrTurns (λ dom m. missing_for_ticket dom (ticket_of ticket m.tickets) m) (λ dom. step_turn dom ticket n) line

  -- The line is the reply of the turn of a request, however texts are read, ..
  abbrev pub AnswersRequest : {E Z : Type 0} → Request → Result (Vec ℕ Z) E → Type 0
  AnswersRequest request line = (readings : Readings) → TakesTurn (λ dom. request_turn readings dom request) line

  -- .. where it is one for an edit, ..
  abbrev pub AnswersEdit : {E Z : Type 0} → Request → Result (Vec ℕ Z) E → Type 0
  AnswersEdit request line = (readings : Readings) (m : Machine) → Edits request → StandsFor operations old m →
      IfOk line (λ v. Follows (request_turn readings (operations old.engine.domain) request m) (StandsFor operations new) v.items)

  -- .. and of the turn of a line.
  abbrev pub AnswersLine : {E Z : Type 0} → (asked : List ℕ) → Result (Vec ℕ Z) E → Type 0
  AnswersLine asked line = (readings : Readings) → TakesTurn (λ dom. line_turn readings dom asked) line

  -- When memory runs out on a request that fills names some of the missing ones are kept, ..
  abbrev pub FillsOnRequest : {V E : Type 0} → Request → Result V E → Type 0
  FillsOnRequest request line = (readings : Readings) → FillsWhereAsked (Ok request) (λ dom. request_turn readings dom request) line

  -- .. and so on a line that asks for one.
  abbrev pub FillsOnLine : {V E : Type 0} → (asked : List ℕ) → Result V E → Type 0
  FillsOnLine asked line = (readings : Readings) → FillsWhereAsked (request_of asked) (λ dom. line_turn readings dom asked) line

  -- When memory runs out the session stands for the machine as before; and so it does where the request fills no names.
  abbrev pub StaysOnErr : {V E : Type 0} → Result V E → Type 0
  StaysOnErr line = (m : Machine) → StandsFor operations old m → IfErr line (λ _. StandsFor operations new m)

  abbrev pub StaysUnlessFilled : {V E : Type 0} → Result Request ReadError → Result V E → Type 0
  StaysUnlessFilled request line = (m : Machine) → StandsFor operations old m → (Fills request → ⊥) →
      IfErr line (λ _. StandsFor operations new m)

-- The line is this reply, from each machine that a session stands for.
abbrev pub TellsReply : {D S E Z : Type 0} → (operations : D → Operations S) → Session D S → (Machine → Reply) → Result (Vec ℕ Z) E → Type 0
TellsReply operations session reply line = (m : Machine) → StandsFor operations session m → IfOk line (λ v. v.items ≡ reply_text (reply m))

-- The line tells an answer at a location, from each machine that a session stands for, ..
abbrev pub TellsAnswer : {D S E Z : Type 0} → (operations : D → Operations S) → Session D S → Location → Value S → Result (Vec ℕ Z) E → Type 0
TellsAnswer {S = S} operations session at value line = (m : Machine) (a : Answer S) → StandsFor operations session m → Says a (Some value) →
    IfOk line (λ v. v.items ≡ reply_text (answer_reply (operations session.engine.domain) (layout_at (routines_of m.program) at) a))

-- .. or what a step comes to.
abbrev pub TellsStep : {D S E Z : Type 0} → (operations : D → Operations S) → Session D S → Location → Option FaultVerdict → stepping.StepResult S → Result (Vec ℕ Z) E → Type 0
TellsStep operations session at only turn line =
    TellsTurn line (λ v. v.items) (operations session.engine.domain) (StandsFor operations session) at only turn

-- The domain stays, ..
abbrev pub KeepsDomain : {D S : Type 0} → (old new : Session D S) → Type 0
KeepsDomain old new = new.engine.domain ≡ old.engine.domain

-- .. and the number of the next ticket rises by one at most.
abbrev pub OpensAtMostOne : {D S : Type 0} → (old new : Session D S) → Type 0
OpensAtMostOne old new = new.book.tickets.next ≤ old.book.tickets.next + 1

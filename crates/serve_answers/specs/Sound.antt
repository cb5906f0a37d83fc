-- What is claimed of states, reports and lists of statements that lines are replied.
use Rattle.std.specs.Prelude.{◌≡◌, ◌⊎◌, ℕ, List, None, Some, Ok, Contains}
use Rattle.imp_syntax.specs.Plain.{Procedure}
use Rattle.imp_syntax.specs.declared.edit.Location.{Location}
use Rattle.imp_check.specs.Slots.{routines_of}
use Rattle.concrete_sem.specs.Values.{Variables, Heap}
use Rattle.concrete_sem.specs.Steps.{Config}
use Rattle.concrete_sem.specs.Reach.{top, Reach}
use Rattle.concrete_sem.specs.WellFormed.{variables_of}
use Rattle.imp_words.specs.declared.findings.Finding.{Finding}
use Rattle.domain_laws.specs.Operations.{Operations}
use Rattle.batch_meaning.specs.Values.{State}
use Rattle.batch_meaning.specs.Batch.{LoopOptions}
use Rattle.batch_meaning.specs.Answers.{Answers}
use Rattle.batch_sound.specs.Theorem.{IsFindingSound}
use Rattle.fault_words.specs.declared.finding.FaultFinding.{FaultFinding}
use Rattle.fault_verdicts.specs.Theorem as of_faults
use Rattle.why_slice.specs.Claims.{Suffices}
use Rattle.serve_script.specs.Replies.{machine_after}
use Rattle.daig_machine.specs.Machine.{Machine, Ticket, ticket_of}
use Rattle.daig_machine.specs.Turns.{answer_at}
use Rattle.daig_machine.specs.declared.question.Question.{Question}
use Rattle.daig_machine.specs.declared.question.Question.TheVariants as what
use Rattle.request_json.specs.declared.request.Request.{Request}
use Rattle.request_json.specs.declared.request.Request.TheVariants as q
use Rattle.request_json.specs.declared.reply.Reply.{Reply}
use Rattle.request_json.specs.declared.reply.Reply.TheVariants as r
use Rattle.request_json.specs.Requests.{query_of, request_of}
use Rattle.serve_replies.specs.States.{layout_at}
use Rattle.serve_answers.specs.Readings.{Readings}
use Rattle.serve_answers.specs.Lines.{Served, line_turn, server}
use Rattle.serve_answers.specs.Fine.{HasFinePrograms, IsProgramOf, opening}

-- The line is a step of an open ticket, which asks this question.
pub record IsStep (m : Machine) (line : List ℕ) (question : Question) : Type 0 where
  pub ticket : ℕ
  pub steps : ℕ
  pub asked : Ticket
  pub reads : request_of line ≡ Ok (q.Step ticket steps)
  pub open_one : ticket_of ticket m.tickets ≡ Some asked
  pub asks : asked.question ≡ question

-- the whole request for a question
abbrev pub request_for : Question → Request
request_for (what.State l string) = q.State (query_of l string)
request_for (what.Why l string) = q.Why (query_of l string)
request_for what.Report = q.Report
request_for (what.Faults only) = q.Faults only

-- The line asks this question: by the whole request, or by a step of a ticket.
abbrev pub IsAsked : Machine → (line : List ℕ) → Question → Type 0
IsAsked m line question = (request_of line ≡ Ok (request_for question)) ⊎ IsStep m line question

-- The line asks for a state, the text is that of the answer, and the answer describes each configuration that a run of the
-- present program reaches at the location, with call sites of which the string is a suffix: its last frame alone, under any
-- inputs.
pub record IsDescribed {S : Type 0} (dom : Operations S) (covers : S → Heap → List Variables → Type 0) (m : Machine) (line text : List ℕ) : Type 0 where
  pub at : Location
  pub string : List ℕ
  pub state : S
  pub asks : IsAsked m line (what.State at string)
  pub answers : answer_at dom at string m ≡ Answers (State state)
  pub says : text ≡ dom.text (layout_at (routines_of m.program) at) state
  pub describes : (c : Config) → Reach (routines_of m.program) at string c → covers state (top c).heap (variables_of (top c).frames)

-- No run fails a check that the report calls safe, and none comes to a statement that it calls dead.
abbrev pub IsReportSound : (program : List Procedure) → (report : List Finding) → Type 0
IsReportSound program report = (f : Finding) → Contains report f → IsFindingSound (routines_of program) f

-- Each finding says what is so in every run of the program; and where the line asks for all of them, each fault with which a run
-- ends is told as one that may come or after which no run goes on, so that no run fails where none is.
pub record AreFaultsSound (m : Machine) (line : List ℕ) (found : List FaultFinding) : Type 0 where
  pub each : (f : FaultFinding) → Contains found f → of_faults.IsFaultSound (routines_of m.program) f
  pub whole : IsAsked m line (what.Faults None) → of_faults.IsReportSound (routines_of m.program) found

-- The line asks what an answer depends on, and these statements are all: another simple statement in the place of one that is
-- not among them leaves the answer of the present program as it is, where the thresholds of all procedures stay.
pub record AreCauses {S : Type 0} (dom : Operations S) (m : Machine) (line stmts : List ℕ) : Type 0 where
  pub at : Location
  pub string : List ℕ
  pub asks : IsAsked m line (what.Why at string)
  pub suffice : Suffices dom m.engine m.program at string stmts

-- A reply that is a state describes the runs of the present program, one that is a report, of checks or of faults, is sound, and
-- one that is a list of statements has all that the answer depends on.
pub record IsReplySound {S : Type 0} (dom : Operations S) (covers : S → Heap → List Variables → Type 0) (m : Machine) (line : List ℕ) (reply : Reply) : Type 0 where
  pub state : (text : List ℕ) → reply ≡ r.State text → IsDescribed dom covers m line text
  pub report : (report : List Finding) → reply ≡ r.Report report → IsReportSound m.program report
  pub faults : (found : List FaultFinding) → reply ≡ r.Faults found → AreFaultsSound m line found
  pub why : (stmts : List ℕ) → reply ≡ r.Why stmts → AreCauses dom m line stmts

-- so is the reply to the line
abbrev pub IsSoundAt : {S : Type 0} → Operations S → (S → Heap → List Variables → Type 0) → Served → (line : List ℕ) → Type 0
IsSoundAt dom covers s line = IsReplySound dom covers s.machine line (line_turn s.readings dom line s.machine).reply

-- So is the reply to each line, where the programs of the machine have no fault ..
abbrev pub TurnsAreSound : {S : Type 0} → Operations S → (S → Heap → List Variables → Type 0) → Type 0
TurnsAreSound dom covers = (s : Served) (line : List ℕ) → HasFinePrograms s.machine → IsSoundAt dom covers s line

-- .. and at each moment of each script, whatever lines came before.
abbrev pub MomentsAreSound : {S : Type 0} → Operations S → (S → Heap → List Variables → Type 0) → Type 0
MomentsAreSound dom covers =
    (readings : Readings) (engine : LoopOptions) (source : List ℕ) (program : List Procedure) → IsProgramOf readings source program →
    (before : List (List ℕ)) (line : List ℕ) → IsSoundAt dom covers (machine_after (server dom) (opening readings engine program) before) line

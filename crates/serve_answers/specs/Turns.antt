-- What each request is replied, and the machine after it.
use Rattle.std.specs.Prelude.{ℕ, ℤ, nat_le, nat_lt, List, [], ◌∷◌, length, Option, Some, None, Result, Ok, Err, if◌then◌else◌}
use Rattle.imp_syntax.specs.Plain.{Procedure}
use Rattle.imp_syntax.specs.declared.edit.Edit.{Edit}
use Rattle.imp_syntax.specs.declared.edit.Location.{Location}
use Rattle.imp_check.specs.Slots.{routines_of}
use Rattle.imp_words.specs.declared.refusal.QueryRefusal.{QueryRefusal}
use Rattle.imp_words.specs.declared.refusal.QueryRefusal.TheVariants.{LongString}
use Rattle.domain_laws.specs.Operations.{Operations}
use Rattle.batch_meaning.specs.Values.{Value}
use Rattle.batch_meaning.specs.Answers.{Answer, Refuses, Answers}
use Rattle.batch_meaning.specs.Report.{report}
use Rattle.fault_words.specs.declared.finding.FaultVerdict.{FaultVerdict}
use Rattle.fault_words.specs.Picking.{with_verdict}
use Rattle.fault_verdicts.specs.Report.{faults}
use Rattle.imp_edit.specs.Edited.{next_after}
use Rattle.imp_edit.specs.Refusals.{edit_refusal}
use Rattle.imp_edit.specs.declared.error.EditError.{EditError}
use Rattle.daig_machine.specs.Machine.{Machine, Ticket, ticket_of}
use Rattle.daig_machine.specs.Turns.{answer_at, after_question, after_close, after_edit, after_last_step, missing_asked, refusal_asked, string_of, with_ticket, redone, after_faults, after_report, after_step, undone, upstream_at}
use Rattle.daig_machine.specs.declared.question.Question.{Question}
use Rattle.daig_machine.specs.declared.question.Question.TheVariants as what
use Rattle.request_json.specs.declared.request.Query.{Query}
use Rattle.request_json.specs.declared.request.Task.{Task}
use Rattle.request_json.specs.declared.request.Task.TheVariants as task
use Rattle.request_json.specs.Requests.{query_of}
use Rattle.request_json.specs.declared.reply.Reply.{Reply}
use Rattle.request_json.specs.declared.reply.Reply.TheVariants as r
use Rattle.request_json.specs.declared.reply.Refusal.{Refusal}
use Rattle.request_json.specs.declared.reply.Refusal.TheVariants as refusal
use Rattle.serve_replies.specs.Runs.{asked_run}
use Rattle.serve_replies.specs.States.{layout_at, value_reply}
use Rattle.serve_replies.specs.Texts.{listing, program_reply}
use Rattle.serve_answers.specs.Refusals.{refusal_of}

-- A reply, and the machine after it.
pub record Outcome : Type 0 where
  pub reply : Reply
  pub machine : Machine

-- the machine goes on to another one; it stays, as it does where the request is refused
abbrev pub goes : Reply → Machine → Outcome
goes reply m = record { reply = reply; machine = m }

abbrev pub refused : Refusal → Machine → Outcome
refused why m = goes (r.Refused why) m

-- ---- what is told of the machine

abbrev pub cost_turn : Machine → Outcome
cost_turn m = goes (r.Cost m.cost (length m.kept)) m

abbrev pub program_turn : Machine → Outcome
program_turn m = goes (program_reply m.next m.program) m

abbrev pub listing_turn : Machine → Outcome
listing_turn m = goes (r.Listing (listing m.program)) m

abbrev pub run_turn : List ℤ → (fuel : ℕ) → Option Location → Machine → Outcome
run_turn inputs fuel at m = goes (asked_run (routines_of m.program) inputs fuel at) m

-- ---- tickets

-- the question that a ticket is opened for
abbrev pub question_of : Task → Question
question_of (task.State query) = what.State query.at query.string
question_of (task.Why query) = what.Why query.at query.string
question_of task.Report = what.Report
question_of (task.Faults only) = what.Faults only

-- a ticket is given up

abbrev pub cancel_by : Option Ticket → Machine → Outcome
cancel_by None m = refused refusal.NoTicket m
cancel_by (Some t) m = goes (r.Cancelled t.number) (after_close t.number m)

abbrev pub cancel_turn : (ticket : ℕ) → Machine → Outcome
cancel_turn ticket m = cancel_by (ticket_of ticket m.tickets) m

-- ---- the program before an edit, and after it

-- The move to the nearest program on a side, if there is one. The next number stays.
abbrev pub move_turn : (side : List (List Procedure)) → (otherwise : Refusal) → (there : Machine) → Machine → Outcome
move_turn [] otherwise there m = refused otherwise m
move_turn (p ∷ ps) otherwise there m = goes (r.Next m.next) there

module _ {S : Type 0} (dom : Operations S) where
  abbrev pub undo_turn : Machine → Outcome
  undo_turn m = move_turn m.past refusal.NothingToUndo (undone dom m) m

  abbrev pub redo_turn : Machine → Outcome
  redo_turn m = move_turn m.future refusal.NothingToRedo (redone dom m) m

  -- ---- questions

  -- what the present program has at a location, as text
  abbrev pub state_reply : Location → Value S → Machine → Reply
  state_reply l v m = value_reply dom (layout_at (routines_of m.program) l) v

  -- The answer of the present program, interpreted from scratch. Its names are kept, and the cost is how many of them were
  -- missing.
  abbrev pub state_by : Query → Answer S → Machine → Outcome
  state_by query (Refuses why) m = refused (refusal.Query why) m
  state_by query (Answers v) m = goes (state_reply query.at v m) (after_question dom query.at query.string m)

  abbrev pub state_turn : Query → Machine → Outcome
  state_turn query m = state_by query (answer_at dom query.at query.string m) m

  -- The statements that this answer depends on, an Over's too. It does to the kept names and to the cost what the question
  -- does, and is refused where that is.
  abbrev pub why_by : Query → Answer S → Machine → Outcome
  why_by query (Refuses why) m = refused (refusal.Query why) m
  why_by query (Answers v) m = goes (r.Why (upstream_at dom query.at query.string m)) (after_question dom query.at query.string m)

  abbrev pub why_turn : Query → Machine → Outcome
  why_turn query m = why_by query (answer_at dom query.at query.string m) m

  abbrev pub report_turn : Machine → Outcome
  report_turn m = goes (r.Report (report dom m.engine (routines_of m.program))) (after_report dom m)

  -- what is found of faults, of those that have a verdict where one is given
  abbrev pub faults_turn : (only : Option FaultVerdict) → Machine → Outcome
  faults_turn only m = goes (r.Faults (with_verdict only (faults dom m.engine (routines_of m.program)))) (after_faults dom m)

  -- ---- tickets

  abbrev pub begin_by : Question → Option QueryRefusal → Machine → Outcome
  begin_by question (Some why) m = refused (refusal.Query why) m
  begin_by question None m = goes (r.Ticket m.next_ticket) (with_ticket question m)

  -- a new ticket, unless the call string is too long, sixteen are open, or the program refuses the question
  abbrev pub begin_turn : Question → Machine → Outcome
  begin_turn question m =
      if nat_lt 2 (length (string_of question)) then refused (refusal.Query LongString) m
      else if nat_le 16 (length m.tickets) then refused refusal.ManyTickets m
      else begin_by question (refusal_asked dom question m) m

  -- the whole request for a question
  abbrev pub whole_turn : Question → Machine → Outcome
  whole_turn (what.State l string) m = state_turn (query_of l string) m
  whole_turn (what.Why l string) m = why_turn (query_of l string) m
  whole_turn what.Report m = report_turn m
  whole_turn (what.Faults only) m = faults_turn only m

  -- Where more than n names are missing the first n are kept. Else the ticket is replied as the whole request is, and closed. It
  -- is closed too where the present program refuses the question.
  abbrev pub step_by : Ticket → (n : ℕ) → Option QueryRefusal → Machine → Outcome
  step_by t n (Some why) m = goes (r.Refused refusal.Gone) (after_close t.number m)
  step_by t n None m =
      if nat_lt n (length (missing_asked dom t.question m)) then goes (r.Pending n) (after_step dom t n m)
      else goes (whole_turn t.question m).reply (after_last_step dom t m)

  abbrev pub step_of : (n : ℕ) → Option Ticket → Machine → Outcome
  step_of n None m = refused refusal.NoTicket m
  step_of n (Some t) m = step_by t n (refusal_asked dom t.question m) m

  abbrev pub step_turn : (ticket n : ℕ) → Machine → Outcome
  step_turn ticket n m = step_of n (ticket_of ticket m.tickets) m

  -- ---- edits

  -- An edit that has no refusal is made.
  abbrev pub edit_by : Edit → Option EditError → Machine → Outcome
  edit_by e None m = goes (r.Next (next_after e m.next)) (after_edit dom e m)
  edit_by e (Some error) m = refused (refusal_of m.program e error) m

  abbrev pub edit_turn : Result Edit Refusal → Machine → Outcome
  edit_turn (Err why) m = refused why m
  edit_turn (Ok e) m = edit_by e (edit_refusal e m.program m.next) m

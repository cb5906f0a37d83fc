-- A reply that is an over is the answer of the present program.
use Rattle.std.proofs.Common.{◌≡◌, ℕ, ℤ, nat_le, nat_lt, Bool, true, false, List, [], ◌∷◌, length, Option, Some, None, Result, Ok, Err, if◌then◌else◌, refl, sym, subst}
use Rattle.imp_syntax.specs.Plain.{Procedure}
use Rattle.imp_syntax.specs.declared.edit.Edit.{Edit}
use Rattle.imp_syntax.specs.declared.edit.Location.{Location}
use Rattle.imp_slots.specs.Plain.{Routine}
use Rattle.imp_check.specs.Slots.{routines_of}
use Rattle.imp_words.specs.declared.refusal.QueryRefusal.{QueryRefusal}
use Rattle.imp_words.specs.declared.refusal.QueryRefusal.TheVariants.{LongString}
use Rattle.domain_laws.specs.Operations.{Operations}
use Rattle.batch_meaning.specs.Values.{Value, State, Over}
use Rattle.batch_meaning.specs.Answers.{Answer, Refuses, Answers, Found, In, Misses, procedure_of}
use Rattle.imp_edit.specs.Refusals.{edit_refusal}
use Rattle.imp_edit.specs.declared.error.EditError.{EditError}
use Rattle.daig_machine.specs.Machine.{Machine, Ticket, ticket_of}
use Rattle.daig_machine.specs.Turns.{answer_at, missing_asked, redone, refusal_asked, string_of, undone}
use Rattle.daig_machine.specs.declared.question.Question.{Question}
use Rattle.daig_machine.specs.declared.question.Question.TheVariants as what
use Rattle.request_json.specs.declared.error.ReadError.{ReadError}
use Rattle.request_json.specs.declared.request.Query.{Query}
use Rattle.request_json.specs.declared.request.Request.{Request}
use Rattle.request_json.specs.declared.request.Request.TheVariants as q
use Rattle.request_json.specs.declared.reply.Reply.{Reply}
use Rattle.request_json.specs.declared.reply.Reply.TheVariants as r
use Rattle.request_json.specs.declared.reply.Refusal.{Refusal}
use Rattle.request_json.specs.declared.reply.Refusal.TheVariants as refusal
use Rattle.request_json.specs.Requests.{query_of, request_of}
use Rattle.serve_replies.specs.Runs.{asked_run, found_run, run_reply}
use Rattle.serve_replies.specs.Texts.{program_reply}
use Rattle.serve_answers.specs.Readings.{Readings}
use Rattle.serve_answers.specs.Edits.{replace_of, insert_of, delete_of, guard_of, declare_of, add_of, drop_of}
use Rattle.serve_answers.specs.Turns.{Outcome, state_reply, cancel_by, move_turn, state_by, why_by, begin_by, question_of, step_by, step_of, edit_by, edit_turn, whole_turn}
use Rattle.serve_answers.specs.Lines.{line_turn, request_turn, read_turn}
use Rattle.serve_answers.specs.Overs.{HasOver, OversAreAnswers}

module _ {S : Type 0} (dom : Operations S) (m : Machine) where
  -- a reply that is an over is an answer
  abbrev Told : Reply → Type 0
  Told (r.Over n z) = HasOver dom m n
  Told reply = Unit {0}

  ran_told : (program : List Routine) (inputs : List ℤ) (fuel : ℕ) (at : Option Location) → Told (run_reply program inputs fuel at)
  unfolding run_reply
  ran_told program inputs fuel at = tt

  found_told : (program : List Routine) (inputs : List ℤ) (fuel : ℕ) (l : Location) (found : Found) → Told (found_run program inputs fuel l found)
  found_told program inputs fuel l (Misses why) = tt
  found_told program inputs fuel l (In p) = ran_told program inputs fuel (Some l)

  run_told : (program : List Routine) (inputs : List ℤ) (fuel : ℕ) (at : Option Location) → Told (asked_run program inputs fuel at)
  run_told program inputs fuel None = ran_told program inputs fuel None
  run_told program inputs fuel (Some l) = found_told program inputs fuel l (procedure_of program l)

  program_told : (next : ℕ) (program : List Procedure) → Told (program_reply next program)
  unfolding program_reply
  program_told next program = tt

  cancel_told : (t : Option Ticket) → Told (cancel_by t m).reply
  cancel_told None = tt
  cancel_told (Some t) = tt

  move_told : (side : List (List Procedure)) (otherwise : Refusal) (there : Machine) → Told (move_turn side otherwise there m).reply
  move_told [] otherwise there = tt
  move_told (p ∷ ps) otherwise there = tt

  begin_by_told : (question : Question) (refusal_is : Option QueryRefusal) → Told (begin_by dom question refusal_is m).reply
  begin_by_told question (Some why) = tt
  begin_by_told question None = tt

  either_told : (b : Bool) (one other : Outcome) → Told one.reply → Told other.reply → Told (if b then one else other).reply
  either_told true one other first second = first
  either_told false one other first second = second

  edit_by_told : (e : Edit) (error : Option EditError) → Told (edit_by dom e error m).reply
  edit_by_told e None = tt
  edit_by_told e (Some error) = tt

  edit_told : (made : Result Edit Refusal) → Told (edit_turn dom made m).reply
  edit_told (Err why) = tt
  edit_told (Ok e) = edit_by_told e (edit_refusal e m.program m.next)

  value_told : (l : Location) (string : List ℕ) (v : Value S) → answer_at dom l string m ≡ Answers v → Told (state_reply dom l v m)
  value_told l string (State s) is = tt
  value_told l string (Over n z) is = record { at = l; string = string; chain = z; answers = is }

  state_told : (query : Query) (a : Answer S) → answer_at dom query.at query.string m ≡ a → Told (state_by dom query a m).reply
  state_told query (Refuses why) is = tt
  state_told query (Answers v) is = value_told query.at query.string v is

  why_told : (query : Query) (a : Answer S) → Told (why_by dom query a m).reply
  why_told query (Refuses why) = tt
  why_told query (Answers v) = tt

  whole_told : (question : Question) → Told (whole_turn dom question m).reply
  whole_told (what.State l string) = state_told (query_of l string) (answer_at dom l string m) refl
  whole_told (what.Why l string) = why_told (query_of l string) (answer_at dom l string m)
  whole_told what.Report = tt
  whole_told (what.Faults only) = tt

  step_by_told : (t : Ticket) (n : ℕ) (refusal_is : Option QueryRefusal) → Told (step_by dom t n refusal_is m).reply
  step_by_told t n (Some why) = tt
  step_by_told t n None = either_told (nat_lt n (length (missing_asked dom t.question m))) _ _ tt (whole_told t.question)

  step_told : (n : ℕ) (t : Option Ticket) → Told (step_of dom n t m).reply
  step_told n None = tt
  step_told n (Some t) = step_by_told t n (refusal_asked dom t.question m)

  request_told : (readings : Readings) (request : Request) → Told (request_turn readings dom request m).reply
  unfolding request_turn
  request_told readings (q.State query) = state_told query (answer_at dom query.at query.string m) refl
  request_told readings q.Report = tt
  request_told readings (q.Faults only) = tt
  request_told readings q.Cost = tt
  request_told readings q.Program = program_told m.next m.program
  request_told readings q.Listing = tt
  request_told readings (q.Run inputs fuel at) = run_told (routines_of m.program) inputs fuel at
  request_told readings (q.Replace id text) = edit_told (replace_of readings m.next id text)
  request_told readings (q.Insert place text) = edit_told (insert_of readings m.next place text)
  request_told readings (q.Delete id) = edit_told (delete_of id)
  request_told readings (q.Guard id text) = edit_told (guard_of readings id text)
  request_told readings (q.Declare proc name kind) = edit_told (declare_of proc name kind)
  request_told readings (q.Add before text) = edit_told (add_of readings m.next before text)
  request_told readings (q.Drop proc) = edit_told (drop_of proc)
  request_told readings (q.Why query) = why_told query (answer_at dom query.at query.string m)
  request_told readings q.Undo = move_told m.past refusal.NothingToUndo (undone dom m)
  request_told readings q.Redo = move_told m.future refusal.NothingToRedo (redone dom m)
  request_told readings (q.Begin task) =
      let question = question_of task in
      either_told (nat_lt 2 (length (string_of question))) _ _ tt (either_told (nat_le 16 (length m.tickets)) _ _ tt (begin_by_told question (refusal_asked dom question m)))
  request_told readings (q.Step ticket n) = step_told n (ticket_of ticket m.tickets)
  request_told readings (q.Cancel ticket) = cancel_told (ticket_of ticket m.tickets)

  read_told : (readings : Readings) (request : Result Request ReadError) → Told (read_turn readings dom request m).reply
  read_told readings (Err error) = tt
  read_told readings (Ok request) = request_told readings request

pub overs_are_answers : {S : Type 0} (dom : Operations S) → OversAreAnswers dom
overs_are_answers dom readings m line loop chain is = subst (Told dom m) is (read_told dom m readings (request_of line))

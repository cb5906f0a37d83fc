-- A refusal leaves the machine, or closes a ticket whose question the program refuses.
use Rattle.std.proofs.Common.{◌≡◌, inl, inr, ◌⊎◌, ℕ, nat_le, nat_lt, Bool, true, false, List, [], ◌∷◌, length, Option, Some, None, Result, Ok, Err, if◌then◌else◌, refl}
use Rattle.imp_syntax.specs.Plain.{Procedure}
use Rattle.imp_syntax.specs.declared.edit.Edit.{Edit}
use Rattle.imp_syntax.specs.declared.edit.Location.{Location}
use Rattle.imp_words.specs.declared.refusal.QueryRefusal.{QueryRefusal}
use Rattle.domain_laws.specs.Operations.{Operations}
use Rattle.batch_meaning.specs.Values.{Value, State, Over}
use Rattle.batch_meaning.specs.Answers.{Answer, Refuses, Answers}
use Rattle.imp_edit.specs.Refusals.{edit_refusal}
use Rattle.imp_edit.specs.declared.error.EditError.{EditError}
use Rattle.daig_machine.specs.Machine.{Machine, Ticket, ticket_of}
use Rattle.daig_machine.specs.Turns.{answer_at, missing_asked, redone, refusal_asked, refusal_in, string_of, undone}
use Rattle.daig_machine.specs.declared.question.Question.{Question}
use Rattle.daig_machine.specs.declared.question.Question.TheVariants as what
use Rattle.request_json.specs.declared.error.ReadError.{ReadError}
use Rattle.request_json.specs.declared.request.Query.{Query}
use Rattle.request_json.specs.declared.request.Request.{Request}
use Rattle.request_json.specs.declared.request.Request.TheVariants as q
use Rattle.request_json.specs.declared.reply.Reply.{Reply}
use Rattle.request_json.specs.declared.reply.Reply.TheVariants as r
use Rattle.request_json.specs.declared.reply.Refusal.{Refusal}
use Rattle.request_json.specs.declared.reply.Refusal.TheVariants as refusal
use Rattle.request_json.specs.Requests.{query_of, request_of}
use Rattle.serve_answers.specs.Readings.{Readings}
use Rattle.serve_answers.specs.Edits.{replace_of, insert_of, delete_of, guard_of, declare_of, add_of, drop_of}
use Rattle.serve_answers.specs.Turns.{Outcome, goes, state_reply, cancel_by, move_turn, state_by, why_by, begin_by, question_of, step_by, step_of, edit_by, edit_turn, whole_turn}
use Rattle.serve_answers.specs.Lines.{request_turn, read_turn}
use Rattle.reply_lines.specs.Refused.{ClosesTicket, RefusalsKeep}

module _ {S : Type 0} (dom : Operations S) (m : Machine) (line : List ℕ) where
  abbrev Keeps : Outcome → Type 0
  Keeps turn = (why : Refusal) → turn.reply ≡ r.Refused why → (turn.machine ≡ m) ⊎ ((why ≡ refusal.Gone) × ClosesTicket dom m turn.machine line)

  -- where the machine stays, and where the reply is no refusal
  stays : (reply : Reply) → Keeps (goes reply m)
  stays reply = λ why is. inl refl

  told_accepts : (l : Location) (v : Value S) (there : Machine) → Keeps (goes (state_reply dom l v m) there)
  told_accepts l (State s) there = λ why is. absurd cc
  told_accepts l (Over n z) there = λ why is. absurd cc

  cancel_keeps : (t : Option Ticket) → Keeps (cancel_by t m)
  cancel_keeps None = stays (r.Refused refusal.NoTicket)
  cancel_keeps (Some t) = λ why is. absurd cc

  move_keeps : (side : List (List Procedure)) (otherwise : Refusal) (there : Machine) → Keeps (move_turn side otherwise there m)
  move_keeps [] otherwise there = stays (r.Refused otherwise)
  move_keeps (p ∷ ps) otherwise there = λ why is. absurd cc

  state_keeps : (query : Query) (a : Answer S) → Keeps (state_by dom query a m)
  state_keeps query (Refuses w) = stays (r.Refused (refusal.Query w))
  state_keeps query (Answers v) = told_accepts query.at v _

  why_keeps : (query : Query) (a : Answer S) → Keeps (why_by dom query a m)
  why_keeps query (Refuses w) = stays (r.Refused (refusal.Query w))
  why_keeps query (Answers v) = λ why is. absurd cc

  begin_keeps : (question : Question) (refusal_is : Option QueryRefusal) → Keeps (begin_by dom question refusal_is m)
  begin_keeps question (Some w) = stays (r.Refused (refusal.Query w))
  begin_keeps question None = λ why is. absurd cc

  either_keeps : (b : Bool) (one other : Outcome) → Keeps one → Keeps other → Keeps (if b then one else other)
  either_keeps true one other first second = first
  either_keeps false one other first second = second

  -- The whole request for a question that the program does not refuse is not refused.
  state_told : (query : Query) (a : Answer S) (there : Machine) → refusal_in a ≡ None → Keeps (goes (state_by dom query a m).reply there)
  state_told query (Refuses w) there none = absurd cc
  state_told query (Answers v) there none = told_accepts query.at v there

  why_told : (query : Query) (a : Answer S) (there : Machine) → refusal_in a ≡ None → Keeps (goes (why_by dom query a m).reply there)
  why_told query (Refuses w) there none = absurd cc
  why_told query (Answers v) there none = λ why is. absurd cc

  whole_told : (question : Question) (there : Machine) → refusal_asked dom question m ≡ None → Keeps (goes (whole_turn dom question m).reply there)
  whole_told (what.State l string) there none = state_told (query_of l string) (answer_at dom l string m) there none
  whole_told (what.Why l string) there none = why_told (query_of l string) (answer_at dom l string m) there none
  whole_told what.Report there none = λ why is. absurd cc
  whole_told (what.Faults only) there none = λ why is. absurd cc

  step_by_keeps : (ticket n : ℕ) (t : Ticket) (refusal_is : Option QueryRefusal) →
      request_of line ≡ Ok (q.Step ticket n) → ticket_of ticket m.tickets ≡ Some t → refusal_asked dom t.question m ≡ refusal_is → Keeps (step_by dom t n refusal_is m)
  step_by_keeps ticket n t (Some w) reads open_one refuses = λ why is.
      inr ((let gone : why ≡ refusal.Gone = cc in gone), record { ticket = ticket; steps = n; asked = t; cause = w; reads = reads; open_one = open_one; refuses = refuses; closes = refl })
  step_by_keeps ticket n t None reads open_one none =
      either_keeps (nat_lt n (length (missing_asked dom t.question m))) _ _ (λ why is. absurd cc) (whole_told t.question _ none)

  step_keeps : (ticket n : ℕ) (t : Option Ticket) → request_of line ≡ Ok (q.Step ticket n) → ticket_of ticket m.tickets ≡ t → Keeps (step_of dom n t m)
  step_keeps ticket n None reads open_one = stays (r.Refused refusal.NoTicket)
  step_keeps ticket n (Some t) reads open_one = step_by_keeps ticket n t (refusal_asked dom t.question m) reads open_one refl

  edit_by_keeps : (e : Edit) (error : Option EditError) → Keeps (edit_by dom e error m)
  edit_by_keeps e None = λ why is. absurd cc
  edit_by_keeps e (Some error) = stays _

  edit_keeps : (made : Result Edit Refusal) → Keeps (edit_turn dom made m)
  edit_keeps (Err why) = stays (r.Refused why)
  edit_keeps (Ok e) = edit_by_keeps e (edit_refusal e m.program m.next)

  request_keeps : (readings : Readings) (request : Request) → request_of line ≡ Ok request → Keeps (request_turn readings dom request m)
  unfolding request_turn
  request_keeps readings (q.State query) reads = state_keeps query (answer_at dom query.at query.string m)
  request_keeps readings q.Report reads = λ why is. absurd cc
  request_keeps readings (q.Faults only) reads = λ why is. absurd cc
  request_keeps readings q.Cost reads = stays _
  request_keeps readings q.Program reads = stays _
  request_keeps readings q.Listing reads = stays _
  request_keeps readings (q.Run inputs fuel at) reads = stays _
  request_keeps readings (q.Replace id text) reads = edit_keeps (replace_of readings m.next id text)
  request_keeps readings (q.Insert place text) reads = edit_keeps (insert_of readings m.next place text)
  request_keeps readings (q.Delete id) reads = edit_keeps (delete_of id)
  request_keeps readings (q.Guard id text) reads = edit_keeps (guard_of readings id text)
  request_keeps readings (q.Declare proc name kind) reads = edit_keeps (declare_of proc name kind)
  request_keeps readings (q.Add before text) reads = edit_keeps (add_of readings m.next before text)
  request_keeps readings (q.Drop proc) reads = edit_keeps (drop_of proc)
  request_keeps readings (q.Why query) reads = why_keeps query (answer_at dom query.at query.string m)
  request_keeps readings q.Undo reads = move_keeps m.past refusal.NothingToUndo (undone dom m)
  request_keeps readings q.Redo reads = move_keeps m.future refusal.NothingToRedo (redone dom m)
  request_keeps readings (q.Begin task) reads =
      let question = question_of task in
      either_keeps (nat_lt 2 (length (string_of question))) _ _ (stays _) (
      either_keeps (nat_le 16 (length m.tickets)) _ _ (stays _) (begin_keeps question (refusal_asked dom question m)))
  request_keeps readings (q.Step ticket n) reads = step_keeps ticket n (ticket_of ticket m.tickets) reads refl
  request_keeps readings (q.Cancel ticket) reads = cancel_keeps (ticket_of ticket m.tickets)

  read_keeps : (readings : Readings) (read : Result Request ReadError) → request_of line ≡ read → Keeps (read_turn readings dom read m)
  read_keeps readings (Err error) reads = stays _
  read_keeps readings (Ok request) reads = request_keeps readings request reads

pub refusals_keep : {S : Type 0} (dom : Operations S) → RefusalsKeep dom
refusals_keep dom readings m line = read_keeps dom m line readings (request_of line) refl

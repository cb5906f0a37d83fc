-- Turns leave the programs of the machine without faults.
use Rattle.std.proofs.Common.{◌≡◌, ℕ, nat_le, nat_lt, Bool, true, false, List, [], ◌∷◌, length, Option, Some, None, Result, Ok, Err, if◌then◌else◌, refl, sym}
use Rattle.imp_syntax.specs.Plain.{Procedure}
use Rattle.imp_syntax.specs.declared.edit.Edit.{Edit}
use Rattle.imp_words.specs.declared.refusal.QueryRefusal.{QueryRefusal}
use Rattle.domain_laws.specs.Operations.{Operations}
use Rattle.batch_meaning.specs.Answers.{Answer, Refuses, Answers}
use Rattle.imp_edit.specs.Refusals.{edit_refusal}
use Rattle.imp_edit.specs.declared.error.EditError.{EditError}
use Rattle.serve_script.specs.Lines.{kept}
use Rattle.serve_script.specs.Replies.{machine_after, next_to}
use Rattle.daig_machine.specs.Machine.{Machine, Ticket, ticket_of, without_ticket}
use Rattle.daig_machine.specs.Turns.{answer_at, missing_asked, redone, refusal_asked, string_of, undone}
use Rattle.daig_machine.specs.declared.question.Question.{Question}
use Rattle.request_json.specs.declared.error.ReadError.{ReadError}
use Rattle.request_json.specs.declared.request.Query.{Query}
use Rattle.request_json.specs.declared.request.Request.{Request}
use Rattle.request_json.specs.declared.request.Request.TheVariants as q
use Rattle.request_json.specs.declared.reply.Refusal.{Refusal}
use Rattle.request_json.specs.declared.reply.Refusal.TheVariants as refusal
use Rattle.request_json.specs.Requests.{request_of}
use Rattle.serve_answers.specs.Readings.{Readings}
use Rattle.serve_answers.specs.Edits.{replace_of, insert_of, delete_of, guard_of, declare_of, add_of, drop_of}
use Rattle.serve_answers.specs.Turns.{Outcome, cancel_by, move_turn, state_by, why_by, begin_by, question_of, step_by, step_of, edit_by, edit_turn}
use Rattle.serve_answers.specs.Lines.{Served, request_turn, read_turn, server}
use Rattle.serve_answers.specs.Fine.{HasFinePrograms, LinesKeepFine}
use Rattle.serve_answers.proofs.Carried.{IsNext, Carries, replace_carries, insert_carries, add_carries, guard_carries, delete_carries, declare_carries, drop_carries}
use Rattle.serve_answers.proofs.FineLemmas.{keeping_fine, ticketed_fine, committed_fine, back_fine, on_fine}

abbrev LeavesFine : Outcome → Type 0
LeavesFine turn = HasFinePrograms turn.machine

either_fine : (b : Bool) (one other : Outcome) → LeavesFine one → LeavesFine other → LeavesFine (if b then one else other)
either_fine true one other first second = first
either_fine false one other first second = second

cancel_fine : (t : Option Ticket) (m : Machine) → HasFinePrograms m → LeavesFine (cancel_by t m)
cancel_fine None m h = h
cancel_fine (Some t) m h = ticketed_fine (without_ticket t.number m.tickets) m.next_ticket m h

move_fine : (side : List (List Procedure)) (otherwise : Refusal) (there m : Machine) → HasFinePrograms there → HasFinePrograms m → LeavesFine (move_turn side otherwise there m)
move_fine [] otherwise there m moved h = h
move_fine (p ∷ ps) otherwise there m moved h = moved

state_fine : {S : Type 0} (dom : Operations S) (query : Query) (a : Answer S) (m : Machine) → HasFinePrograms m → LeavesFine (state_by dom query a m)
state_fine dom query (Refuses why) m h = h
state_fine dom query (Answers v) m h = keeping_fine _ _ m h

why_fine : {S : Type 0} (dom : Operations S) (query : Query) (a : Answer S) (m : Machine) → HasFinePrograms m → LeavesFine (why_by dom query a m)
why_fine dom query (Refuses why) m h = h
why_fine dom query (Answers v) m h = keeping_fine _ _ m h

begin_by_fine : {S : Type 0} (dom : Operations S) (question : Question) (refusal_is : Option QueryRefusal) (m : Machine) → HasFinePrograms m → LeavesFine (begin_by dom question refusal_is m)
begin_by_fine dom question (Some why) m h = h
begin_by_fine dom question None m h = ticketed_fine _ _ m h

step_by_fine : {S : Type 0} (dom : Operations S) (t : Ticket) (n : ℕ) (refusal_is : Option QueryRefusal) (m : Machine) → HasFinePrograms m → LeavesFine (step_by dom t n refusal_is m)
step_by_fine dom t n (Some why) m h = ticketed_fine _ _ m h
step_by_fine dom t n None m h =
    either_fine (nat_lt n (length (missing_asked dom t.question m))) _ _ (keeping_fine _ _ m h) (ticketed_fine _ _ _ (keeping_fine _ _ m h))

step_fine : {S : Type 0} (dom : Operations S) (n : ℕ) (t : Option Ticket) (m : Machine) → HasFinePrograms m → LeavesFine (step_of dom n t m)
step_fine dom n None m h = h
step_fine dom n (Some t) m h = step_by_fine dom t n (refusal_asked dom t.question m) m h

edit_by_fine : {S : Type 0} (dom : Operations S) (e : Edit) (error : Option EditError) (m : Machine) → error ≡ edit_refusal e m.program m.next → IsNext m.next e → HasFinePrograms m → LeavesFine (edit_by dom e error m)
edit_by_fine dom e None m is next h = committed_fine dom e m next (sym is) h
edit_by_fine dom e (Some error) m is next h = h

edit_fine : {S : Type 0} (dom : Operations S) (made : Result Edit Refusal) (m : Machine) → Carries m.next made → HasFinePrograms m → LeavesFine (edit_turn dom made m)
edit_fine dom (Err why) m carries h = h
edit_fine dom (Ok e) m carries h = edit_by_fine dom e (edit_refusal e m.program m.next) m refl (carries e refl) h

request_fine : {S : Type 0} (readings : Readings) (dom : Operations S) (request : Request) (m : Machine) → HasFinePrograms m → LeavesFine (request_turn readings dom request m)
unfolding request_turn
request_fine readings dom (q.State query) m h = state_fine dom query (answer_at dom query.at query.string m) m h
request_fine readings dom q.Report m h = keeping_fine _ _ m h
request_fine readings dom (q.Faults only) m h = keeping_fine _ _ m h
request_fine readings dom q.Cost m h = h
request_fine readings dom q.Program m h = h
request_fine readings dom q.Listing m h = h
request_fine readings dom (q.Run inputs fuel at) m h = h
request_fine readings dom (q.Replace id text) m h = edit_fine dom (replace_of readings m.next id text) m (replace_carries readings m.next id text) h
request_fine readings dom (q.Insert place text) m h = edit_fine dom (insert_of readings m.next place text) m (insert_carries readings m.next place text) h
request_fine readings dom (q.Delete id) m h = edit_fine dom (delete_of id) m (delete_carries m.next id) h
request_fine readings dom (q.Guard id text) m h = edit_fine dom (guard_of readings id text) m (guard_carries readings m.next id text) h
request_fine readings dom (q.Declare proc name kind) m h = edit_fine dom (declare_of proc name kind) m (declare_carries m.next proc name kind) h
request_fine readings dom (q.Add before text) m h = edit_fine dom (add_of readings m.next before text) m (add_carries readings m.next before text) h
request_fine readings dom (q.Drop proc) m h = edit_fine dom (drop_of proc) m (drop_carries m.next proc) h
request_fine readings dom (q.Why query) m h = why_fine dom query (answer_at dom query.at query.string m) m h
request_fine readings dom q.Undo m h = move_fine m.past refusal.NothingToUndo (undone dom m) m (back_fine dom m.past m h.past h) h
request_fine readings dom q.Redo m h = move_fine m.future refusal.NothingToRedo (redone dom m) m (on_fine dom m.future m h.future h) h
request_fine readings dom (q.Begin task) m h =
    let question = question_of task in
    either_fine (nat_lt 2 (length (string_of question))) _ _ h (either_fine (nat_le 16 (length m.tickets)) _ _ h (begin_by_fine dom question (refusal_asked dom question m) m h))
request_fine readings dom (q.Step ticket n) m h = step_fine dom n (ticket_of ticket m.tickets) m h
request_fine readings dom (q.Cancel ticket) m h = cancel_fine (ticket_of ticket m.tickets) m h

read_fine : {S : Type 0} (readings : Readings) (dom : Operations S) (request : Result Request ReadError) (m : Machine) → HasFinePrograms m → LeavesFine (read_turn readings dom request m)
read_fine readings dom (Err error) m h = h
read_fine readings dom (Ok request) m h = request_fine readings dom request m h

pub lines_fine : {S : Type 0} (dom : Operations S) → LinesKeepFine dom
lines_fine dom = λ readings m line h. read_fine readings dom (request_of line) m h

-- ---- many lines

kept_fine : {S : Type 0} (dom : Operations S) (s : Served) (line : Option (List ℕ)) → HasFinePrograms s.machine → HasFinePrograms (next_to (server dom) s line).machine
kept_fine dom s None h = h
kept_fine dom s (Some line) h = lines_fine dom s.readings s.machine line h

-- so it is after any lines, and the readings stay
pub after_fine : {S : Type 0} (dom : Operations S) (s : Served) (lines : List (List ℕ)) → HasFinePrograms s.machine → HasFinePrograms (machine_after (server dom) s lines).machine
after_fine dom s [] h = h
after_fine dom s (line ∷ lines) h = after_fine dom (next_to (server dom) s (kept line)) lines (kept_fine dom s (kept line) h)

-- Turns that refuse leave the machine.
use Rattle.std.proofs.Common.{◌≡◌, inl, inr, ℕ, nat_le, nat_lt, Bool, true, false, List, [], ◌∷◌, length, Option, Some, None, Result, Ok, Err, if◌then◌else◌, refl}
use Rattle.imp_syntax.specs.Plain.{Procedure}
use Rattle.imp_syntax.specs.declared.edit.Edit.{Edit}
use Rattle.imp_syntax.specs.declared.edit.Location.{Location}
use Rattle.imp_words.specs.declared.refusal.QueryRefusal.{QueryRefusal}
use Rattle.imp_words.specs.declared.refusal.QueryRefusal.TheVariants.{LongString}
use Rattle.domain_laws.specs.Operations.{Operations}
use Rattle.batch_meaning.specs.Values.{Value, State, Over}
use Rattle.batch_meaning.specs.Answers.{Answer, Refuses, Answers}
use Rattle.imp_edit.specs.Refusals.{edit_refusal}
use Rattle.imp_edit.specs.declared.error.EditError.{EditError}
use Rattle.daig_machine.specs.Machine.{Machine, Ticket, ticket_of}
use Rattle.daig_machine.specs.Turns.{answer_at, missing_asked, redone, refusal_asked, refusal_in, string_of, undone}
use Rattle.daig_machine.specs.declared.question.Question.{Question}
use Rattle.daig_machine.specs.declared.question.Question.TheVariants as what
use Rattle.request_json.specs.declared.error.ReadError.{ReadError}
use Rattle.request_json.specs.declared.request.Query.{Query}
use Rattle.request_json.specs.declared.request.Request.{Request}
use Rattle.request_json.specs.declared.request.Request.TheVariants as q
use Rattle.request_json.specs.declared.reply.Reply.{Reply}
use Rattle.request_json.specs.declared.reply.Reply.TheVariants as r
use Rattle.request_json.specs.declared.reply.Refusal.{Refusal}
use Rattle.request_json.specs.declared.reply.Refusal.TheVariants as refusal
use Rattle.request_json.specs.Requests.{query_of, request_of}
use Rattle.serve_answers.specs.Readings.{Readings}
use Rattle.serve_answers.specs.Edits.{replace_of, insert_of, delete_of, guard_of, declare_of, add_of, drop_of}
use Rattle.serve_answers.specs.Turns.{Outcome, goes, state_reply, cancel_by, move_turn, state_by, why_by, begin_by, question_of, step_by, step_of, edit_by, edit_turn, whole_turn}
use Rattle.serve_answers.specs.Lines.{request_turn, read_turn}
use Rattle.serve_answers.specs.Claims.{IsSafe, RefusalsAreSafe}

-- where the machine stays, and where the reply is no refusal
stays : (reply : Reply) (m : Machine) → IsSafe (goes reply m) m
stays reply m = λ why is. inl refl

told_accepts : {S : Type 0} (dom : Operations S) (l : Location) (v : Value S) (m : Machine) (why : Refusal) → state_reply dom l v m ≡ r.Refused why → ⊥
told_accepts dom l (State s) m why is = cc
told_accepts dom l (Over n z) m why is = cc

cancel_safe : (t : Option Ticket) (m : Machine) → IsSafe (cancel_by t m) m
cancel_safe None m = stays (r.Refused refusal.NoTicket) m
cancel_safe (Some t) m = λ why is. cc

move_safe : (side : List (List Procedure)) (otherwise : Refusal) (there m : Machine) → IsSafe (move_turn side otherwise there m) m
move_safe [] otherwise there m = stays (r.Refused otherwise) m
move_safe (p ∷ ps) otherwise there m = λ why is. cc

state_safe : {S : Type 0} (dom : Operations S) (query : Query) (a : Answer S) (m : Machine) → IsSafe (state_by dom query a m) m
state_safe dom query (Refuses w) m = stays (r.Refused (refusal.Query w)) m
state_safe dom query (Answers v) m = λ why is. absurd (told_accepts dom query.at v m why is)

why_safe : {S : Type 0} (dom : Operations S) (query : Query) (a : Answer S) (m : Machine) → IsSafe (why_by dom query a m) m
why_safe dom query (Refuses w) m = stays (r.Refused (refusal.Query w)) m
why_safe dom query (Answers v) m = λ why is. cc

begin_by_safe : {S : Type 0} (dom : Operations S) (question : Question) (refusal_is : Option QueryRefusal) (m : Machine) → IsSafe (begin_by dom question refusal_is m) m
begin_by_safe dom question (Some w) m = stays (r.Refused (refusal.Query w)) m
begin_by_safe dom question None m = λ why is. cc

either_safe : (b : Bool) (m : Machine) (one other : Outcome) → IsSafe one m → IsSafe other m → IsSafe (if b then one else other) m
either_safe true m one other first second = first
either_safe false m one other first second = second

gone_safe : (there m : Machine) → IsSafe (goes (r.Refused refusal.Gone) there) m
gone_safe there m = λ why is. inr (let e : why ≡ refusal.Gone = cc in e)

pending_safe : (n : ℕ) (there m : Machine) → IsSafe (goes (r.Pending n) there) m
pending_safe n there m = λ why is. cc

next_safe : (n : ℕ) (there m : Machine) → IsSafe (goes (r.Next n) there) m
next_safe n there m = λ why is. cc

-- the whole request for a question that the program does not refuse is not refused
state_accepts : {S : Type 0} (dom : Operations S) (query : Query) (a : Answer S) (m : Machine) (why : Refusal) → refusal_in a ≡ None → (state_by dom query a m).reply ≡ r.Refused why → ⊥
state_accepts dom query (Refuses w) m why none is = cc
state_accepts dom query (Answers v) m why none is = told_accepts dom query.at v m why is

why_accepts : {S : Type 0} (dom : Operations S) (query : Query) (a : Answer S) (m : Machine) (why : Refusal) → refusal_in a ≡ None → (why_by dom query a m).reply ≡ r.Refused why → ⊥
why_accepts dom query (Refuses w) m why none is = cc
why_accepts dom query (Answers v) m why none is = cc

whole_accepts : {S : Type 0} (dom : Operations S) (question : Question) (m : Machine) (why : Refusal) → refusal_asked dom question m ≡ None → (whole_turn dom question m).reply ≡ r.Refused why → ⊥
whole_accepts dom (what.State l string) m why none is = state_accepts dom (query_of l string) (answer_at dom l string m) m why none is
whole_accepts dom (what.Why l string) m why none is = why_accepts dom (query_of l string) (answer_at dom l string m) m why none is
whole_accepts dom what.Report m why none is = cc
whole_accepts dom (what.Faults only) m why none is = cc

step_by_safe : {S : Type 0} (dom : Operations S) (t : Ticket) (n : ℕ) (refusal_is : Option QueryRefusal) (m : Machine) → refusal_asked dom t.question m ≡ refusal_is → IsSafe (step_by dom t n refusal_is m) m
step_by_safe dom t n (Some w) m some = gone_safe _ m
step_by_safe dom t n None m none =
    either_safe (nat_lt n (length (missing_asked dom t.question m))) m _ _ (pending_safe n _ m) (λ why is. absurd (whole_accepts dom t.question m why none is))

step_safe : {S : Type 0} (dom : Operations S) (n : ℕ) (t : Option Ticket) (m : Machine) → IsSafe (step_of dom n t m) m
step_safe dom n None m = stays (r.Refused refusal.NoTicket) m
step_safe dom n (Some t) m = step_by_safe dom t n (refusal_asked dom t.question m) m refl

edit_by_safe : {S : Type 0} (dom : Operations S) (e : Edit) (error : Option EditError) (m : Machine) → IsSafe (edit_by dom e error m) m
edit_by_safe dom e None m = next_safe _ _ m
edit_by_safe dom e (Some error) m = stays _ m

edit_safe : {S : Type 0} (dom : Operations S) (e : Result Edit Refusal) (m : Machine) → IsSafe (edit_turn dom e m) m
edit_safe dom (Err why) m = stays (r.Refused why) m
edit_safe dom (Ok e) m = edit_by_safe dom e (edit_refusal e m.program m.next) m

request_safe : {S : Type 0} (readings : Readings) (dom : Operations S) (request : Request) (m : Machine) → IsSafe (request_turn readings dom request m) m
unfolding request_turn
request_safe readings dom (q.State query) m = state_safe dom query (answer_at dom query.at query.string m) m
request_safe readings dom q.Report m = λ why is. cc
request_safe readings dom (q.Faults only) m = λ why is. cc
request_safe readings dom q.Cost m = stays _ m
request_safe readings dom q.Program m = stays _ m
request_safe readings dom q.Listing m = stays _ m
request_safe readings dom (q.Run inputs fuel at) m = stays _ m
request_safe readings dom (q.Replace id text) m = edit_safe dom (replace_of readings m.next id text) m
request_safe readings dom (q.Insert place text) m = edit_safe dom (insert_of readings m.next place text) m
request_safe readings dom (q.Delete id) m = edit_safe dom (delete_of id) m
request_safe readings dom (q.Guard id text) m = edit_safe dom (guard_of readings id text) m
request_safe readings dom (q.Declare proc name kind) m = edit_safe dom (declare_of proc name kind) m
request_safe readings dom (q.Add before text) m = edit_safe dom (add_of readings m.next before text) m
request_safe readings dom (q.Drop proc) m = edit_safe dom (drop_of proc) m
request_safe readings dom (q.Why query) m = why_safe dom query (answer_at dom query.at query.string m) m
request_safe readings dom q.Undo m = move_safe m.past refusal.NothingToUndo (undone dom m) m
request_safe readings dom q.Redo m = move_safe m.future refusal.NothingToRedo (redone dom m) m
request_safe readings dom (q.Begin task) m =
    let question = question_of task in
    either_safe (nat_lt 2 (length (string_of question))) m _ _ (stays (r.Refused (refusal.Query LongString)) m) (
    either_safe (nat_le 16 (length m.tickets)) m _ _ (stays (r.Refused refusal.ManyTickets) m) (begin_by_safe dom question (refusal_asked dom question m) m))
request_safe readings dom (q.Step ticket n) m = step_safe dom n (ticket_of ticket m.tickets) m
request_safe readings dom (q.Cancel ticket) m = cancel_safe (ticket_of ticket m.tickets) m

read_safe : {S : Type 0} (readings : Readings) (dom : Operations S) (request : Result Request ReadError) (m : Machine) → IsSafe (read_turn readings dom request m) m
read_safe readings dom (Err error) m = stays _ m
read_safe readings dom (Ok request) m = request_safe readings dom request m

pub refusals_safe : {S : Type 0} (dom : Operations S) → RefusalsAreSafe dom
refusals_safe dom = λ readings m line. read_safe readings dom (request_of line) m

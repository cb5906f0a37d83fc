-- Tallies of the replies to lines.
use Rattle.std.proofs.Common.{◌≡◌, ◌∙◌, ◌++◌, ◌+◌, ◌*◌, ◌^◌, ◌≤◌, ℕ, ℤ, nat_le, nat_lt, Bool, true, false, List, [], ◌∷◌, length, Option, Some, None, Result, Ok, Err, IfOk, if◌then◌else◌, refl, ap, arith}
use Rattle.imp_syntax.specs.declared.edit.Edit.{Edit}
use Rattle.imp_syntax.specs.declared.edit.Location.{Location}
use Rattle.imp_syntax.specs.Plain.{Procedure}
use Rattle.imp_edit.specs.Refusals.{edit_refusal}
use Rattle.imp_edit.specs.declared.error.EditError.{EditError}
use Rattle.domain_laws.specs.Operations.{Operations}
use Rattle.batch_meaning.specs.Values.{Value, State, Over}
use Rattle.batch_meaning.specs.Answers.{Answer, Refuses, Answers, Found, In, Misses, procedure_of}
use Rattle.imp_check.specs.Slots.{routines_of}
use Rattle.daig_machine.specs.Machine.{Machine, Ticket, ticket_of}
use Rattle.daig_machine.specs.Turns.{answer_at, after_question, missing_asked, redone, refusal_asked, string_of, undone}
use Rattle.daig_machine.specs.declared.question.Question.{Question}
use Rattle.daig_machine.specs.declared.question.Question.TheVariants as what
use Rattle.request_json.specs.declared.error.ReadError.{ReadError}
use Rattle.request_json.specs.declared.request.Query.{Query}
use Rattle.request_json.specs.declared.request.Request.{Request}
use Rattle.request_json.specs.declared.request.Request.TheVariants as q
use Rattle.request_json.specs.declared.reply.Reply.TheVariants as r
use Rattle.request_json.specs.declared.reply.Refusal.{Refusal}
use Rattle.request_json.specs.declared.reply.Refusal.TheVariants as refusal
use Rattle.request_json.specs.Requests.{query_of, request_of}
use Rattle.serve_replies.specs.Runs.{asked_run, found_run, run_reply}
use Rattle.serve_replies.specs.Texts.{program_reply}
use Rattle.imp_slots.specs.Plain.{Routine}
use Rattle.imp_words.specs.declared.refusal.QueryRefusal.{QueryRefusal}
use Rattle.imp_words.specs.declared.refusal.QueryRefusal.TheVariants.{LongString}
use Rattle.serve_answers.specs.Lines.{Served, line_turn, read_turn, request_turn, server}
use Rattle.serve_answers.specs.Turns.{Outcome, begin_by, cancel_by, edit_by, edit_turn, goes, move_turn, question_of, state_by, why_by, step_by, step_of, state_reply, whole_turn}
use Rattle.serve_answers.specs.Edits.{replace_of, insert_of, delete_of, guard_of, declare_of, add_of, drop_of}
use Rattle.serve_answers.specs.Readings.{Readings}
use Rattle.gen_summary.specs.declared.kind.ReplyKind.TheVariants.{Cost}
use Rattle.gen_summary.specs.declared.tally.ReplyTally.{ReplyTally}
use Rattle.gen_summary.specs.Summary.{tally_with, cost_in, kind_of, nothing, summary_text, IsWithin}
use Rattle.serve_command.specs.declared.job.DomainName.{DomainName}
use Rattle.serve_script.specs.Lines.{whole_lines}
use Rattle.daig_gen.specs.Script.{script_of}
use Rattle.serve_output.specs.Domains.{meaning_of}
use Rattle.serve_output.specs.Output.{gen_bytes, tally_output}
use Rattle.daig_server.specs.Tallies.{after_lines}

pub after-append : {S : Type 0} (dom : Operations S) (xs ys : List (List ℕ)) (s : Served) → after_lines dom (xs ++ ys) s ≡ after_lines dom ys (after_lines dom xs s)
after-append dom [] ys s = refl
after-append dom (x ∷ xs) ys s = after-append dom xs ys ((server dom).next s x)

pub tallied-append : {S : Type 0} (dom : Operations S) (xs ys : List (List ℕ)) (s : Served) (t : ReplyTally) → tally_output dom (xs ++ ys) s t ≡ tally_output dom ys (after_lines dom xs s) (tally_output dom xs s t)
tallied-append dom [] ys s t = refl
tallied-append dom (x ∷ xs) ys s t = tallied-append dom xs ys ((server dom).next s x) (tally_with (line_turn s.readings dom x s.machine).reply t)

-- as many replies, or one more
pub within_more : (n : ℕ) (t : ReplyTally) → IsWithin n t → IsWithin (n + 1) t
within_more n t w = record {
  edits = let few : t.edits ≤ n = w.edits in omega (arith, few);
  filled = let few : t.filled ≤ n * 2 ^ 64 = w.filled in omega (arith, few);
  over = let few : t.over ≤ n = w.over in omega (arith, few);
  refused = let few : t.refused ≤ n = w.refused in omega (arith, few);
  states = let few : t.states ≤ n = w.states in omega (arith, few);
}

-- A turn that tells a cost tells that of the machine after it.
abbrev pub TellsCost : Outcome → Type 0
TellsCost turn = kind_of turn.reply ≡ Cost → cost_in turn.reply ≡ turn.machine.cost

told_cost : {S : Type 0} (dom : Operations S) (l : Location) (v : Value S) (m n : Machine) → TellsCost (goes (state_reply dom l v m) n)
told_cost dom l (State s) m n = λ is. cc
told_cost dom l (Over head z) m n = λ is. cc

cancel_cost : (t : Option Ticket) (m : Machine) → TellsCost (cancel_by t m)
cancel_cost None m = λ is. cc
cancel_cost (Some t) m = λ is. cc

move_cost : (side : List (List Procedure)) (otherwise : Refusal) (there m : Machine) → TellsCost (move_turn side otherwise there m)
move_cost [] otherwise there m = λ is. cc
move_cost (p ∷ ps) otherwise there m = λ is. cc

state_cost : {S : Type 0} (dom : Operations S) (query : Query) (a : Answer S) (m : Machine) → TellsCost (state_by dom query a m)
state_cost dom query (Refuses why) m = λ is. cc
state_cost dom query (Answers v) m = told_cost dom query.at v m (after_question dom query.at query.string m)

edit_by_cost : {S : Type 0} (dom : Operations S) (e : Edit) (error : Option EditError) (m : Machine) → TellsCost (edit_by dom e error m)
edit_by_cost dom e None m = λ is. cc
edit_by_cost dom e (Some error) m = λ is. cc

edit_cost : {S : Type 0} (dom : Operations S) (e : Result Edit Refusal) (m : Machine) → TellsCost (edit_turn dom e m)
edit_cost dom (Err why) m = λ is. cc
edit_cost dom (Ok e) m = edit_by_cost dom e (edit_refusal e m.program m.next) m

-- The whole request for a question tells no cost.
state_untold : {S : Type 0} (dom : Operations S) (query : Query) (a : Answer S) (m n : Machine) → TellsCost (goes (state_by dom query a m).reply n)
state_untold dom query (Refuses why) m n = λ is. cc
state_untold dom query (Answers v) m n = told_cost dom query.at v m n

why_untold : {S : Type 0} (dom : Operations S) (query : Query) (a : Answer S) (m n : Machine) → TellsCost (goes (why_by dom query a m).reply n)
why_untold dom query (Refuses why) m n = λ is. cc
why_untold dom query (Answers v) m n = λ is. cc

whole_untold : {S : Type 0} (dom : Operations S) (question : Question) (m n : Machine) → TellsCost (goes (whole_turn dom question m).reply n)
whole_untold dom (what.State l string) m n = state_untold dom (query_of l string) (answer_at dom l string m) m n
whole_untold dom (what.Why l string) m n = why_untold dom (query_of l string) (answer_at dom l string m) m n
whole_untold dom what.Report m n = λ is. cc
whole_untold dom (what.Faults only) m n = λ is. cc

step_if_cost : {S : Type 0} (dom : Operations S) (t : Ticket) (n : ℕ) (test : Bool) (m stays ends : Machine) →
    TellsCost (if test then goes (r.Pending n) stays else goes (whole_turn dom t.question m).reply ends)
step_if_cost dom t n true m stays ends = λ is. cc
step_if_cost dom t n false m stays ends = whole_untold dom t.question m ends

step_by_cost : {S : Type 0} (dom : Operations S) (t : Ticket) (n : ℕ) (why : Option QueryRefusal) (m : Machine) → TellsCost (step_by dom t n why m)
step_by_cost dom t n (Some why) m = λ is. cc
step_by_cost dom t n None m = step_if_cost dom t n (nat_lt n (length (missing_asked dom t.question m))) m _ _

step_cost : {S : Type 0} (dom : Operations S) (n : ℕ) (t : Option Ticket) (m : Machine) → TellsCost (step_of dom n t m)
step_cost dom n None m = λ is. cc
step_cost dom n (Some t) m = step_by_cost dom t n (refusal_asked dom t.question m) m

why_by_cost : {S : Type 0} (dom : Operations S) (query : Query) (a : Answer S) (m : Machine) → TellsCost (why_by dom query a m)
why_by_cost dom query (Refuses why) m = λ is. cc
why_by_cost dom query (Answers v) m = λ is. cc

begin_by_cost : {S : Type 0} (dom : Operations S) (question : Question) (refused : Option QueryRefusal) (m : Machine) → TellsCost (begin_by dom question refused m)
begin_by_cost dom question (Some why) m = λ is. cc
begin_by_cost dom question None m = λ is. cc

begin_if_cost : (long full : Bool) (why : Refusal) (many : Refusal) (m : Machine) (turn : Outcome) → TellsCost turn →
    TellsCost (if long then goes (r.Refused why) m else (if full then goes (r.Refused many) m else turn))
begin_if_cost true full why many m turn state_reply = λ is. cc
begin_if_cost false true why many m turn state_reply = λ is. cc
begin_if_cost false false why many m turn state_reply = state_reply

run_found_cost : (program : List Routine) (inputs : List ℤ) (fuel : ℕ) (l : Location) (found : Found) (m : Machine) → TellsCost (goes (found_run program inputs fuel l found) m)
unfolding run_reply
run_found_cost program inputs fuel l (Misses why) m = λ is. cc
run_found_cost program inputs fuel l (In p) m = λ is. cc

run_cost : (program : List Routine) (inputs : List ℤ) (fuel : ℕ) (at : Option Location) (m : Machine) → TellsCost (goes (asked_run program inputs fuel at) m)
unfolding run_reply
run_cost program inputs fuel None m = λ is. cc
run_cost program inputs fuel (Some l) m = run_found_cost program inputs fuel l (procedure_of program l) m

program_cost : (next : ℕ) (program : List Procedure) (m : Machine) → TellsCost (goes (program_reply next program) m)
unfolding program_reply
program_cost next program m = λ is. cc

request_cost : {S : Type 0} (readings : Readings) (dom : Operations S) (request : Request) (m : Machine) → TellsCost (request_turn readings dom request m)
unfolding request_turn
request_cost readings dom (q.State query) m = state_cost dom query (answer_at dom query.at query.string m) m
request_cost readings dom q.Report m = λ is. cc
request_cost readings dom (q.Faults only) m = λ is. cc
request_cost readings dom q.Cost m = λ is. refl
request_cost readings dom q.Program m = program_cost m.next m.program m
request_cost readings dom q.Listing m = λ is. cc
request_cost readings dom (q.Run inputs fuel at) m = run_cost (routines_of m.program) inputs fuel at m
request_cost readings dom (q.Replace id text) m = edit_cost dom (replace_of readings m.next id text) m
request_cost readings dom (q.Insert place text) m = edit_cost dom (insert_of readings m.next place text) m
request_cost readings dom (q.Delete id) m = edit_cost dom (delete_of id) m
request_cost readings dom (q.Guard id text) m = edit_cost dom (guard_of readings id text) m
request_cost readings dom (q.Declare proc name kind) m = edit_cost dom (declare_of proc name kind) m
request_cost readings dom (q.Add before text) m = edit_cost dom (add_of readings m.next before text) m
request_cost readings dom (q.Drop proc) m = edit_cost dom (drop_of proc) m
request_cost readings dom (q.Why query) m = why_by_cost dom query (answer_at dom query.at query.string m) m
request_cost readings dom q.Undo m = move_cost m.past refusal.NothingToUndo (undone dom m) m
request_cost readings dom q.Redo m = move_cost m.future refusal.NothingToRedo (redone dom m) m
request_cost readings dom (q.Begin task) m =
    let question = question_of task in
    begin_if_cost (nat_lt 2 (length (string_of question))) (nat_le 16 (length m.tickets)) (refusal.Query LongString) refusal.ManyTickets m
    (begin_by dom question (refusal_asked dom question m) m) (begin_by_cost dom question (refusal_asked dom question m) m)
request_cost readings dom (q.Step ticket n) m = step_cost dom n (ticket_of ticket m.tickets) m
request_cost readings dom (q.Cancel ticket) m = cancel_cost (ticket_of ticket m.tickets) m

read_cost : {S : Type 0} (readings : Readings) (dom : Operations S) (request : Result Request ReadError) (m : Machine) → TellsCost (read_turn readings dom request m)
read_cost readings dom (Err error) m = λ is. cc
read_cost readings dom (Ok request) m = request_cost readings dom request m

-- so is each line's
pub line_cost : {S : Type 0} (readings : Readings) (dom : Operations S) (line : List ℕ) (m : Machine) → TellsCost (line_turn readings dom line m)
line_cost readings dom line m = read_cost readings dom (request_of line) m

-- the summary of the generated script
pub script_summed : {A E : Type 0} (r : Result A E) (bytes : A → List ℕ) (stands : Served → Type 0) (t : ReplyTally) (domain : DomainName) (seed size : ℕ) (script : List ℕ) →
    script ≡ script_of seed size → ((s : Served) → stands s → t ≡ tally_output (meaning_of domain).operations (whole_lines [] script) s nothing) →
    IfOk r (λ v. bytes v ≡ summary_text t) → IfOk r (λ v. (first : Served) → stands first → bytes v ≡ gen_bytes domain first seed size)
unfolding gen_bytes
script_summed (Ok v) bytes stands t domain seed size script is tally state_reply = λ first standing.
    state_reply ∙ ap summary_text (tally first standing)
    ∙ ap (λ (text : List ℕ). summary_text (tally_output (meaning_of domain).operations (whole_lines [] text) first nothing)) is
script_summed (Err e) bytes stands t domain seed size script is tally state_reply = tt

-- what holds of whatever a server stands for holds of what it begins with
pub from_opening : {A E : Type 0} (r : Result A E) (Holds : A → Served → Type 0) (stands : Served → Type 0) (first : Readings → Served) →
    ((readings : Readings) → stands (first readings)) → IfOk r (λ v. (s : Served) → stands s → Holds v s) → IfOk r (λ v. (readings : Readings) → Holds v (first readings))
from_opening (Ok v) Holds stands first begins state_reply = λ readings. state_reply (first readings) (begins readings)
from_opening (Err e) Holds stands first begins state_reply = tt

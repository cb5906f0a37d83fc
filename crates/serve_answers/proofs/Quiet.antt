-- Quiet requests leave the program and those on both sides of it; edits, undo and redo lead to the programs that they name.
use Rattle.std.proofs.Common.{◌≡◌, ◌∙◌, ℕ, nat_le, nat_lt, Bool, true, false, List, [], ◌∷◌, length, take, Option, Some, None, Result, Ok, Err, if◌then◌else◌, refl}
use Rattle.imp_syntax.specs.Plain.{Procedure}
use Rattle.imp_syntax.specs.declared.edit.Edit.{Edit}
use Rattle.imp_words.specs.declared.refusal.QueryRefusal.{QueryRefusal}
use Rattle.imp_words.specs.declared.refusal.QueryRefusal.TheVariants.{LongString}
use Rattle.domain_laws.specs.Operations.{Operations}
use Rattle.batch_meaning.specs.Batch.{LoopOptions}
use Rattle.batch_meaning.specs.Answers.{Answer, Refuses, Answers}
use Rattle.imp_edit.specs.Refusals.{edit_refusal}
use Rattle.imp_edit.specs.declared.error.EditError.{EditError}
use Rattle.daig_machine.specs.Machine.{Machine, Ticket, ticket_of}
use Rattle.daig_machine.specs.Turns.{answer_at, missing_asked, refusal_asked, string_of, back_to, on_to}
use Rattle.daig_machine.specs.declared.question.Question.{Question}
use Rattle.request_json.specs.declared.error.ReadError.{ReadError}
use Rattle.request_json.specs.declared.request.Query.{Query}
use Rattle.request_json.specs.declared.request.Request.{Request}
use Rattle.request_json.specs.declared.request.Request.TheVariants as q
use Rattle.request_json.specs.declared.reply.Reply.TheVariants as r
use Rattle.request_json.specs.declared.reply.Refusal.{Refusal}
use Rattle.request_json.specs.declared.reply.Refusal.TheVariants as refusal
use Rattle.serve_answers.specs.Readings.{Readings}
use Rattle.serve_answers.specs.Edits.{replace_of, insert_of, delete_of, guard_of, declare_of, add_of, drop_of}
use Rattle.serve_answers.specs.Turns.{Outcome, cancel_by, move_turn, state_by, why_by, begin_by, question_of, step_by, step_of, edit_by, edit_turn}
use Rattle.serve_answers.specs.Lines.{request_turn, read_turn}
use Rattle.serve_answers.specs.Histories.{IsEdit, IsQuiet, IsQuietRead}

-- The program, how its loops are interpreted, and the programs on both sides are as they were.
pub record KeepsPrograms (old new : Machine) : Type 0 where
  pub program : new.program ≡ old.program
  pub engine : new.engine ≡ old.engine
  pub past : new.past ≡ old.past
  pub future : new.future ≡ old.future

-- The program that was present is the nearest one of the past.
pub record Leads (old new : Machine) : Type 0 where
  pub engine : new.engine ≡ old.engine
  pub rest : List (List Procedure)
  pub past : new.past ≡ old.program ∷ rest

pub keeps_all : (m : Machine) → KeepsPrograms m m
keeps_all m = record { program = refl; engine = refl; past = refl; future = refl }

pub keeps_on : (a b c : Machine) → KeepsPrograms a b → KeepsPrograms b c → KeepsPrograms a c
keeps_on a b c one other = record {
  program = other.program ∙ one.program;
  engine = other.engine ∙ one.engine;
  past = other.past ∙ one.past;
  future = other.future ∙ one.future;
}

abbrev Keeps : Machine → Outcome → Type 0
Keeps m turn = KeepsPrograms m turn.machine

cancel_keeps : (t : Option Ticket) (m : Machine) → Keeps m (cancel_by t m)
cancel_keeps None m = keeps_all m
cancel_keeps (Some t) m = record { program = refl; engine = refl; past = refl; future = refl }

state_keeps : {S : Type 0} (dom : Operations S) (query : Query) (a : Answer S) (m : Machine) → Keeps m (state_by dom query a m)
state_keeps dom query (Refuses w) m = keeps_all m
state_keeps dom query (Answers v) m = record { program = refl; engine = refl; past = refl; future = refl }

why_keeps : {S : Type 0} (dom : Operations S) (query : Query) (a : Answer S) (m : Machine) → Keeps m (why_by dom query a m)
why_keeps dom query (Refuses w) m = keeps_all m
why_keeps dom query (Answers v) m = record { program = refl; engine = refl; past = refl; future = refl }

begin_by_keeps : {S : Type 0} (dom : Operations S) (question : Question) (refusal_is : Option QueryRefusal) (m : Machine) → Keeps m (begin_by dom question refusal_is m)
begin_by_keeps dom question (Some w) m = keeps_all m
begin_by_keeps dom question None m = record { program = refl; engine = refl; past = refl; future = refl }

either_keeps : (b : Bool) (m : Machine) (one other : Outcome) → Keeps m one → Keeps m other → Keeps m (if b then one else other)
either_keeps true m one other first second = first
either_keeps false m one other first second = second

step_by_keeps : {S : Type 0} (dom : Operations S) (t : Ticket) (n : ℕ) (refusal_is : Option QueryRefusal) (m : Machine) → Keeps m (step_by dom t n refusal_is m)
step_by_keeps dom t n (Some w) m = record { program = refl; engine = refl; past = refl; future = refl }
step_by_keeps dom t n None m =
    either_keeps (nat_lt n (length (missing_asked dom t.question m))) m _ _
    (record { program = refl; engine = refl; past = refl; future = refl }) (record { program = refl; engine = refl; past = refl; future = refl })

step_keeps : {S : Type 0} (dom : Operations S) (n : ℕ) (t : Option Ticket) (m : Machine) → Keeps m (step_of dom n t m)
step_keeps dom n None m = keeps_all m
step_keeps dom n (Some t) m = step_by_keeps dom t n (refusal_asked dom t.question m) m

quiet_request : {S : Type 0} (readings : Readings) (dom : Operations S) (request : Request) (m : Machine) → IsQuiet request → Keeps m (request_turn readings dom request m)
unfolding request_turn
quiet_request readings dom (q.State query) m quiet = state_keeps dom query (answer_at dom query.at query.string m) m
quiet_request readings dom q.Report m quiet = record { program = refl; engine = refl; past = refl; future = refl }
quiet_request readings dom (q.Faults only) m quiet = record { program = refl; engine = refl; past = refl; future = refl }
quiet_request readings dom q.Cost m quiet = keeps_all m
quiet_request readings dom q.Program m quiet = keeps_all m
quiet_request readings dom q.Listing m quiet = keeps_all m
quiet_request readings dom (q.Run inputs fuel at) m quiet = keeps_all m
quiet_request readings dom (q.Replace id text) m quiet = absurd quiet
quiet_request readings dom (q.Insert place text) m quiet = absurd quiet
quiet_request readings dom (q.Delete id) m quiet = absurd quiet
quiet_request readings dom (q.Guard id text) m quiet = absurd quiet
quiet_request readings dom (q.Declare proc name kind) m quiet = absurd quiet
quiet_request readings dom (q.Add before text) m quiet = absurd quiet
quiet_request readings dom (q.Drop proc) m quiet = absurd quiet
quiet_request readings dom (q.Why query) m quiet = why_keeps dom query (answer_at dom query.at query.string m) m
quiet_request readings dom q.Undo m quiet = absurd quiet
quiet_request readings dom q.Redo m quiet = absurd quiet
quiet_request readings dom (q.Begin task) m quiet =
    let question = question_of task in
    either_keeps (nat_lt 2 (length (string_of question))) m _ _ (keeps_all m) (
    either_keeps (nat_le 16 (length m.tickets)) m _ _ (keeps_all m) (begin_by_keeps dom question (refusal_asked dom question m) m))
quiet_request readings dom (q.Step ticket n) m quiet = step_keeps dom n (ticket_of ticket m.tickets) m
quiet_request readings dom (q.Cancel ticket) m quiet = cancel_keeps (ticket_of ticket m.tickets) m

pub quiet_keeps : {S : Type 0} (readings : Readings) (dom : Operations S) (read : Result Request ReadError) (m : Machine) → IsQuietRead read → Keeps m (read_turn readings dom read m)
quiet_keeps readings dom (Err error) m quiet = keeps_all m
quiet_keeps readings dom (Ok request) m quiet = quiet_request readings dom request m quiet

-- ---- an accepted edit

edit_by_leads : {S : Type 0} (dom : Operations S) (e : Edit) (error : Option EditError) (m : Machine) (n : ℕ) → (edit_by dom e error m).reply ≡ r.Next n → Leads m (edit_by dom e error m).machine
edit_by_leads dom e None m n accepted = record { engine = refl; rest = take 63 m.past; past = refl }
edit_by_leads dom e (Some error) m n accepted = absurd cc

edit_leads : {S : Type 0} (dom : Operations S) (made : Result Edit Refusal) (m : Machine) (n : ℕ) → (edit_turn dom made m).reply ≡ r.Next n → Leads m (edit_turn dom made m).machine
edit_leads dom (Err why) m n accepted = absurd cc
edit_leads dom (Ok e) m n accepted = edit_by_leads dom e (edit_refusal e m.program m.next) m n accepted

pub accepted_leads : {S : Type 0} (readings : Readings) (dom : Operations S) (request : Request) (m : Machine) (n : ℕ) →
    IsEdit request → (request_turn readings dom request m).reply ≡ r.Next n → Leads m (request_turn readings dom request m).machine
unfolding request_turn
accepted_leads readings dom (q.State query) m n is accepted = absurd is
accepted_leads readings dom q.Report m n is accepted = absurd is
accepted_leads readings dom (q.Faults only) m n is accepted = absurd is
accepted_leads readings dom q.Cost m n is accepted = absurd is
accepted_leads readings dom q.Program m n is accepted = absurd is
accepted_leads readings dom q.Listing m n is accepted = absurd is
accepted_leads readings dom (q.Run inputs fuel at) m n is accepted = absurd is
accepted_leads readings dom (q.Replace id text) m n is accepted = edit_leads dom (replace_of readings m.next id text) m n accepted
accepted_leads readings dom (q.Insert place text) m n is accepted = edit_leads dom (insert_of readings m.next place text) m n accepted
accepted_leads readings dom (q.Delete id) m n is accepted = edit_leads dom (delete_of id) m n accepted
accepted_leads readings dom (q.Guard id text) m n is accepted = edit_leads dom (guard_of readings id text) m n accepted
accepted_leads readings dom (q.Declare proc name kind) m n is accepted = edit_leads dom (declare_of proc name kind) m n accepted
accepted_leads readings dom (q.Add before text) m n is accepted = edit_leads dom (add_of readings m.next before text) m n accepted
accepted_leads readings dom (q.Drop proc) m n is accepted = edit_leads dom (drop_of proc) m n accepted
accepted_leads readings dom (q.Why query) m n is accepted = absurd is
accepted_leads readings dom q.Undo m n is accepted = absurd is
accepted_leads readings dom q.Redo m n is accepted = absurd is
accepted_leads readings dom (q.Begin task) m n is accepted = absurd is
accepted_leads readings dom (q.Step ticket k) m n is accepted = absurd is
accepted_leads readings dom (q.Cancel ticket) m n is accepted = absurd is

-- ---- undo and redo, where there is a program on the side

-- The program is this one now, and the one that was present is the nearest of the future; so with the past.
pub record GoesBack (old new : Machine) (program : List Procedure) : Type 0 where
  pub there : new.program ≡ program
  pub engine : new.engine ≡ old.engine
  pub rest : List (List Procedure)
  pub future : new.future ≡ old.program ∷ rest

pub record GoesOn (old new : Machine) (program : List Procedure) : Type 0 where
  pub there : new.program ≡ program
  pub engine : new.engine ≡ old.engine

back_there : {S : Type 0} (dom : Operations S) (m : Machine) (side : List (List Procedure)) (why : Refusal) (p : List Procedure) (ps : List (List Procedure)) → side ≡ p ∷ ps →
    GoesBack m (move_turn side why (back_to dom side m) m).machine p
back_there dom m [] why p ps is = absurd cc
back_there dom m (x ∷ xs) why p ps is = record { there = let e : x ≡ p = cc in e; engine = refl; rest = m.future; future = refl }

on_there : {S : Type 0} (dom : Operations S) (m : Machine) (side : List (List Procedure)) (why : Refusal) (p : List Procedure) (ps : List (List Procedure)) → side ≡ p ∷ ps →
    GoesOn m (move_turn side why (on_to dom side m) m).machine p
on_there dom m [] why p ps is = absurd cc
on_there dom m (x ∷ xs) why p ps is = record { there = let e : x ≡ p = cc in e; engine = refl }

pub undo_back : {S : Type 0} (readings : Readings) (dom : Operations S) (m : Machine) (p : List Procedure) (ps : List (List Procedure)) → m.past ≡ p ∷ ps →
    GoesBack m (request_turn readings dom q.Undo m).machine p
unfolding request_turn
undo_back readings dom m p ps is = back_there dom m m.past refusal.NothingToUndo p ps is

pub redo_on : {S : Type 0} (readings : Readings) (dom : Operations S) (m : Machine) (p : List Procedure) (ps : List (List Procedure)) → m.future ≡ p ∷ ps →
    GoesOn m (request_turn readings dom q.Redo m).machine p
unfolding request_turn
redo_on readings dom m p ps is = on_there dom m m.future refusal.NothingToRedo p ps is

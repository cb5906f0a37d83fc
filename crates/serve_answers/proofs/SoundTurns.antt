-- Replies of states, reports, of checks and of faults, and lists of statements are sound.
use Rattle.std.proofs.Common.{◌≡◌, ◌∙◌, inl, inr, ℕ, ℤ, nat_le, nat_lt, Bool, true, false, List, [], ◌∷◌, length, Option, Some, None, Result, Ok, Err, if◌then◌else◌, refl, sym, subst}
use Rattle.std.specs.Prelude.{Contains}
use Rattle.imp_syntax.specs.Plain.{Procedure}
use Rattle.imp_syntax.specs.declared.edit.Edit.{Edit}
use Rattle.imp_syntax.specs.declared.edit.Location.{Location}
use Rattle.imp_slots.specs.Plain.{Routine}
use Rattle.imp_check.specs.Slots.{routines_of}
use Rattle.concrete_sem.specs.Values.{Variables, Heap}
use Rattle.imp_words.specs.declared.findings.Finding.{Finding}
use Rattle.imp_words.specs.declared.refusal.QueryRefusal as words
use Rattle.imp_words.specs.declared.refusal.QueryRefusal.TheVariants.{LongString}
use Rattle.domain_laws.specs.Operations.{Operations}
use Rattle.batch_meaning.specs.Values.{Value, State, Over}
use Rattle.batch_meaning.specs.Answers.{Answer, Refuses, Answers, Found, In, Misses, answer_in, procedure_of}
use Rattle.batch_meaning.specs.Report.{report}
use Rattle.batch_sound.specs.Theorem.{AreAnswersSound, AreReportsSound}
use Rattle.fault_words.specs.declared.finding.FaultFinding.{FaultFinding}
use Rattle.fault_words.specs.declared.finding.FaultVerdict.{FaultVerdict}
use Rattle.fault_words.specs.Picking.{with_verdict}
use Rattle.fault_verdicts.specs.Report.{faults}
use Rattle.fault_verdicts.specs.Theorem as of_faults
use Rattle.imp_edit.specs.Refusals.{edit_refusal}
use Rattle.imp_edit.specs.declared.error.EditError.{EditError}
use Rattle.cell_rows.proofs.Ways.{targets_some}
use Rattle.cell_graph.specs.Same.{same_name}
use Rattle.cell_graph.proofs.Same.{same_is}
use Rattle.why_slice.specs.Upstream.{upstream}
use Rattle.why_slice.specs.Claims.{Suffices, UpstreamSuffices}
use Rattle.serve_script.specs.Replies.{machine_after}
use Rattle.daig_machine.specs.Machine.{Machine, Ticket, ticket_of}
use Rattle.daig_machine.specs.Turns.{answer_at, missing_asked, or_none, redone, refusal_asked, string_of, undone, upstream_at, upstream_in}
use Rattle.daig_machine.specs.declared.question.Question.{Question}
use Rattle.daig_machine.specs.declared.question.Question.TheVariants as what
use Rattle.request_json.specs.declared.error.ReadError.{ReadError}
use Rattle.request_json.specs.declared.request.Query.{Query}
use Rattle.request_json.specs.declared.request.Request.{Request}
use Rattle.request_json.specs.declared.request.Request.TheVariants as q
use Rattle.request_json.specs.declared.reply.Reply.{Reply}
use Rattle.request_json.specs.declared.reply.Reply.TheVariants as r
use Rattle.request_json.specs.declared.reply.Refusal.{Refusal}
use Rattle.request_json.specs.declared.reply.Refusal.TheVariants as refusal
use Rattle.request_json.specs.Requests.{query_of, request_of}
use Rattle.serve_replies.specs.Runs.{asked_run, found_run, run_reply}
use Rattle.serve_replies.specs.Texts.{program_reply}
use Rattle.serve_answers.specs.Readings.{Readings}
use Rattle.serve_answers.specs.Edits.{replace_of, insert_of, delete_of, guard_of, declare_of, add_of, drop_of}
use Rattle.serve_answers.specs.Turns.{Outcome, state_reply, cancel_by, move_turn, state_by, why_by, begin_by, question_of, step_by, step_of, edit_by, edit_turn, whole_turn}
use Rattle.serve_answers.specs.Lines.{request_turn, read_turn, server}
use Rattle.serve_answers.specs.Fine.{HasFinePrograms, opening}
use Rattle.serve_answers.specs.Sound.{IsAsked, IsReplySound, TurnsAreSound, MomentsAreSound}
use Rattle.serve_answers.proofs.FineTurns.{after_fine}
use Rattle.serve_answers.proofs.Picked.{picked_of, all_asked}
use Rattle.serve_answers.proofs.Sources.{sources_fine}

-- ---- replies that are neither a state nor a report nor a list of statements

abbrev IsOther : Reply → Type 0
IsOther (r.State text) = ⊥
IsOther (r.Report report) = ⊥
IsOther (r.Faults found) = ⊥
IsOther (r.Why stmts) = ⊥
IsOther reply = Unit {0}

ran_other : (program : List Routine) (inputs : List ℤ) (fuel : ℕ) (at : Option Location) → IsOther (run_reply program inputs fuel at)
unfolding run_reply
ran_other program inputs fuel at = tt

found_other : (program : List Routine) (inputs : List ℤ) (fuel : ℕ) (l : Location) (found : Found) → IsOther (found_run program inputs fuel l found)
found_other program inputs fuel l (Misses why) = tt
found_other program inputs fuel l (In p) = ran_other program inputs fuel (Some l)

run_other : (program : List Routine) (inputs : List ℤ) (fuel : ℕ) (at : Option Location) → IsOther (asked_run program inputs fuel at)
run_other program inputs fuel None = ran_other program inputs fuel None
run_other program inputs fuel (Some l) = found_other program inputs fuel l (procedure_of program l)

program_other : (next : ℕ) (program : List Procedure) → IsOther (program_reply next program)
unfolding program_reply
program_other next program = tt

cancel_other : (t : Option Ticket) (m : Machine) → IsOther (cancel_by t m).reply
cancel_other None m = tt
cancel_other (Some t) m = tt

move_other : (side : List (List Procedure)) (otherwise : Refusal) (there m : Machine) → IsOther (move_turn side otherwise there m).reply
move_other [] otherwise there m = tt
move_other (p ∷ ps) otherwise there m = tt

begin_by_other : {S : Type 0} (dom : Operations S) (question : Question) (refusal_is : Option words.QueryRefusal) (m : Machine) → IsOther (begin_by dom question refusal_is m).reply
begin_by_other dom question (Some why) m = tt
begin_by_other dom question None m = tt

either_other : (b : Bool) (one other : Outcome) → IsOther one.reply → IsOther other.reply → IsOther (if b then one else other).reply
either_other true one other first second = first
either_other false one other first second = second

edit_by_other : {S : Type 0} (dom : Operations S) (e : Edit) (error : Option EditError) (m : Machine) → IsOther (edit_by dom e error m).reply
edit_by_other dom e None m = tt
edit_by_other dom e (Some error) m = tt

edit_other : {S : Type 0} (dom : Operations S) (made : Result Edit Refusal) (m : Machine) → IsOther (edit_turn dom made m).reply
edit_other dom (Err why) m = tt
edit_other dom (Ok e) m = edit_by_other dom e (edit_refusal e m.program m.next) m

-- ---- states, reports and lists of statements

module _ {S : Type 0} (dom : Operations S) (covers : S → Heap → List Variables → Type 0) (answers : AreAnswersSound dom covers) (reports : AreReportsSound dom) (faulting : of_faults.AreFaultsSound dom) (suffices : UpstreamSuffices dom) (m : Machine) (line : List ℕ) (h : HasFinePrograms m) where
  abbrev Sound : Reply → Type 0
  Sound reply = IsReplySound dom covers m line reply

  other_sound : (reply : Reply) → IsOther reply → Sound reply
  other_sound reply other = record {
    state = λ text is. absurd (subst (λ (x : Reply). IsOther x) is other);
    report = λ report is. absurd (subst (λ (x : Reply). IsOther x) is other);
    faults = λ found is. absurd (subst (λ (x : Reply). IsOther x) is other);
    why = λ stmts is. absurd (subst (λ (x : Reply). IsOther x) is other);
  }

  told_sound : (l : Location) (string : List ℕ) (v : Value S) → IsAsked m line (what.State l string) → answer_at dom l string m ≡ Answers v → Sound (state_reply dom l v m)
  told_sound l string (State s) asked is = record {
    state = λ text same. record {
      at = l;
      string = string;
      state = s;
      asks = asked;
      answers = is;
      says = cc;
      describes = λ c reached. answers m.engine (routines_of m.program) l string s c h.present.fine.fit is reached;
    };
    report = λ report same. absurd cc;
    faults = λ found same. absurd cc;
    why = λ stmts same. absurd cc;
  }
  told_sound l string (Over n z) asked is = other_sound (state_reply dom l (Over n z) m) tt

  state_sound : (query : Query) (a : Answer S) → IsAsked m line (what.State query.at query.string) → answer_at dom query.at query.string m ≡ a → Sound (state_by dom query a m).reply
  state_sound query (Refuses why) asked is = other_sound (r.Refused (refusal.Query why)) tt
  state_sound query (Answers v) asked is = told_sound query.at query.string v asked is

  either_sound : (b : Bool) (one other : Outcome) → Sound one.reply → Sound other.reply → Sound (if b then one else other).reply
  either_sound true one other first second = first
  either_sound false one other first second = second

  report_sound : Sound (r.Report (report dom m.engine (routines_of m.program)))
  report_sound = record {
    state = λ text is. absurd cc;
    report = λ findings is f within.
        let same : report dom m.engine (routines_of m.program) ≡ findings = cc in
        reports m.engine (routines_of m.program) f h.present.fine.fit (subst (λ (fs : List Finding). Contains fs f) (sym same) within);
    faults = λ found is. absurd cc;
    why = λ stmts is. absurd cc;
  }

  -- what is found of all faults
  abbrev present : List FaultFinding
  present = faults dom m.engine (routines_of m.program)

  present_sound : of_faults.IsReportSound (routines_of m.program) present
  present_sound = faulting m.engine (routines_of m.program) h.present.fine.fit

  faults_sound : (only : Option FaultVerdict) → IsAsked m line (what.Faults only) → Sound (r.Faults (with_verdict only present))
  faults_sound only asked = record {
    state = λ text is. absurd cc;
    report = λ findings is. absurd cc;
    faults = λ found is.
        let same : with_verdict only present ≡ found = cc in record {
          each = λ f within. present_sound.each f (picked_of only present f (subst (λ (fs : List FaultFinding). Contains fs f) (sym same) within));
          whole = λ asks. subst (of_faults.IsReportSound (routines_of m.program)) (all_asked m line only present asked asks ∙ same) present_sound;
        };
    why = λ stmts is. absurd cc;
  }

  -- an answer that is no refusal is that of a procedure
  not_missed : (l : Location) (string : List ℕ) (b : Bool) (why : words.QueryRefusal) (v : Value S) → (if b then Refuses LongString else Refuses why) ≡ Answers v → ⊥
  not_missed l string true why v is = cc
  not_missed l string false why v is = cc

  upstream_suffices : (l : Location) (string : List ℕ) (found : Found) (v : Value S) → procedure_of (routines_of m.program) l ≡ found → answer_at dom l string m ≡ Answers v → Suffices dom m.engine m.program l string (upstream_in dom m l string found)
  upstream_suffices l string (Misses why) v there is =
      absurd (not_missed l string (nat_lt 2 (length string)) why v (subst (λ (f : Found). (if nat_lt 2 (length string) then Refuses LongString else answer_in dom m.engine (routines_of m.program) l string f) ≡ Answers v) there is))
  upstream_suffices l string (In p) v there is =
      let ts = targets_some (routines_of m.program) h.present.fine.fit l p string there in
      subst (λ o. Suffices dom m.engine m.program l string (upstream dom m.engine (routines_of m.program) same_name l string p (or_none o))) (sym ts.1) (
      suffices m.engine same_name m.program l string p ts.0 same_is there ts.1)

  why_sound : (query : Query) (a : Answer S) → IsAsked m line (what.Why query.at query.string) → answer_at dom query.at query.string m ≡ a → Sound (why_by dom query a m).reply
  why_sound query (Refuses why) asked is = other_sound (r.Refused (refusal.Query why)) tt
  why_sound query (Answers v) asked is = record {
    state = λ text same. absurd cc;
    report = λ report same. absurd cc;
    faults = λ found same. absurd cc;
    why = λ stmts same.
        let e : upstream_at dom query.at query.string m ≡ stmts = cc in record {
          at = query.at;
          string = query.string;
          asks = asked;
          suffice = subst (Suffices dom m.engine m.program query.at query.string) e (upstream_suffices query.at query.string (procedure_of (routines_of m.program) query.at) v refl is);
        };
  }

  -- ---- steps

  whole_sound : (question : Question) → IsAsked m line question → Sound (whole_turn dom question m).reply
  whole_sound (what.State l string) asked = state_sound (query_of l string) (answer_at dom l string m) asked refl
  whole_sound (what.Why l string) asked = why_sound (query_of l string) (answer_at dom l string m) asked refl
  whole_sound what.Report asked = report_sound
  whole_sound (what.Faults only) asked = faults_sound only asked

  step_by_sound : (t : Ticket) (n : ℕ) (refusal_is : Option words.QueryRefusal) → IsAsked m line t.question → Sound (step_by dom t n refusal_is m).reply
  step_by_sound t n (Some why) asked = other_sound (r.Refused refusal.Gone) tt
  step_by_sound t n None asked =
      either_sound (nat_lt n (length (missing_asked dom t.question m))) _ _ (other_sound (r.Pending n) tt) (whole_sound t.question asked)

  step_sound : (ticket n : ℕ) (t : Option Ticket) → request_of line ≡ Ok (q.Step ticket n) → ticket_of ticket m.tickets ≡ t → Sound (step_of dom n t m).reply
  step_sound ticket n None reads there = other_sound (r.Refused refusal.NoTicket) tt
  step_sound ticket n (Some t) reads there =
      step_by_sound t n (refusal_asked dom t.question m) (inr (record { ticket = ticket; steps = n; asked = t; reads = reads; open_one = there; asks = refl }))

  request_sound : (readings : Readings) (request : Request) → request_of line ≡ Ok request → Sound (request_turn readings dom request m).reply
  unfolding request_turn
  request_sound readings (q.State query) reads = state_sound query (answer_at dom query.at query.string m) (inl reads) refl
  request_sound readings q.Report reads = report_sound
  request_sound readings (q.Faults only) reads = faults_sound only (inl reads)
  request_sound readings q.Cost reads = other_sound _ tt
  request_sound readings q.Program reads = other_sound _ (program_other m.next m.program)
  request_sound readings q.Listing reads = other_sound _ tt
  request_sound readings (q.Run inputs fuel at) reads = other_sound _ (run_other (routines_of m.program) inputs fuel at)
  request_sound readings (q.Replace id text) reads = other_sound _ (edit_other dom (replace_of readings m.next id text) m)
  request_sound readings (q.Insert place text) reads = other_sound _ (edit_other dom (insert_of readings m.next place text) m)
  request_sound readings (q.Delete id) reads = other_sound _ (edit_other dom (delete_of id) m)
  request_sound readings (q.Guard id text) reads = other_sound _ (edit_other dom (guard_of readings id text) m)
  request_sound readings (q.Declare proc name kind) reads = other_sound _ (edit_other dom (declare_of proc name kind) m)
  request_sound readings (q.Add before text) reads = other_sound _ (edit_other dom (add_of readings m.next before text) m)
  request_sound readings (q.Drop proc) reads = other_sound _ (edit_other dom (drop_of proc) m)
  request_sound readings (q.Why query) reads = why_sound query (answer_at dom query.at query.string m) (inl reads) refl
  request_sound readings q.Undo reads = other_sound _ (move_other m.past refusal.NothingToUndo (undone dom m) m)
  request_sound readings q.Redo reads = other_sound _ (move_other m.future refusal.NothingToRedo (redone dom m) m)
  request_sound readings (q.Begin task) reads =
      let question = question_of task in
      other_sound _ (either_other (nat_lt 2 (length (string_of question))) _ _ tt (either_other (nat_le 16 (length m.tickets)) _ _ tt (begin_by_other dom question (refusal_asked dom question m) m)))
  request_sound readings (q.Step ticket n) reads = step_sound ticket n (ticket_of ticket m.tickets) reads refl
  request_sound readings (q.Cancel ticket) reads = other_sound _ (cancel_other (ticket_of ticket m.tickets) m)

  read_sound : (readings : Readings) (request : Result Request ReadError) → request_of line ≡ request → Sound (read_turn readings dom request m).reply
  read_sound readings (Err error) reads = other_sound _ tt
  read_sound readings (Ok request) reads = request_sound readings request reads

pub turns_sound : {S : Type 0} (dom : Operations S) (covers : S → Heap → List Variables → Type 0) → AreAnswersSound dom covers → AreReportsSound dom → of_faults.AreFaultsSound dom → UpstreamSuffices dom → TurnsAreSound dom covers
turns_sound dom covers answers reports faulting suffices = λ s line h. read_sound dom covers answers reports faulting suffices s.machine line h s.readings (request_of line) refl

pub moments_sound : {S : Type 0} (dom : Operations S) (covers : S → Heap → List Variables → Type 0) → AreAnswersSound dom covers → AreReportsSound dom → of_faults.AreFaultsSound dom → UpstreamSuffices dom → MomentsAreSound dom covers
moments_sound dom covers answers reports faulting suffices = λ readings engine source program is before line.
    turns_sound dom covers answers reports faulting suffices (machine_after (server dom) (opening readings engine program) before) line
    (after_fine dom (opening readings engine program) before (sources_fine readings engine source program is))

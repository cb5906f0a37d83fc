-- At each moment the programs of the machine have no fault, and the kept names are cells of the present one.
use Rattle.std.proofs.Common.{◌≡◌, ◌∙◌, ℕ, nat_le, nat_lt, Bool, true, false, List, [], ◌∷◌, ◌++◌, length, take, Option, Some, None, Result, Ok, Err, if◌then◌else◌, refl, sym, ap, subst}
use Rattle.std.proofs.Math.Seq.{take-length, take-nil}
use Rattle.std.proofs.lemmas.List.{append-nil}
use Rattle.imp_syntax.specs.Plain.{Procedure}
use Rattle.imp_syntax.specs.declared.edit.Edit.{Edit}
use Rattle.imp_syntax.specs.declared.edit.Location.{Location}
use Rattle.imp_slots.specs.Fits.{IsChecked}
use Rattle.imp_check.specs.Slots.{routines_of}
use Rattle.imp_words.specs.declared.refusal.QueryRefusal.{QueryRefusal}
use Rattle.domain_laws.specs.Operations.{Operations}
use Rattle.batch_meaning.specs.Answers.{Answer, Refuses, Answers, Found, In, Misses, procedure_of}
use Rattle.batch_meaning.specs.Batch.{LoopOptions}
use Rattle.cell_names.specs.Paths.{CellName}
use Rattle.cell_rows.specs.Targets.{Target, targets}
use Rattle.fault_verdicts.specs.Statements.{fault_places}
use Rattle.cell_kept_set.specs.Touched as touched
use Rattle.imp_edit.specs.Edited.{edited, next_after}
use Rattle.imp_edit.specs.Refusals.{edit_refusal}
use Rattle.imp_edit.specs.declared.error.EditError.{EditError}
use Rattle.serve_script.specs.Lines.{kept}
use Rattle.serve_script.specs.Replies.{machine_after, next_to}
use Rattle.daig_machine.specs.Claims.{AreKept, KeepsCells}
use Rattle.daig_machine.specs.Machine.{Machine, Ticket, ticket_of}
use Rattle.daig_machine.specs.Turns.{answer_at, back_to, missing_asked, missing_names, missing_at, refusal_asked, string_of, with_program, on_to, or_none, targets_in}
use Rattle.daig_machine.specs.declared.question.Question.{Question}
use Rattle.daig_machine.specs.declared.question.Question.TheVariants as what
use Rattle.daig_machine.proofs.Asking.{places_keep, question_keeps, report_keeps}
use Rattle.daig_machine.proofs.Moving.{move_keeps}
use Rattle.request_json.specs.declared.error.ReadError.{ReadError}
use Rattle.request_json.specs.declared.request.Query.{Query}
use Rattle.request_json.specs.declared.request.Request.{Request}
use Rattle.request_json.specs.declared.request.Request.TheVariants as q
use Rattle.request_json.specs.declared.reply.Refusal.{Refusal}
use Rattle.request_json.specs.declared.reply.Refusal.TheVariants as refusal
use Rattle.request_json.specs.Requests.{request_of}
use Rattle.serve_answers.specs.Readings.{Readings}
use Rattle.serve_answers.specs.Edits.{replace_of, insert_of, delete_of, guard_of, declare_of, add_of, drop_of}
use Rattle.serve_answers.specs.Turns.{Outcome, cancel_by, move_turn, state_by, why_by, begin_by, question_of, step_by, step_of, edit_by, edit_turn}
use Rattle.serve_answers.specs.Lines.{Served, request_turn, read_turn, server}
use Rattle.serve_answers.specs.Fine.{HasFinePrograms, IsProgramOf, opening}
use Rattle.serve_answers.proofs.FineTurns.{lines_fine}
use Rattle.serve_answers.proofs.Sources.{sources_fine}
use Rattle.reuse_laws.proofs.Named.{inputs_named}

-- The programs have no fault, and the kept names are cells of the present one.
pub record HasCells {S : Type 0} (dom : Operations S) (m : Machine) : Type 0 where
  pub fine : HasFinePrograms m
  pub cells : KeepsCells dom m

module _ {S : Type 0} (dom : Operations S) (m : Machine) (has : HasCells dom m) where
  abbrev checked : IsChecked (routines_of m.program)
  checked = has.fine.present.fine.fit

  -- the kept names with these beside them are cells
  abbrev Gains : List CellName → Type 0
  Gains xs = AreKept dom m.engine (routines_of m.program) (m.kept ++ xs)

  no_gain : (n : ℕ) → Gains (take n [])
  no_gain n = subst (AreKept dom m.engine (routines_of m.program)) (sym (ap (λ (xs : List CellName). m.kept ++ xs) (take-nil n) ∙ append-nil m.kept)) has.cells

  gains_targets : (l : Location) (string : List ℕ) (p n : ℕ) (ts : Option (List Target)) → targets (routines_of m.program) p l string ≡ ts → Gains (take n (missing_names dom (or_none ts) m))
  gains_targets l string p n None is = no_gain n
  gains_targets l string p n (Some ts) is = question_keeps dom m.engine (routines_of m.program) checked m.kept has.cells (inputs_named dom) l string p ts is n

  gains_found : (l : Location) (string : List ℕ) (n : ℕ) (found : Found) → Gains (take n (missing_names dom (targets_in m l string found) m))
  gains_found l string n (Misses why) = no_gain n
  gains_found l string n (In p) = gains_targets l string p n (targets (routines_of m.program) p l string) refl

  gains_some : (l : Location) (string : List ℕ) (n : ℕ) → Gains (take n (missing_at dom l string m))
  gains_some l string n = gains_found l string n (procedure_of (routines_of m.program) l)

  -- the first names that any question misses, and all of them
  gains_first : (question : Question) (n : ℕ) → Gains (take n (missing_asked dom question m))
  gains_first (what.State l string) n = gains_some l string n
  gains_first (what.Why l string) n = gains_some l string n
  gains_first what.Report n = report_keeps dom m.engine (routines_of m.program) checked m.kept has.cells (inputs_named dom) n
  gains_first (what.Faults only) n = places_keep dom m.engine (routines_of m.program) checked m.kept has.cells (inputs_named dom) (fault_places (routines_of m.program)) n

  gains_all : (question : Question) → Gains (missing_asked dom question m)
  gains_all question = let xs = missing_asked dom question m in subst Gains (take-length xs) (gains_first question (length xs))

  -- ---- turns

  abbrev Leaves : Outcome → Type 0
  Leaves turn = KeepsCells dom turn.machine

  abbrev LeavesFine : Outcome → Type 0
  LeavesFine turn = HasFinePrograms turn.machine

  either_cells : (b : Bool) (one other : Outcome) → Leaves one → Leaves other → Leaves (if b then one else other)
  either_cells true one other first second = first
  either_cells false one other first second = second

  cancel_cells : (t : Option Ticket) → Leaves (cancel_by t m)
  cancel_cells None = has.cells
  cancel_cells (Some t) = has.cells

  state_cells : (query : Query) (a : Answer S) → Leaves (state_by dom query a m)
  state_cells query (Refuses why) = has.cells
  state_cells query (Answers v) = gains_all (what.State query.at query.string)

  why_cells : (query : Query) (a : Answer S) → Leaves (why_by dom query a m)
  why_cells query (Refuses why) = has.cells
  why_cells query (Answers v) = gains_all (what.Why query.at query.string)

  begin_cells : (question : Question) (why : Option QueryRefusal) → Leaves (begin_by dom question why m)
  begin_cells question (Some why) = has.cells
  begin_cells question None = has.cells

  step_by_cells : (t : Ticket) (n : ℕ) (why : Option QueryRefusal) → Leaves (step_by dom t n why m)
  step_by_cells t n (Some why) = has.cells
  step_by_cells t n None = either_cells (nat_lt n (length (missing_asked dom t.question m))) _ _ (gains_first t.question n) (gains_all t.question)

  step_cells : (n : ℕ) (t : Option Ticket) → Leaves (step_of dom n t m)
  step_cells n None = has.cells
  step_cells n (Some t) = step_by_cells t n (refusal_asked dom t.question m)

  -- another program, which is checked
  moved_cells : (program : List Procedure) (past future : List (List Procedure)) (next : ℕ) → IsChecked (routines_of program) → KeepsCells dom (with_program dom program past future next m)
  moved_cells program past future next fits =
      let edit : touched.Edit = record { engine = m.engine; old = routines_of m.program; new = routines_of program } in
      move_keeps dom edit checked fits m.kept has.cells

  edit_by_cells : (e : Edit) (error : Option EditError) → LeavesFine (edit_by dom e error m) → Leaves (edit_by dom e error m)
  edit_by_cells e None fine = moved_cells (edited e m.program) (take 64 (m.program ∷ m.past)) [] (next_after e m.next) fine.present.fine.fit
  edit_by_cells e (Some error) fine = has.cells

  edit_cells : (made : Result Edit Refusal) → LeavesFine (edit_turn dom made m) → Leaves (edit_turn dom made m)
  edit_cells (Err why) fine = has.cells
  edit_cells (Ok e) fine = edit_by_cells e (edit_refusal e m.program m.next) fine

  back_cells : (side : List (List Procedure)) (otherwise : Refusal) → LeavesFine (move_turn side otherwise (back_to dom side m) m) → Leaves (move_turn side otherwise (back_to dom side m) m)
  back_cells [] otherwise fine = has.cells
  back_cells (p ∷ ps) otherwise fine = moved_cells p ps (m.program ∷ m.future) m.next fine.present.fine.fit

  on_cells : (side : List (List Procedure)) (otherwise : Refusal) → LeavesFine (move_turn side otherwise (on_to dom side m) m) → Leaves (move_turn side otherwise (on_to dom side m) m)
  on_cells [] otherwise fine = has.cells
  on_cells (p ∷ ps) otherwise fine = moved_cells p (m.program ∷ m.past) ps m.next fine.present.fine.fit

  request_cells : (readings : Readings) (request : Request) → LeavesFine (request_turn readings dom request m) → Leaves (request_turn readings dom request m)
  unfolding request_turn
  request_cells readings (q.State query) fine = state_cells query (answer_at dom query.at query.string m)
  request_cells readings q.Report fine = gains_all what.Report
  request_cells readings (q.Faults only) fine = gains_all (what.Faults only)
  request_cells readings q.Cost fine = has.cells
  request_cells readings q.Program fine = has.cells
  request_cells readings q.Listing fine = has.cells
  request_cells readings (q.Run inputs fuel at) fine = has.cells
  request_cells readings (q.Replace id text) fine = edit_cells (replace_of readings m.next id text) fine
  request_cells readings (q.Insert place text) fine = edit_cells (insert_of readings m.next place text) fine
  request_cells readings (q.Delete id) fine = edit_cells (delete_of id) fine
  request_cells readings (q.Guard id text) fine = edit_cells (guard_of readings id text) fine
  request_cells readings (q.Declare proc name kind) fine = edit_cells (declare_of proc name kind) fine
  request_cells readings (q.Add before text) fine = edit_cells (add_of readings m.next before text) fine
  request_cells readings (q.Drop proc) fine = edit_cells (drop_of proc) fine
  request_cells readings (q.Why query) fine = why_cells query (answer_at dom query.at query.string m)
  request_cells readings q.Undo fine = back_cells m.past refusal.NothingToUndo fine
  request_cells readings q.Redo fine = on_cells m.future refusal.NothingToRedo fine
  request_cells readings (q.Begin task) fine =
      let question = question_of task in
      either_cells (nat_lt 2 (length (string_of question))) _ _ has.cells (
      either_cells (nat_le 16 (length m.tickets)) _ _ has.cells (begin_cells question (refusal_asked dom question m)))
  request_cells readings (q.Step ticket n) fine = step_cells n (ticket_of ticket m.tickets)
  request_cells readings (q.Cancel ticket) fine = cancel_cells (ticket_of ticket m.tickets)

  read_cells : (readings : Readings) (read : Result Request ReadError) → LeavesFine (read_turn readings dom read m) → Leaves (read_turn readings dom read m)
  read_cells readings (Err error) fine = has.cells
  read_cells readings (Ok request) fine = request_cells readings request fine

-- ---- many lines

kept_cells : {S : Type 0} (dom : Operations S) (s : Served) (line : Option (List ℕ)) → HasCells dom s.machine → HasCells dom (next_to (server dom) s line).machine
kept_cells dom s None has = has
kept_cells dom s (Some line) has =
    let fine = lines_fine dom s.readings s.machine line has.fine in
    record { fine = fine; cells = read_cells dom s.machine has s.readings (request_of line) fine }

pub after_cells : {S : Type 0} (dom : Operations S) (s : Served) (lines : List (List ℕ)) → HasCells dom s.machine → HasCells dom (machine_after (server dom) s lines).machine
after_cells dom s [] has = has
after_cells dom s (line ∷ lines) has = after_cells dom (next_to (server dom) s (kept line)) lines (kept_cells dom s (kept line) has)

-- at first no name is kept
pub opening_cells : {S : Type 0} (dom : Operations S) (readings : Readings) (engine : LoopOptions) (source : List ℕ) (program : List Procedure) → IsProgramOf readings source program →
    HasCells dom (opening readings engine program).machine
opening_cells dom readings engine source program is = record {
  fine = sources_fine readings engine source program is;
  cells = record {
    cells = record { named = λ x m. absurd cc; closed = λ x y m i. absurd cc };
    once = tt;
  };
}

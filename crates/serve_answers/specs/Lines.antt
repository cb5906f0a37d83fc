-- The machine that answers lines.
use Rattle.std.specs.Prelude.{ℕ, List, Result, Ok, Err}
use Rattle.domain_laws.specs.Operations.{Operations}
use Rattle.serve_script.specs.Replies as of_loop
use Rattle.daig_machine.specs.Machine.{Machine}
use Rattle.request_json.specs.declared.error.ReadError.{ReadError}
use Rattle.request_json.specs.declared.request.Request.{Request}
use Rattle.request_json.specs.declared.request.Request.TheVariants as q
use Rattle.request_json.specs.Requests.{request_of}
use Rattle.request_json.specs.Replies.{reply_text}
use Rattle.serve_replies.specs.Refusals.{line_refusal}
use Rattle.serve_replies.specs.Texts.{long_reply}
use Rattle.serve_answers.specs.Readings.{Readings}
use Rattle.serve_answers.specs.Edits.{replace_of, insert_of, delete_of, guard_of, declare_of, add_of, drop_of}
use Rattle.serve_answers.specs.Turns.{Outcome, refused, cost_turn, program_turn, listing_turn, run_turn, state_turn, report_turn, faults_turn, begin_turn, question_of, step_turn, cancel_turn, edit_turn, undo_turn, redo_turn, why_turn}

module _ {S : Type 0} (readings : Readings) (dom : Operations S) where
  -- What a request is replied, and the machine after it.
  unfoldable pub request_turn : Request → Machine → Outcome
  request_turn (q.State query) m = state_turn dom query m
  request_turn q.Report m = report_turn dom m
  request_turn (q.Faults only) m = faults_turn dom only m
  request_turn q.Cost m = cost_turn m
  request_turn q.Program m = program_turn m
  request_turn q.Listing m = listing_turn m
  request_turn (q.Run inputs fuel at) m = run_turn inputs fuel at m
  request_turn (q.Replace id text) m = edit_turn dom (replace_of readings m.next id text) m
  request_turn (q.Insert place text) m = edit_turn dom (insert_of readings m.next place text) m
  request_turn (q.Delete id) m = edit_turn dom (delete_of id) m
  request_turn (q.Guard id text) m = edit_turn dom (guard_of readings id text) m
  request_turn (q.Declare proc name kind) m = edit_turn dom (declare_of proc name kind) m
  request_turn (q.Add before text) m = edit_turn dom (add_of readings m.next before text) m
  request_turn (q.Drop proc) m = edit_turn dom (drop_of proc) m
  request_turn (q.Why query) m = why_turn dom query m
  request_turn q.Undo m = undo_turn dom m
  request_turn q.Redo m = redo_turn dom m
  request_turn (q.Begin task) m = begin_turn dom (question_of task) m
  request_turn (q.Step ticket n) m = step_turn dom ticket n m
  request_turn (q.Cancel ticket) m = cancel_turn ticket m

  -- a line that is no request is refused
  abbrev pub read_turn : Result Request ReadError → Machine → Outcome
  read_turn (Err error) m = refused (line_refusal error) m
  read_turn (Ok request) m = request_turn request m

  -- What a line is replied, and the machine after it.
  abbrev pub line_turn : List ℕ → Machine → Outcome
  line_turn line m = read_turn (request_of line) m

-- The machine with the readings by which it reads texts.
pub record Served : Type 0 where
  pub readings : Readings
  pub machine : Machine

-- The machine that holds the present program and interprets it from scratch at each question.
abbrev pub server : {S : Type 0} → Operations S → of_loop.LineMachine Served
server dom = record {
  reply = λ s line. reply_text (line_turn s.readings dom line s.machine).reply;
  next = λ s line. record { readings = s.readings; machine = (line_turn s.readings dom line s.machine).machine };
  long = long_reply;
}

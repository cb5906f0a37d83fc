-- Machines that hold the same program are alike; undo and redo restore what was, whatever quiet lines stand in between.
use Rattle.std.proofs.Common.{◌≡◌, ◌∙◌, ℕ, List, [], ◌∷◌, ◌++◌, Option, Some, None, Result, Ok, refl, sym, ap, subst}
use Rattle.std.proofs.lemmas.List.Elements.{All-head, All-tail}
use Rattle.imp_syntax.specs.Plain.{Procedure}
use Rattle.imp_check.specs.Slots.{routines_of}
use Rattle.domain_laws.specs.Operations.{Operations}
use Rattle.batch_meaning.specs.Batch.{LoopOptions}
use Rattle.batch_meaning.specs.Answers.{Answer, Refuses, Answers, Found, In, Misses, answer, procedure_of}
use Rattle.batch_meaning.specs.Report.{report}
use Rattle.fault_words.specs.Picking.{with_verdict}
use Rattle.fault_verdicts.specs.Report.{faults}
use Rattle.cell_rows.specs.Targets.{targets}
use Rattle.cell_graph.specs.Same.{same_name}
use Rattle.why_slice.specs.Upstream.{upstream}
use Rattle.serve_script.specs.Lines.{kept}
use Rattle.serve_script.specs.Replies.{machine_after, next_to, reply_to}
use Rattle.serve_script.proofs.LineLemmas.{after-append}
use Rattle.daig_machine.specs.Machine.{Machine}
use Rattle.daig_machine.specs.Turns.{answer_at, or_none, upstream_in}
use Rattle.request_json.specs.declared.request.Query.{Query}
use Rattle.request_json.specs.declared.request.Request.{Request}
use Rattle.request_json.specs.declared.request.Request.TheVariants as q
use Rattle.request_json.specs.declared.reply.Reply.{Reply}
use Rattle.request_json.specs.declared.reply.Reply.TheVariants as r
use Rattle.request_json.specs.declared.reply.Refusal.TheVariants as refusal
use Rattle.request_json.specs.Replies.{reply_text}
use Rattle.request_json.specs.Requests.{request_of}
use Rattle.serve_replies.specs.Runs.{asked_run}
use Rattle.serve_replies.specs.States.{answer_reply, layout_at}
use Rattle.serve_replies.specs.Texts.{listing}
use Rattle.serve_answers.specs.Readings.{Readings}
use Rattle.serve_answers.specs.Turns.{state_by, why_by}
use Rattle.serve_answers.specs.Lines.{Served, line_turn, read_turn, request_turn, server}
use Rattle.serve_answers.specs.Histories as histories
use Rattle.serve_answers.specs.Histories.{HoldsSame, IsOfProgram, IsQuietKept, AreQuiet, IsKeptAs, Asks, IsAcceptedEdit, AnswerAlike, AreAlike, ReplyAlike, HistoriesDoNotMatter, UndoRestores, RedoRestores}
use Rattle.serve_answers.proofs.Quiet.{KeepsPrograms, Leads, GoesBack, GoesOn, keeps_all, keeps_on, quiet_keeps, accepted_leads, undo_back, redo_on}

-- ---- the reply that the program alone determines

module _ {S : Type 0} (dom : Operations S) where
  abbrev why_reply : List ℕ → Answer S → Reply
  why_reply stmts (Refuses why) = r.Refused (refusal.Query why)
  why_reply stmts (Answers v) = r.Why stmts

  abbrev upstream_from : List Procedure → LoopOptions → Query → Found → List ℕ
  upstream_from program engine query (Misses why) = []
  upstream_from program engine query (In p) = upstream dom engine (routines_of program) same_name query.at query.string p (or_none (targets (routines_of program) p query.at query.string))

  -- what a machine with this program replies; any reply where the request is of another kind
  abbrev reply_from : List Procedure → LoopOptions → Request → Reply
  reply_from program engine (q.State query) = answer_reply dom (layout_at (routines_of program) query.at) (answer dom engine (routines_of program) query.at query.string)
  reply_from program engine (q.Why query) =
      why_reply (upstream_from program engine query (procedure_of (routines_of program) query.at)) (answer dom engine (routines_of program) query.at query.string)
  reply_from program engine q.Report = r.Report (report dom engine (routines_of program))
  reply_from program engine (q.Faults only) = r.Faults (with_verdict only (faults dom engine (routines_of program)))
  reply_from program engine q.Listing = r.Listing (listing program)
  reply_from program engine (q.Run inputs fuel at) = asked_run (routines_of program) inputs fuel at
  reply_from program engine _ = r.Refused refusal.NoRequest

  state_from : (query : Query) (m : Machine) (a : Answer S) → (state_by dom query a m).reply ≡ answer_reply dom (layout_at (routines_of m.program) query.at) a
  state_from query m (Refuses why) = refl
  state_from query m (Answers v) = refl

  upstream_is : (query : Query) (m : Machine) (found : Found) → upstream_in dom m query.at query.string found ≡ upstream_from m.program m.engine query found
  upstream_is query m (Misses why) = refl
  upstream_is query m (In p) = refl

  why_from : (query : Query) (m : Machine) (a : Answer S) →
      (why_by dom query a m).reply ≡ why_reply (upstream_from m.program m.engine query (procedure_of (routines_of m.program) query.at)) a
  why_from query m (Refuses why) = refl
  why_from query m (Answers v) = ap (λ stmts. r.Why stmts) (upstream_is query m (procedure_of (routines_of m.program) query.at))

  is_from : (readings : Readings) (m : Machine) (request : Request) → IsOfProgram request → (request_turn readings dom request m).reply ≡ reply_from m.program m.engine request
  unfolding request_turn
  is_from readings m (q.State query) is = state_from query m (answer_at dom query.at query.string m)
  is_from readings m q.Report is = refl
  is_from readings m (q.Faults only) is = refl
  is_from readings m q.Cost is = absurd is
  is_from readings m q.Program is = absurd is
  is_from readings m q.Listing is = refl
  is_from readings m (q.Run inputs fuel at) is = refl
  is_from readings m (q.Replace id text) is = absurd is
  is_from readings m (q.Insert place text) is = absurd is
  is_from readings m (q.Delete id) is = absurd is
  is_from readings m (q.Guard id text) is = absurd is
  is_from readings m (q.Declare proc name kind) is = absurd is
  is_from readings m (q.Add before text) is = absurd is
  is_from readings m (q.Drop proc) is = absurd is
  is_from readings m (q.Why query) is = why_from query m (answer_at dom query.at query.string m)
  is_from readings m q.Undo is = absurd is
  is_from readings m q.Redo is = absurd is
  is_from readings m (q.Begin task) is = absurd is
  is_from readings m (q.Step ticket n) is = absurd is
  is_from readings m (q.Cancel ticket) is = absurd is

  same_from : (m n : Machine) (request : Request) → HoldsSame m n → reply_from m.program m.engine request ≡ reply_from n.program n.engine request
  same_from m n request same =
      ap (λ program. reply_from program m.engine request) same.program ∙ ap (λ engine. reply_from n.program engine request) same.engine

  same_replies : (s t : Served) → HoldsSame s.machine t.machine → ReplyAlike dom s t
  same_replies s t same line asks =
      let request = asks.reads.request in
      let P : Option (List ℕ) → Type 0 = λ read. reply_to (server dom) s read ≡ reply_to (server dom) t read in
      let turns : (line_turn s.readings dom asks.text s.machine).reply ≡ (line_turn t.readings dom asks.text t.machine).reply =
      subst (λ read. (read_turn s.readings dom read s.machine).reply ≡ (read_turn t.readings dom read t.machine).reply) (sym asks.reads.read) (
      is_from s.readings s.machine request asks.reads.kind ∙ same_from s.machine t.machine request same ∙ sym (is_from t.readings t.machine request asks.reads.kind)) in
      subst P (sym asks.short) (ap reply_text turns)

  same_answers : (m n : Machine) → HoldsSame m n → AnswerAlike dom m n
  same_answers m n same l string =
      ap (λ program. answer dom m.engine (routines_of program) l string) same.program ∙ ap (λ engine. answer dom engine (routines_of n.program) l string) same.engine

  pub same_alike : HistoriesDoNotMatter dom
  same_alike s t same = record { holds = same; answers = same_answers s.machine t.machine same; replies = same_replies s t same }

  -- ---- quiet lines

  abbrev step_by : Served → (line : List ℕ) → Served
  step_by s line = next_to (server dom) s (kept line)

  kept_keeps : (s : Served) (read : Option (List ℕ)) → IsQuietKept read → KeepsPrograms s.machine (next_to (server dom) s read).machine
  kept_keeps s None quiet = keeps_all s.machine
  kept_keeps s (Some text) quiet = quiet_keeps s.readings dom (request_of text) s.machine quiet

  quiet_lines : (s : Served) (lines : List (List ℕ)) → AreQuiet lines → KeepsPrograms s.machine (machine_after (server dom) s lines).machine
  quiet_lines s [] quiet = keeps_all s.machine
  quiet_lines s (line ∷ lines) quiet =
      keeps_on s.machine (step_by s line).machine _ (kept_keeps s (kept line) (All-head (λ (x : List ℕ). IsQuietKept (kept x)) line lines quiet))
      (quiet_lines (step_by s line) lines (All-tail (λ (x : List ℕ). IsQuietKept (kept x)) line lines quiet))

  -- ---- a line that is an accepted edit, an undo, a redo

  edit_line : (s : Served) (line : List ℕ) → IsAcceptedEdit dom s line → Leads s.machine (step_by s line).machine
  edit_line s line edit =
      let text = edit.edits.text in
      let request = edit.edits.reads.request in
      let read = edit.edits.reads.read in
      let replied : (request_turn s.readings dom request s.machine).reply ≡ r.Next edit.next =
      subst (λ x. (read_turn s.readings dom x s.machine).reply ≡ r.Next edit.next) read edit.accepted in
      let leads = accepted_leads s.readings dom request s.machine edit.next edit.edits.reads.kind replied in
      subst (λ x. Leads s.machine (next_to (server dom) s x).machine) (sym edit.edits.short) (
      subst (λ x. Leads s.machine (read_turn s.readings dom x s.machine).machine) (sym read) leads)

  undo_line : (s : Served) (line : List ℕ) (p : List Procedure) (ps : List (List Procedure)) → Asks q.Undo line → s.machine.past ≡ p ∷ ps → GoesBack s.machine (step_by s line).machine p
  undo_line s line p ps asks there =
      let read : request_of asks.text ≡ Ok q.Undo = asks.reads.read ∙ ap (λ x. Ok x) asks.reads.kind in
      subst (λ x. GoesBack s.machine (next_to (server dom) s x).machine p) (sym asks.short) (
      subst (λ x. GoesBack s.machine (read_turn s.readings dom x s.machine).machine p) (sym read) (undo_back s.readings dom s.machine p ps there))

  redo_line : (s : Served) (line : List ℕ) (p : List Procedure) (ps : List (List Procedure)) → Asks q.Redo line → s.machine.future ≡ p ∷ ps → GoesOn s.machine (step_by s line).machine p
  redo_line s line p ps asks there =
      let read : request_of asks.text ≡ Ok q.Redo = asks.reads.read ∙ ap (λ x. Ok x) asks.reads.kind in
      subst (λ x. GoesOn s.machine (next_to (server dom) s x).machine p) (sym asks.short) (
      subst (λ x. GoesOn s.machine (read_turn s.readings dom x s.machine).machine p) (sym read) (redo_on s.readings dom s.machine p ps there))

  -- ---- undo and redo, whatever quiet lines stand in between

  abbrev come : Served → List (List ℕ) → Served
  come s lines = machine_after (server dom) s lines

  -- the line after these
  one_more : (s : Served) (lines : List (List ℕ)) (line : List ℕ) → come s (lines ++ line ∷ []) ≡ step_by (come s lines) line
  one_more s lines line = after-append (server dom) s lines (line ∷ [])

  undo_goes : (s : Served) (edit undo : List ℕ) (between : List (List ℕ)) → IsAcceptedEdit dom s edit → AreQuiet between → Asks q.Undo undo →
      GoesBack (come (step_by s edit) between).machine (step_by (come (step_by s edit) between) undo).machine s.machine.program
  undo_goes s edit undo between accepted quiet asks =
      let leads = edit_line s edit accepted in
      let keeps = quiet_lines (step_by s edit) between quiet in
      undo_line (come (step_by s edit) between) undo s.machine.program leads.rest asks (keeps.past ∙ leads.past)

  pub undo_restores : UndoRestores dom
  undo_restores s edit undo between accepted quiet asks =
      let leads = edit_line s edit accepted in
      let keeps = quiet_lines (step_by s edit) between quiet in
      let goes = undo_goes s edit undo between accepted quiet asks in
      subst (λ t. AreAlike dom t s) (sym (one_more (step_by s edit) between undo)) (
      same_alike (step_by (come (step_by s edit) between) undo) s (record { program = goes.there; engine = goes.engine ∙ keeps.engine ∙ leads.engine }))

  -- the lines after the edit, up to the redo
  redo_split : (s : Served) (undo redo : List ℕ) (between more : List (List ℕ)) →
      come s (between ++ undo ∷ (more ++ redo ∷ [])) ≡ step_by (come (step_by (come s between) undo) more) redo
  redo_split s undo redo between more =
      after-append (server dom) s between (undo ∷ (more ++ redo ∷ [])) ∙ one_more (step_by (come s between) undo) more redo

  pub redo_restores : RedoRestores dom
  redo_restores s edit undo redo between more accepted quiet asks quiet_more asks_redo =
      let edited = step_by s edit in
      let waited = come edited between in
      let undone = step_by waited undo in
      let keeps = quiet_lines edited between quiet in
      let goes = undo_goes s edit undo between accepted quiet asks in
      let later = quiet_lines undone more quiet_more in
      let on = redo_line (come undone more) redo waited.machine.program goes.rest asks_redo (later.future ∙ goes.future) in
      subst (λ t. AreAlike dom t edited) (sym (redo_split edited undo redo between more)) (
      same_alike (step_by (come undone more) redo) edited (record { program = on.there ∙ keeps.program; engine = on.engine ∙ later.engine ∙ goes.engine ∙ keeps.engine }))

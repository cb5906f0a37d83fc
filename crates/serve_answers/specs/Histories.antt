-- What was asked and edited before does not matter to an answer: the present program alone does; and undo leads back to the
-- program before, whatever was asked in between.
use Rattle.std.specs.Prelude.{◌≡◌, ℕ, List, [], ◌∷◌, ◌++◌, Option, Some, None, Result, Ok, Err}
use Rattle.std.specs.List.{All}
use Rattle.imp_syntax.specs.declared.edit.Location.{Location}
use Rattle.domain_laws.specs.Operations.{Operations}
use Rattle.serve_script.specs.Lines.{kept}
use Rattle.serve_script.specs.Replies.{machine_after, reply_to}
use Rattle.daig_machine.specs.Machine.{Machine}
use Rattle.daig_machine.specs.Turns.{answer_at}
use Rattle.request_json.specs.declared.error.ReadError.{ReadError}
use Rattle.request_json.specs.declared.request.Request.{Request}
use Rattle.request_json.specs.declared.request.Request.TheVariants as q
use Rattle.request_json.specs.declared.reply.Reply.TheVariants as r
use Rattle.request_json.specs.Requests.{request_of}
use Rattle.serve_answers.specs.Readings.{Readings}
use Rattle.serve_answers.specs.Lines.{Served, line_turn, server}

-- Two machines hold the same program, with the same statement numbers, and interpret its loops alike.
pub record HoldsSame (m n : Machine) : Type 0 where
  pub program : m.program ≡ n.program
  pub engine : m.engine ≡ n.engine

-- The request asks for what the present program alone determines: a state, what it depends on, the report, that of faults, the
-- listing, a run.
abbrev pub IsOfProgram : Request → Type 0
IsOfProgram (q.State query) = Unit {0}
IsOfProgram (q.Why query) = Unit {0}
IsOfProgram q.Report = Unit {0}
IsOfProgram (q.Faults only) = Unit {0}
IsOfProgram q.Listing = Unit {0}
IsOfProgram (q.Run inputs fuel at) = Unit {0}
IsOfProgram _ = ⊥

-- The request is an edit; and it is no edit, nor an undo or a redo.
abbrev pub IsEdit : Request → Type 0
IsEdit (q.Replace id text) = Unit {0}
IsEdit (q.Insert place text) = Unit {0}
IsEdit (q.Delete id) = Unit {0}
IsEdit (q.Guard id text) = Unit {0}
IsEdit (q.Declare proc name kind) = Unit {0}
IsEdit (q.Add before text) = Unit {0}
IsEdit (q.Drop proc) = Unit {0}
IsEdit _ = ⊥

abbrev pub IsQuiet : Request → Type 0
IsQuiet (q.State query) = Unit {0}
IsQuiet q.Report = Unit {0}
IsQuiet (q.Faults only) = Unit {0}
IsQuiet q.Cost = Unit {0}
IsQuiet q.Program = Unit {0}
IsQuiet q.Listing = Unit {0}
IsQuiet (q.Run inputs fuel at) = Unit {0}
IsQuiet (q.Why query) = Unit {0}
IsQuiet (q.Begin task) = Unit {0}
IsQuiet (q.Step ticket n) = Unit {0}
IsQuiet (q.Cancel ticket) = Unit {0}
IsQuiet _ = ⊥

-- The line is read as a request of a kind.
pub record Reads (is : Request → Type 0) (line : List ℕ) : Type 0 where
  pub request : Request
  pub read : request_of line ≡ Ok request
  pub kind : is request

-- A line of a script is too long, no request, or a quiet one.
abbrev pub IsQuietRead : Result Request ReadError → Type 0
IsQuietRead (Err error) = Unit {0}
IsQuietRead (Ok request) = IsQuiet request

abbrev pub IsQuietKept : Option (List ℕ) → Type 0
IsQuietKept None = Unit {0}
IsQuietKept (Some line) = IsQuietRead (request_of line)

abbrev pub AreQuiet : List (List ℕ) → Type 0
AreQuiet lines = All (λ (line : List ℕ). IsQuietKept (kept line)) lines

-- A line of a script is not too long, and is read as a request of a kind.
pub record IsKeptAs (is : Request → Type 0) (line : List ℕ) : Type 0 where
  pub text : List ℕ
  pub short : kept line ≡ Some text
  pub reads : Reads is text

-- the same with this one request
abbrev pub Asks : Request → (line : List ℕ) → Type 0
Asks request line = IsKeptAs (λ other. other ≡ request) line

module _ {S : Type 0} (dom : Operations S) where
  -- A line of a script is an edit, which is accepted.
  pub record IsAcceptedEdit (s : Served) (line : List ℕ) : Type 0 where
    pub edits : IsKeptAs IsEdit line
    pub next : ℕ
    pub accepted : (line_turn s.readings dom edits.text s.machine).reply ≡ r.Next next

  -- Two machines give the same answers, ..
  abbrev pub AnswerAlike : (m n : Machine) → Type 0
  AnswerAlike m n = (l : Location) (string : List ℕ) → answer_at dom l string m ≡ answer_at dom l string n

  -- .. and write the same reply to each line that asks for what the program alone determines.
  abbrev pub reply_at : Served → (line : List ℕ) → List ℕ
  reply_at s line = reply_to (server dom) s (kept line)

  abbrev pub ReplyAlike : (s t : Served) → Type 0
  ReplyAlike s t = (line : List ℕ) → IsKeptAs IsOfProgram line → reply_at s line ≡ reply_at t line

  -- They hold the same program, give the same answers and the same replies.
  pub record AreAlike (s t : Served) : Type 0 where
    pub holds : HoldsSame s.machine t.machine
    pub answers : AnswerAlike s.machine t.machine
    pub replies : ReplyAlike s t

  -- Whatever led to them, machines that hold the same program are alike.
  abbrev pub HistoriesDoNotMatter : Type 0
  HistoriesDoNotMatter = (s t : Served) → HoldsSame s.machine t.machine → AreAlike s t

  -- After an accepted edit, any quiet lines and an undo, all is as before the edit, ..
  abbrev pub UndoRestores : Type 0
  UndoRestores =
      (s : Served) (edit undo : List ℕ) (between : List (List ℕ)) → IsAcceptedEdit s edit → AreQuiet between → Asks q.Undo undo →
      AreAlike (machine_after (server dom) s (edit ∷ (between ++ undo ∷ []))) s

  -- .. and after any more of them and a redo, as after the edit.
  abbrev pub RedoRestores : Type 0
  RedoRestores =
      (s : Served) (edit undo redo : List ℕ) (between more : List (List ℕ)) →
      IsAcceptedEdit s edit → AreQuiet between → Asks q.Undo undo → AreQuiet more → Asks q.Redo redo →
      AreAlike (machine_after (server dom) s (edit ∷ (between ++ undo ∷ (more ++ redo ∷ [])))) (machine_after (server dom) s (edit ∷ []))

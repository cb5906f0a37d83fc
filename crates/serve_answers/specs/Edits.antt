-- The edit that a request asks for.
use Rattle.std.specs.Prelude.{◌≡◌, ℕ, List, Result, Ok, Err}
use Rattle.imp_syntax.specs.Plain.{Statement, Statements, Procedure}
use Rattle.imp_syntax.specs.declared.edit.Edit.{Edit}
use Rattle.imp_syntax.specs.declared.edit.Edit.TheVariants as edit
use Rattle.imp_syntax.specs.declared.edit.Place.{Place}
use Rattle.imp_syntax.specs.declared.words.VariableKind.{VariableKind}
use Rattle.imp_parse.specs.declared.error.ParseError.{ParseError}
use Rattle.request_json.specs.declared.reply.Refusal.{Refusal}
use Rattle.serve_replies.specs.Refusals.{text_refusal}
use Rattle.serve_answers.specs.declared.edits.TextError.{TextError}
use Rattle.serve_answers.specs.declared.edits.TextError.TheVariants as t
use Rattle.serve_answers.specs.Readings.{Readings}

-- what is made of the tree of a text, or the refusal of a text that is not read
abbrev pub if_read : {A : Type 0} → (made : A → Edit) → Result A ParseError → Result Edit Refusal
if_read made (Err error) = Err (text_refusal error)
if_read made (Ok tree) = Ok (made tree)

-- The new statements of an edit carry the numbers from `next` on.
module _ (readings : Readings) (next : ℕ) where
  abbrev pub replace_of : (id : ℕ) → (text : List ℕ) → Result Edit Refusal
  replace_of id text = if_read (λ (s : Statement × ℕ). edit.Replace id s.0) ((readings.simple next).answer text)

  abbrev pub insert_of : Place → (text : List ℕ) → Result Edit Refusal
  insert_of place text = if_read (λ (b : Statements × ℕ). edit.Insert place b.0) ((readings.statements next).answer text)

  abbrev pub add_of : (before text : List ℕ) → Result Edit Refusal
  add_of before text = if_read (λ (p : Procedure × ℕ). edit.AddProc before p.0) ((readings.procedure next).answer text)

abbrev pub guard_of : Readings → (id : ℕ) → (text : List ℕ) → Result Edit Refusal
guard_of readings id text = if_read (edit.Guard id) (readings.condition.answer text)

-- these have no text that could be refused
abbrev pub delete_of : (id : ℕ) → Result Edit Refusal
delete_of id = Ok (edit.Delete id)

abbrev pub declare_of : (proc name : List ℕ) → VariableKind → Result Edit Refusal
declare_of proc name kind = Ok (edit.Declare proc (record { name = name; kind = kind }))

abbrev pub drop_of : (proc : List ℕ) → Result Edit Refusal
drop_of proc = Ok (edit.DropProc proc)

-- the error is why the text gives no edit, or out of memory
abbrev pub IsTextError : Result Edit Refusal → TextError → Type 0
IsTextError edit (t.Refused why) = edit ≡ Err why
IsTextError edit t.Memory = Unit {0}

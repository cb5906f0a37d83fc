-- The edits of requests: their statements carry the numbers from the next one on, and their literals are small.
use Rattle.std.proofs.Common.{◌≡◌, ℕ, List, Result, Ok, Err, refl, subst}
use Rattle.imp_syntax.specs.Plain.{Statement, Statements, Procedure}
use Rattle.imp_syntax.specs.declared.edit.Edit.{Edit}
use Rattle.imp_syntax.specs.declared.edit.Edit.TheVariants as edit
use Rattle.imp_syntax.specs.declared.edit.Place.{Place}
use Rattle.imp_syntax.specs.declared.words.VariableKind.{VariableKind}
use Rattle.imp_check.specs.Small.{small_statement}
use Rattle.imp_parse.specs.declared.error.ParseError.{ParseError}
use Rattle.imp_edit.specs.Edited.{Continues}
use Rattle.imp_round_trip.proofs.ReadAgain.{procedure_printable, body_printable, simple_printable, condition_printable}
use Rattle.request_json.specs.declared.reply.Refusal.{Refusal}
use Rattle.serve_replies.specs.Readings.{ReadingOf}
use Rattle.serve_answers.specs.Readings.{Readings}
use Rattle.serve_answers.specs.Edits.{if_read, replace_of, insert_of, delete_of, guard_of, declare_of, add_of, drop_of}
use Rattle.serve_answers.proofs.Continued.{replace_continues, insert_continues, add_continues}
use Rattle.serve_answers.proofs.SmallEdits.{IsSmallEdit, one_small}
use Rattle.serve_answers.proofs.SmallTexts.{statement_small, block_small, condition_small}

-- its statements carry the numbers from the next one on, and its literals are small
pub record IsNext (next : ℕ) (e : Edit) : Type 0 where
  pub continues : Continues e next
  pub small : IsSmallEdit e

-- so it is with what a request gives, if that is an edit
abbrev pub Carries : (next : ℕ) → Result Edit Refusal → Type 0
Carries next made = (e : Edit) → made ≡ Ok e → IsNext next e

this_one : (next : ℕ) (e : Edit) → IsNext next e → Carries next (Ok e)
this_one next e is = λ other same. let equal : e ≡ other = cc in subst (IsNext next) equal is

-- an edit that is made of the tree of a text
made_of : {A : Type 0} (is : List ℕ → Result A ParseError → Type 0) (made : A → Edit) (next : ℕ) (text : List ℕ) → ((tree : A) → is text (Ok tree) → IsNext next (made tree)) →
    (answer : Result A ParseError) → is text answer → Carries next (if_read made answer)
made_of is made next text each (Ok tree) exact = this_one next (made tree) (each tree exact)
made_of is made next text each (Err error) exact = λ e same. absurd cc

carried : {A : Type 0} (is : List ℕ → Result A ParseError → Type 0) (r : ReadingOf is) (made : A → Edit) (next : ℕ) (text : List ℕ) → ((tree : A) → is text (Ok tree) → IsNext next (made tree)) →
    Carries next (if_read made (r.answer text))
carried is r made next text each = made_of is made next text each (r.answer text) (r.exact text)

-- an edit that brings no literal
bare : (next : ℕ) (e : Edit) → Continues e next → IsSmallEdit e → Carries next (Ok e)
bare next e continues small = this_one next e (record { continues = continues; small = small })

pub replace_carries : (readings : Readings) (next id : ℕ) (text : List ℕ) → Carries next (replace_of readings next id text)
replace_carries readings next id text =
    carried _ (readings.simple next) (λ (s : Statement × ℕ). edit.Replace id s.0) next text
    (λ s tree. record {
      continues = replace_continues next id text s tree;
      small = record { statements = one_small (small_statement s.0) (statement_small 0 s.0 (simple_printable next text s tree)); guard = refl };
    })

pub insert_carries : (readings : Readings) (next : ℕ) (at : Place) (text : List ℕ) → Carries next (insert_of readings next at text)
insert_carries readings next at text =
    carried _ (readings.statements next) (λ (b : Statements × ℕ). edit.Insert at b.0) next text
    (λ b tree. record {
      continues = insert_continues next at text b tree;
      small = record { statements = block_small 0 b.0 (body_printable next text b tree); guard = refl };
    })

pub add_carries : (readings : Readings) (next : ℕ) (before text : List ℕ) → Carries next (add_of readings next before text)
add_carries readings next before text =
    carried _ (readings.procedure next) (λ (p : Procedure × ℕ). edit.AddProc before p.0) next text
    (λ p tree. record {
      continues = add_continues next before text p tree;
      small = record { statements = block_small 0 p.0.body (procedure_printable next text p tree).body; guard = refl };
    })

pub guard_carries : (readings : Readings) (next id : ℕ) (text : List ℕ) → Carries next (guard_of readings id text)
guard_carries readings next id text =
    carried _ readings.condition (edit.Guard id) next text
    (λ c tree. record { continues = refl; small = record { statements = refl; guard = condition_small c (condition_printable text c tree).words } })

pub delete_carries : (next id : ℕ) → Carries next (delete_of id)
delete_carries next id = bare next (edit.Delete id) refl (record { statements = refl; guard = refl })

pub declare_carries : (next : ℕ) (proc name : List ℕ) (kind : VariableKind) → Carries next (declare_of proc name kind)
declare_carries next proc name kind = bare next (edit.Declare proc (record { name = name; kind = kind })) refl (record { statements = refl; guard = refl })

pub drop_carries : (next : ℕ) (proc : List ℕ) → Carries next (drop_of proc)
drop_carries next proc = bare next (edit.DropProc proc) refl (record { statements = refl; guard = refl })

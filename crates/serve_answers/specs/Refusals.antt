-- The refusal of an edit, as that of a reply.
use Rattle.std.specs.Prelude.{ℕ, zero, suc, List, [], ◌∷◌, Option, Some, None, codes}
use Rattle.imp_syntax.specs.Plain.{Procedure}
use Rattle.imp_syntax.specs.declared.edit.Edit.{Edit}
use Rattle.imp_syntax.specs.declared.edit.Edit.TheVariants as edit
use Rattle.imp_syntax.specs.declared.edit.Place.{Place}
use Rattle.imp_syntax.specs.declared.edit.Place.TheVariants as place
use Rattle.imp_words.specs.declared.refusal.QueryRefusal.TheVariants as why
use Rattle.imp_check.specs.declared.entry.Entry.{Entry}
use Rattle.imp_check.specs.declared.entry.ProcHeader.{ProcHeader}
use Rattle.imp_check.specs.Entries.{entries_of, entry_of}
use Rattle.imp_edit.specs.declared.error.EditError.{EditError}
use Rattle.imp_edit.specs.declared.error.EditError.TheVariants.{NoProcedure, NoStatement, WrongStatement, IsMain, StillCalled, Numbers, Fault, Memory}
use Rattle.request_json.specs.declared.reply.Refusal.{Refusal}
use Rattle.request_json.specs.declared.reply.Refusal.TheVariants as refusal
use Rattle.serve_replies.specs.Refusals.{fault_refusal}

-- the name of a procedure, of the one at a place of the program, and of the one that holds a statement; where there is none,
-- no name
abbrev pub name_of_head : Option ProcHeader → List ℕ
name_of_head None = []
name_of_head (Some h) = h.bare.name

abbrev pub name_at : List Procedure → (place : ℕ) → List ℕ
name_at [] k = []
name_at (p ∷ ps) zero = p.name
name_at (p ∷ ps) (suc k) = name_at ps k

abbrev pub name_around : List Procedure → Option Entry → List ℕ
name_around ps None = []
name_around ps (Some e) = name_at ps e.context.proc

abbrev pub holder_of : List Procedure → (statement : ℕ) → List ℕ
holder_of ps n = name_around ps (entry_of (entries_of ps) n)

-- the procedure that an edit changes; of a new procedure the one that it is put before
abbrev pub procedure_at : List Procedure → Place → List ℕ
procedure_at ps (place.After n) = holder_of ps n
procedure_at ps (place.ThenStart n) = holder_of ps n
procedure_at ps (place.ElseStart n) = holder_of ps n
procedure_at ps (place.BodyStart n) = holder_of ps n
procedure_at ps (place.ProcStart x) = x

abbrev pub procedure_edited : List Procedure → Edit → List ℕ
procedure_edited ps (edit.Replace n s) = holder_of ps n
procedure_edited ps (edit.Insert at more) = procedure_at ps at
procedure_edited ps (edit.Delete n) = holder_of ps n
procedure_edited ps (edit.Guard n c) = holder_of ps n
procedure_edited ps (edit.Declare x d) = x
procedure_edited ps (edit.AddProc x p) = x
procedure_edited ps (edit.DropProc x) = x

-- The refusal of an edit of a program, by its cause; lack of memory is the cause of none.
abbrev pub refusal_of : List Procedure → Edit → EditError → Refusal
refusal_of ps e NoProcedure = refusal.Query why.NoProcedure
refusal_of ps e NoStatement = refusal.Query why.NoStatement
refusal_of ps e WrongStatement = refusal.Query why.WrongStatement
refusal_of ps e IsMain = refusal.StillCalled
refusal_of ps e StillCalled = refusal.StillCalled
refusal_of ps e Numbers = refusal.Limit (record { at = 0; name = codes "Numbers"; proc = procedure_edited ps e })
refusal_of ps e (Fault found) = fault_refusal found
refusal_of ps e Memory = refusal.NoRequest

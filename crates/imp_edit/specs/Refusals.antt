-- Why an edit is refused.
use Rattle.std.specs.Prelude.{◌≡◌, ℕ, ◌+◌, List, [], ◌∷◌, Option, Some, None, Bool, true, false, cond, ◌&&◌, ◌||◌, nat_lt, not, codes}
use Rattle.std.specs.Str.{bytes_eq}
use Rattle.std.specs.Option.{option_map}
use Rattle.imp_syntax.specs.Plain.{Statement, Simple, Break, Call, If, While, Procedure}
use Rattle.imp_syntax.specs.declared.edit.Edit.{Edit}
use Rattle.imp_syntax.specs.declared.edit.Edit.TheVariants as edit
use Rattle.imp_syntax.specs.declared.edit.Place.{Place}
use Rattle.imp_syntax.specs.declared.edit.Place.TheVariants as place
use Rattle.imp_check.specs.Entries.{entries_of, entry_of, sites_in}
use Rattle.imp_check.specs.declared.entry.Entry.{Entry}
use Rattle.imp_check.specs.Faults.{first}
use Rattle.imp_check.specs.Names.{is_named, place_named}
use Rattle.imp_check.specs.Programs.{check_fault}
use Rattle.imp_edit.specs.Edited.{edited, uses}
use Rattle.imp_edit.specs.declared.refusals.Needed.{Needed}
use Rattle.imp_edit.specs.declared.refusals.Needed.TheVariants as needed
use Rattle.imp_edit.specs.declared.error.EditError.{EditError}
use Rattle.imp_edit.specs.declared.error.EditError.TheVariants.{NoProcedure, NoStatement, WrongStatement, IsMain, StillCalled, Numbers, Fault, Memory}

-- what a statement is
abbrev pub is_if : Statement → Bool
is_if (Simple n a) = false
is_if (Break n) = false
is_if (Call n x g es) = false
is_if (If n c t e) = true
is_if (While n c b) = false

abbrev pub is_while : Statement → Bool
is_while (Simple n a) = false
is_while (Break n) = false
is_while (Call n x g es) = false
is_while (If n c t e) = false
is_while (While n c b) = true

-- whether a statement is what an edit needs
abbrev pub fits : Needed → Statement → Bool
fits needed.Any s = true
fits needed.Simple s = not (is_if s || is_while s)
fits needed.If s = is_if s
fits needed.While s = is_while s
fits needed.Conditional s = is_if s || is_while s

-- an edit of the statement of a number
abbrev pub entry_refusal : Needed → Option Entry → Option EditError
entry_refusal w None = Some NoStatement
entry_refusal w (Some e) = cond (fits w e.part) None (Some WrongStatement)

abbrev pub statement_refusal : Needed → ℕ → List Procedure → Option EditError
statement_refusal w n ps = entry_refusal w (entry_of (entries_of ps) n)

-- an edit of a procedure, which has to be there
abbrev pub procedure_refusal : List ℕ → List Procedure → Option EditError
procedure_refusal x ps = cond (is_named ps x) None (Some NoProcedure)

-- a place for statements
abbrev pub place_refusal : Place → List Procedure → Option EditError
place_refusal (place.After n) ps = statement_refusal needed.Any n ps
place_refusal (place.ThenStart n) ps = statement_refusal needed.If n ps
place_refusal (place.ElseStart n) ps = statement_refusal needed.If n ps
place_refusal (place.BodyStart n) ps = statement_refusal needed.While n ps
place_refusal (place.ProcStart x) ps = procedure_refusal x ps

-- main is not dropped, nor a procedure that is called
abbrev pub main_refusal : List ℕ → Option EditError
main_refusal x = cond (bytes_eq x (codes "main")) (Some IsMain) None

abbrev pub called_refusal : (sites : List ℕ) → Option EditError
called_refusal [] = None
called_refusal (n ∷ ns) = Some StillCalled

abbrev pub drop_refusal : List ℕ → List Procedure → Option EditError
drop_refusal x ps =
    first (procedure_refusal x ps)
    (first (main_refusal x)
    (called_refusal (sites_in (entries_of ps) (place_named ps x))))

-- what the edit asks of where it goes
abbrev pub site_refusal : Edit → List Procedure → Option EditError
site_refusal (edit.Replace n s) ps = statement_refusal needed.Simple n ps
site_refusal (edit.Insert at more) ps = place_refusal at ps
site_refusal (edit.Delete n) ps = statement_refusal needed.Any n ps
site_refusal (edit.Guard n c) ps = statement_refusal needed.Conditional n ps
site_refusal (edit.Declare x d) ps = procedure_refusal x ps
site_refusal (edit.AddProc x p) ps = procedure_refusal x ps
site_refusal (edit.DropProc x) ps = drop_refusal x ps

-- whether one of so many new numbers from `next` on would pass 1,000,000
abbrev pub passes : (count next : ℕ) → Bool
passes count next = nat_lt 0 count && nat_lt 1000001 (next + count)

abbrev pub numbers_refusal : (count next : ℕ) → Option EditError
numbers_refusal count next = cond (passes count next) (Some Numbers) None

-- The first refusal of an edit, or none.
abbrev pub edit_refusal : Edit → List Procedure → (next : ℕ) → Option EditError
edit_refusal e ps next =
    first (site_refusal e ps)
    (first (numbers_refusal (uses e) next)
    (option_map Fault (check_fault (edited e ps))))

-- the error is the first refusal, or out of memory
abbrev pub IsRefusal : Option EditError → EditError → Type 0
IsRefusal o NoProcedure = o ≡ Some NoProcedure
IsRefusal o NoStatement = o ≡ Some NoStatement
IsRefusal o WrongStatement = o ≡ Some WrongStatement
IsRefusal o IsMain = o ≡ Some IsMain
IsRefusal o StillCalled = o ≡ Some StillCalled
IsRefusal o Numbers = o ≡ Some Numbers
IsRefusal o (Fault f) = o ≡ Some (Fault f)
IsRefusal o Memory = Unit {0}

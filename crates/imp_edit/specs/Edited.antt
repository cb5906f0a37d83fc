-- What an edit makes of a program.
use Rattle.std.specs.Prelude.{◌≡◌, ℕ, zero, suc, ◌+◌, List, [], ◌∷◌}
use Rattle.imp_syntax.specs.Plain.{Statements, Ends, Starts, Procedure, numbers}
use Rattle.imp_syntax.specs.declared.edit.Edit.{Edit}
use Rattle.imp_syntax.specs.declared.edit.Edit.TheVariants as edit
use Rattle.imp_syntax.specs.declared.edit.Place.{Place}
use Rattle.imp_syntax.specs.declared.edit.Place.TheVariants as place
use Rattle.imp_check.specs.Programs.{block_count}
use Rattle.imp_edit.specs.Changes.{in_program, deleted, exchanged, followed, then_started, else_started, body_started, guarded, at_named, started, declared_in, preceded, dropped}

-- Statements are put at a place.
abbrev pub placed : Place → Statements → List Procedure → List Procedure
placed (place.After n) more ps = in_program n (followed more) ps
placed (place.ThenStart n) more ps = in_program n (then_started more) ps
placed (place.ElseStart n) more ps = in_program n (else_started more) ps
placed (place.BodyStart n) more ps = in_program n (body_started more) ps
placed (place.ProcStart x) more ps = at_named x (started more) ps

-- The program after an edit. Where the statement or the procedure is not there, the program stays.
abbrev pub edited : Edit → List Procedure → List Procedure
edited (edit.Replace n t) ps = in_program n (exchanged t) ps
edited (edit.Insert at more) ps = placed at more ps
edited (edit.Delete n) ps = in_program n deleted ps
edited (edit.Guard n c) ps = in_program n (guarded c) ps
edited (edit.Declare x d) ps = at_named x (declared_in d) ps
edited (edit.AddProc x p) ps = at_named x (preceded p) ps
edited (edit.DropProc x) ps = at_named x dropped ps

-- the statements that an edit brings
abbrev pub brought : Edit → Statements
brought (edit.Replace n t) = Starts t Ends
brought (edit.Insert at more) = more
brought (edit.Delete n) = Ends
brought (edit.Guard n c) = Ends
brought (edit.Declare x d) = Ends
brought (edit.AddProc x p) = p.body
brought (edit.DropProc x) = Ends

-- how many numbers it uses, and the next one after them
abbrev pub uses : Edit → ℕ
uses e = block_count (brought e)

abbrev pub next_after : Edit → ℕ → ℕ
next_after e next = next + uses e

-- so many numbers one after the other
abbrev pub counting : (first count : ℕ) → List ℕ
counting first zero = []
counting first (suc n) = first ∷ counting (suc first) n

-- Its statements carry the numbers from `next` on, in the order of the text.
abbrev pub Continues : Edit → (next : ℕ) → Type 0
Continues e next = numbers (brought e) ≡ counting next (uses e)

-- What an edit at a statement makes of it; other edits leave it.
use Rattle.std.specs.Prelude.{List, [], ◌∷◌}
use Rattle.imp_syntax.specs.Plain.{Statement, Statements, Ends, Starts, Procedure}
use Rattle.imp_syntax.specs.declared.edit.Edit.{Edit}
use Rattle.imp_syntax.specs.declared.edit.Edit.TheVariants as edit
use Rattle.imp_syntax.specs.declared.edit.Place.{Place}
use Rattle.imp_syntax.specs.declared.edit.Place.TheVariants as place
use Rattle.imp_edit.specs.Changes.{deleted, exchanged, followed, then_started, else_started, body_started, guarded, started, declared_in, preceded, dropped}

abbrev pub made_at : Place → (more : Statements) → Statement → Statements
made_at (place.After n) more = followed more
made_at (place.ThenStart n) more = then_started more
made_at (place.ElseStart n) more = else_started more
made_at (place.BodyStart n) more = body_started more
made_at (place.ProcStart x) more = λ s. Starts s Ends

abbrev pub made : Edit → Statement → Statements
made (edit.Replace n t) = exchanged t
made (edit.Insert at more) = made_at at more
made (edit.Delete n) = deleted
made (edit.Guard n c) = guarded c
made (edit.Declare x d) = λ s. Starts s Ends
made (edit.AddProc x p) = λ s. Starts s Ends
made (edit.DropProc x) = λ s. Starts s Ends

-- .. and what an edit at a procedure makes of it
abbrev pub placed_in : Place → (more : Statements) → Procedure → List Procedure
placed_in (place.After n) more = λ p. p ∷ []
placed_in (place.ThenStart n) more = λ p. p ∷ []
placed_in (place.ElseStart n) more = λ p. p ∷ []
placed_in (place.BodyStart n) more = λ p. p ∷ []
placed_in (place.ProcStart x) more = started more

abbrev pub made_of : Edit → Procedure → List Procedure
made_of (edit.Replace n t) = λ p. p ∷ []
made_of (edit.Insert at more) = placed_in at more
made_of (edit.Delete n) = λ p. p ∷ []
made_of (edit.Guard n c) = λ p. p ∷ []
made_of (edit.Declare x d) = declared_in d
made_of (edit.AddProc x q) = preceded q
made_of (edit.DropProc x) = dropped

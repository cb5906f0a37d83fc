-- What edits make of a small program.
use Rattle.std.proofs.Common.{ℕ, ◌≡◌, refl, List, [], ◌∷◌, Some, None}
use Rattle.imp_syntax.specs.Plain.{Condition, Break, If, While, Statements, Ends, Starts, Procedure}
use Rattle.imp_syntax.specs.declared.words.Declaration.{Declaration}
use Rattle.imp_syntax.specs.declared.edit.Edit.TheVariants as edit
use Rattle.imp_syntax.specs.declared.edit.Place.TheVariants as place
use Rattle.imp_edit.specs.declared.error.EditError.TheVariants.{Numbers}
use Rattle.imp_edit.specs.Edited.{edited, next_after}
use Rattle.imp_edit.specs.Refusals.{numbers_refusal}

module _ (c d : Condition) (v w : Declaration) where
  abbrev procedure : List ℕ → List Declaration → Statements → Procedure
  procedure x locals body = record { name = x; parameters = []; outcome = None; locals = locals; body = body }

  -- a procedure of the name 7 with an if and a while
  abbrev before : List Procedure
  before = procedure (7 ∷ []) (v ∷ []) (Starts (If 1 c (Starts (Break 2) Ends) Ends) (Starts (While 3 c (Starts (Break 4) Ends)) Ends)) ∷ []

  replaced : edited (edit.Replace 4 (Break 5)) before ≡ procedure (7 ∷ []) (v ∷ []) (Starts (If 1 c (Starts (Break 2) Ends) Ends) (Starts (While 3 c (Starts (Break 5) Ends)) Ends)) ∷ []
  replaced = refl

  behind : edited (edit.Insert (place.After 2) (Starts (Break 5) Ends)) before ≡ procedure (7 ∷ []) (v ∷ []) (Starts (If 1 c (Starts (Break 2) (Starts (Break 5) Ends)) Ends) (Starts (While 3 c (Starts (Break 4) Ends)) Ends)) ∷ []
  behind = refl

  at_then : edited (edit.Insert (place.ThenStart 1) (Starts (Break 5) Ends)) before ≡ procedure (7 ∷ []) (v ∷ []) (Starts (If 1 c (Starts (Break 5) (Starts (Break 2) Ends)) Ends) (Starts (While 3 c (Starts (Break 4) Ends)) Ends)) ∷ []
  at_then = refl

  at_else : edited (edit.Insert (place.ElseStart 1) (Starts (Break 5) Ends)) before ≡ procedure (7 ∷ []) (v ∷ []) (Starts (If 1 c (Starts (Break 2) Ends) (Starts (Break 5) Ends)) (Starts (While 3 c (Starts (Break 4) Ends)) Ends)) ∷ []
  at_else = refl

  at_body : edited (edit.Insert (place.BodyStart 3) (Starts (Break 5) Ends)) before ≡ procedure (7 ∷ []) (v ∷ []) (Starts (If 1 c (Starts (Break 2) Ends) Ends) (Starts (While 3 c (Starts (Break 5) (Starts (Break 4) Ends))) Ends)) ∷ []
  at_body = refl

  at_procedure : edited (edit.Insert (place.ProcStart (7 ∷ [])) (Starts (Break 5) Ends)) before ≡ procedure (7 ∷ []) (v ∷ []) (Starts (Break 5) (Starts (If 1 c (Starts (Break 2) Ends) Ends) (Starts (While 3 c (Starts (Break 4) Ends)) Ends))) ∷ []
  at_procedure = refl

  deleted : edited (edit.Delete 3) before ≡ procedure (7 ∷ []) (v ∷ []) (Starts (If 1 c (Starts (Break 2) Ends) Ends) Ends) ∷ []
  deleted = refl

  guarded : edited (edit.Guard 3 d) before ≡ procedure (7 ∷ []) (v ∷ []) (Starts (If 1 c (Starts (Break 2) Ends) Ends) (Starts (While 3 d (Starts (Break 4) Ends)) Ends)) ∷ []
  guarded = refl

  declared : edited (edit.Declare (7 ∷ []) w) (procedure (7 ∷ []) (v ∷ []) Ends ∷ []) ≡ procedure (7 ∷ []) (v ∷ w ∷ []) Ends ∷ []
  declared = refl

  added : edited (edit.AddProc (7 ∷ []) (procedure (8 ∷ []) [] Ends)) (procedure (7 ∷ []) [] Ends ∷ []) ≡ procedure (8 ∷ []) [] Ends ∷ procedure (7 ∷ []) [] Ends ∷ []
  added = refl

  dropped : edited (edit.DropProc (8 ∷ [])) (procedure (8 ∷ []) [] Ends ∷ procedure (7 ∷ []) [] Ends ∷ []) ≡ procedure (7 ∷ []) [] Ends ∷ []
  dropped = refl

  -- an empty insert leaves the program and uses no number; an if and its one statement use two
  nothing : edited (edit.Insert (place.After 2) Ends) before ≡ before
  nothing = refl

  none_used : next_after (edit.Insert (place.After 2) Ends) 5 ≡ 5
  none_used = refl

  two_used : next_after (edit.Insert (place.After 2) (Starts (If 5 c (Starts (Break 6) Ends) Ends) Ends)) 5 ≡ 7
  two_used = refl

-- the last number is 1,000,000
last : numbers_refusal 1 1000000 ≡ None
last = refl

past_last : numbers_refusal 1 1000001 ≡ Some Numbers
past_last = refl

none_needed : numbers_refusal 0 1000001 ≡ None
none_needed = refl

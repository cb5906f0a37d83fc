-- The procedures that are entered along a chain.
use Rattle.std.specs.Prelude.{◌≡◌, ℕ, suc, ◌<◌, List, [], length, Option, Some, None}
use Rattle.imp_slots.specs.Plain.{Invoke, Routine}
use Rattle.domain_laws.specs.Operations.{Operations}
use Rattle.batch_meaning.specs.Values.{Value, lift}
use Rattle.batch_meaning.specs.Places.{from, if_some}
use Rattle.batch_interp.specs.Answered.{value_of}
use Rattle.batch_interp.specs.Frames.{earlier}
use Rattle.batch_interp.specs.declared.walks.Entered.{Entered}

-- the procedures down from the one that is entered, and the value before its body
abbrev pub entered_of : {S : Type 0} → List Routine → Entered S → List Routine × Value S
entered_of program e = (earlier program (suc e.frame.place), value_of e.before)

-- no procedure is entered
abbrev pub IsGone : {S : Type 0} → Option (List Routine × Value S) → Type 0
IsGone None = Unit {0}
IsGone (Some x) = x.0 ≡ []

-- A procedure of the program is entered under these call sites, or none is.
abbrev pub IsEntered : {S : Type 0} → List Routine → (z : List ℕ) → Option (Entered S) → Option (List Routine × Value S) → Type 0
IsEntered program z None x = IsGone x
IsEntered program z (Some e) x = (x ≡ Some (entered_of program e)) × (e.frame.place < length program) × (e.frame.sites ≡ z)

-- the procedure of a call in the procedure at a place, from the value before the call
abbrev pub called_from : {S : Type 0} → Operations S → List Routine → (place : ℕ) → Value S → Option (Invoke × ℕ) → Option (List Routine × Value S)
called_from dom program place v call = if_some call (λ k. Some (from (earlier program place) k.1, lift (dom.enter k.0.entering) v))

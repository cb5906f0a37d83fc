-- The two sides of the present program: the programs before it and those after it.
use Rattle.std.specs.Prelude.{◌≡◌, ◌<◌, ℕ, List, ◌∷◌, length, Result}
use Rattle.imp_syntax.specs.Plain.{Procedure}
use Rattle.domain_laws.specs.Operations.{Operations}
use Rattle.call_contexts.specs.Settings.{Setting}
use Rattle.daig_machine.specs.Machine.{Machine}
use Rattle.daig_machine.specs.Turns.{redone, undone}
use Rattle.daig_session.specs.declared.book.Book.{Book}
use Rattle.daig_session.specs.declared.book.Side.{Side}
use Rattle.daig_session.specs.declared.book.Side.TheVariants.{Behind, Ahead}
use Rattle.daig_session.specs.declared.error.UndoError.{UndoError}
use Rattle.daig_session.specs.declared.moving.Moving.{Moving}
use Rattle.daig_session.specs.declared.parts.Parts.{Parts}
use Rattle.daig_session.specs.Books.{IsSetFor, IsTurned}
use Rattle.daig_session.specs.Moves.{IsMovingTo}
use Rattle.daig_session.specs.Sessions.{FromEach}
use Rattle.daig_session.specs.Turns.{Goes}

-- the programs of a side, the nearest first
abbrev pub programs_of : Side → Book → List (List Procedure)
programs_of Behind b = b.history.past
programs_of Ahead b = b.history.future

-- the programs before and after, once the nearest one of a side is the present one
abbrev pub past_after : Side → (old new : Book) → List (List Procedure)
past_after Behind old new = new.history.past
past_after Ahead old new = old.history.now ∷ old.history.past

abbrev pub future_after : Side → (old new : Book) → List (List Procedure)
future_after Behind old new = old.history.now ∷ old.history.future
future_after Ahead old new = new.history.future

-- The nearest program of a side is the present one; the one that was is the nearest of the other side.
abbrev pub IsTurnedTo : Side → (old new : Book) → Type 0
IsTurnedTo side old new = IsTurned old new.history.now (past_after side old new) (future_after side old new) old.next new

-- The same, where this is the setting of the program that is then the present one.
abbrev pub TurnsTo : Side → Setting → (old new : Book) → Type 0
TurnsTo side setting old new = IsSetFor old new.history.now setting → IsTurnedTo side old new

-- The nearest program of a side is the present one, and those beyond it are left on that side.
abbrev pub TakesNearest : Side → (old new : Book) → Type 0
TakesNearest side old new = new.history.now ∷ programs_of side new ≡ programs_of side old

-- there is a program on a side
abbrev pub HasNearest : Side → Book → Type 0
HasNearest side b = 0 < length (programs_of side b)

-- a move to the nearest program of a side
abbrev pub IsMovingAlong : {D S : Type 0} → Side → Parts D S → Moving → Type 0
IsMovingAlong side session m =
    IsMovingTo session.engine.store session.book.setting.engine session.book.history.now (programs_of side session.book) m

-- the programs of a side of a machine, and the machine after a move to the nearest one
abbrev pub side_of : Side → Machine → List (List Procedure)
side_of Behind m = m.past
side_of Ahead m = m.future

abbrev pub gone_to : {S : Type 0} → Side → Operations S → Machine → Machine
gone_to Behind dom m = undone dom m
gone_to Ahead dom m = redone dom m

-- What comes of a move to the nearest program of a side, from each machine that the session stood for.
abbrev pub GoesAlong : {D S : Type 0} → Side → (operations : D → Operations S) → (old new : Parts D S) → Result ℕ UndoError → Type 0
GoesAlong side operations old new result = FromEach operations old new (λ dom m stands. Goes m stands (side_of side m) (gone_to side dom m) result)

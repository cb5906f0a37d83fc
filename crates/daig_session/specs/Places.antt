-- Locations one after another, each under all chains to it: what is missing of them in turn, what is kept then, and the work
-- for them.
use Rattle.std.specs.Prelude.{◌≡◌, ◌+◌, ◌*◌, ℕ, List, [], ◌∷◌, ◌++◌, length, take, Some, Result, Ok, Err}
use Rattle.imp_syntax.specs.declared.edit.Location.{Location}
use Rattle.imp_slots.specs.Plain.{Routine}
use Rattle.imp_check.specs.Slots.{routines_of}
use Rattle.imp_words.specs.declared.refusal.QueryRefusal.{QueryRefusal}
use Rattle.domain_laws.specs.Operations.{Operations}
use Rattle.batch_meaning.specs.Answers.{Answer, Refuses, procedure_of}
use Rattle.cell_names.specs.Paths.{CellName}
use Rattle.daig_demands.specs.Reports.{targets_in}
use Rattle.daig_graph.specs.declared.value.Value.{Value}
use Rattle.daig_query.specs.declared.store.Store.{Store}
use Rattle.daig_query.specs.Answered.{Says}
use Rattle.daig_machine.specs.Machine.{Machine, keeping}
use Rattle.daig_machine.specs.Turns.{answer_at, missing_in_places}
use Rattle.daig_session.specs.declared.book.Book.{Book}
use Rattle.daig_session.specs.declared.error.QueryError.{QueryError}
use Rattle.daig_session.specs.declared.error.QueryError.TheVariants as query
use Rattle.daig_session.specs.declared.parts.Parts.{Parts}
use Rattle.daig_session.specs.Holds.{Holds}
use Rattle.daig_session.specs.Sessions.{FromEach, StandsFor, TicksAtMost, TicksFilling}

-- how many chains there are to locations
abbrev pub chain_count : List Routine → List Location → ℕ
chain_count program [] = 0
chain_count program (l ∷ ls) = length (targets_in program l (procedure_of program l)) + chain_count program ls

-- an answer, or why there is none
abbrev pub Tells : {S : Type 0} → Answer S → Result (Value S) QueryRefusal → Type 0
Tells a (Ok v) = Says a (Some v)
Tells a (Err r) = a ≡ Refuses r

-- A question that is refused takes no steps.
abbrev pub IsUnticked : (before after : ℕ) → QueryError → Type 0
IsUnticked before after (query.Refused r) = after ≡ before
IsUnticked before after query.Memory = Unit {0}

module _ {S : Type 0} (dom : Operations S) (m : Machine) where
  -- the work for locations: a cell that is missing, and two for each chain
  abbrev pub work_on : List Location → ℕ
  work_on ls = length (missing_in_places dom ls m) + 2 * chain_count (routines_of m.program) ls

  -- These names are kept beside the others; all else but the cost is as it was.
  abbrev pub HoldsWith : Store S → Book → List CellName → Type 0
  HoldsWith store book xs = Holds dom store book (keeping (m.kept ++ xs) book.cost m)

  -- All that is missing of these locations is kept, ..
  abbrev pub HoldsAll : Store S → Book → List Location → Type 0
  HoldsAll store book ls = HoldsWith store book (missing_in_places dom ls m)

  -- .. or the first so much of it.
  pub record HoldsPart (store : Store S) (book : Book) (ls : List Location) : Type 0 where
    pub count : ℕ
    pub some : HoldsWith store book (take count (missing_in_places dom ls m))

-- one location, whatever the machine
abbrev pub only : Location → Machine → List Location
only l m = l ∷ []

-- What is done for the locations that each machine has which the session stood for.
module _ {D S : Type 0} (operations : D → Operations S) (old new : Parts D S) where
  -- All that is missing of them is kept, ..
  abbrev pub KeepsAll : (Machine → List Location) → Type 0
  KeepsAll places = FromEach operations old new (λ dom m _. HoldsAll dom m new.engine.store new.book (places m))

  -- .. or the first so much of it.
  abbrev pub KeepsPart : (Machine → List Location) → Type 0
  KeepsPart places = FromEach operations old new (λ dom m _. HoldsPart dom m new.engine.store new.book (places m))

  -- What is known at a location is the answer there under the empty call string.
  abbrev pub TellsAt : Location → Result (Value S) QueryRefusal → Type 0
  TellsAt l known = FromEach operations old new (λ dom m _. Tells (answer_at dom l [] m) known)

  -- The work for them is counted, ..
  abbrev pub TicksForAll : (counted : D → ℕ) → (Machine → List Location) → (before after : ℕ) → Type 0
  TicksForAll counted places before after = FromEach operations old new (λ dom m _. TicksAtMost counted old before after (work_on dom m (places m)))

  -- .. or that for what was filled of it.
  abbrev pub TicksForPart : (counted : D → ℕ) → (Machine → List Location) → (before after : ℕ) → Type 0
  TicksForPart counted places before after =
      (m : Machine) → StandsFor operations old m → TicksFilling counted old new before after (2 * chain_count (routines_of m.program) (places m))

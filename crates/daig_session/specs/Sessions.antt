-- What is said of a session as a whole, by the operations of its domain.
use Rattle.std.specs.Prelude.{◌≡◌, ◌+◌, ℕ, suc}
use Rattle.std.specs.FinMap.{len}
use Rattle.domain_laws.specs.Operations.{Operations}
use Rattle.daig_query.specs.Filled.{cells_added}
use Rattle.daig_query.specs.Swept.{most_held, IsBounded, IsWithin}
use Rattle.daig_machine.specs.Machine.{Machine}
use Rattle.daig_session.specs.declared.parts.Parts.{Parts}
use Rattle.daig_session.specs.Engines.{WorksAtMost}
use Rattle.daig_session.specs.Holds.{Holds, IsReady}

-- Its cells are right for the present program, and all else of it is in order.
abbrev pub IsReadyBy : {D S : Type 0} → (operations : D → Operations S) → Parts D S → Type 0
IsReadyBy operations session = IsReady (operations session.engine.domain) session.engine.store session.book

-- It stands for this machine: it has the machine's program, its neighbours, its tickets and its kept names.
abbrev pub StandsFor : {D S : Type 0} → (operations : D → Operations S) → Parts D S → Machine → Type 0
StandsFor operations session m = Holds (operations session.engine.domain) session.engine.store session.book m

-- What a call comes to, from each machine that the session stood for: it is told by the domain's operations, by the machine,
-- and by the machines that the session stands for after the call.
abbrev pub FromEach : {D S : Type 0} → (operations : D → Operations S) → (old new : Parts D S) → (Operations S → Machine → (stands : Machine → Type 0) → Type 0) → Type 0
FromEach operations old new comes =
    (m : Machine) → StandsFor operations old m → comes (operations old.engine.domain) m (StandsFor operations new)

-- what holds of each machine that the session stands for
abbrev pub OfEachMachine : {D S : Type 0} → (operations : D → Operations S) → Parts D S → (Machine → Type 0) → Type 0
OfEachMachine operations session holds = (m : Machine) → StandsFor operations session m → holds m

-- The number of the next ticket stays.
abbrev pub KeepsNextTicket : {D S : Type 0} → (old new : Parts D S) → Type 0
KeepsNextTicket old new = new.book.tickets.next ≡ old.book.tickets.next

-- The states and operations that are kept are within their bound, by the number of its cells.
abbrev pub IsWithinBound : {D S : Type 0} → Parts D S → Type 0
IsWithinBound session = IsBounded session.engine.spare session.engine.store

-- how many cells a call fills
abbrev pub cells_filled : {D S : Type 0} → (old new : Parts D S) → ℕ
cells_filled old new = cells_added old.engine.store new.engine.store

-- It has as many cells after a call as before it.
abbrev pub HasAsMany : {D S : Type 0} → (old new : Parts D S) → Type 0
HasAsMany old new = len new.engine.store.graph.cells ≡ len old.engine.store.graph.cells

-- So much work is counted at most, each piece as one operation of the session's domain.
abbrev pub TicksAtMost : {D S : Type 0} → (counted : D → ℕ) → Parts D S → (before after work : ℕ) → Type 0
TicksAtMost counted session before after work = WorksAtMost counted session.engine before after work

-- What is counted for a call: an operation for each cell that it fills, one more, and so much beside.
abbrev pub TicksFilling : {D S : Type 0} → (counted : D → ℕ) → (old new : Parts D S) → (before after beside : ℕ) → Type 0
TicksFilling counted old new before after beside = TicksAtMost counted old before after (suc (cells_filled old new + beside))

-- A call leaves the kept cells within their bound where they were.
abbrev pub StaysBounded : {D S : Type 0} → (old new : Parts D S) → Type 0
StaysBounded old new = IsWithinBound old → IsWithinBound new

-- The same with nothing beside.
abbrev pub TicksForFilled : {D S : Type 0} → (counted : D → ℕ) → (old new : Parts D S) → (before after : ℕ) → Type 0
TicksForFilled counted old new before after = TicksAtMost counted old before after (suc (cells_filled old new))

-- After a sweep a call keeps states and operations within their bound.
abbrev pub BoundsSwept : {D S : Type 0} → (old new : Parts D S) → Type 0
BoundsSwept old new = IsWithin (most_held old.engine.spare old.engine.store) old.engine.store → IsWithinBound new

-- What a session keeps beside its engine.
use Rattle.std.specs.Prelude.{◌≡◌, ℕ, ◌<◌, ◌≤◌, List, [], ◌∷◌, map, take, Some, slice_get, slice_set}
use Rattle.std.specs.List.{All}
use Rattle.imp_syntax.specs.Plain.{Procedure, program_numbers}
use Rattle.imp_check.specs.Fine.{IsFine}
use Rattle.imp_check.specs.Slots.{routines_of}
use Rattle.batch_meaning.specs.Batch.{LoopOptions}
use Rattle.imp_table.specs.declared.change.Change.{Change}
use Rattle.call_contexts.specs.Settings.{setting_of, Setting}
use Rattle.cell_names.specs.Paths.{CellName}
use Rattle.imp_flow.specs.Plans.{Plan}
use Rattle.edit_keeps.specs.Apart.{IsEdited, flow_of}
use Rattle.edit_history.specs.After.{changed_program, Leads}
use Rattle.daig_machine.specs.Machine.{Machine}
use Rattle.daig_tickets.specs.Tickets.{anew, tickets, AreOpen}
use Rattle.daig_tickets.specs.declared.tickets.OpenTicket.{OpenTicket}
use Rattle.daig_session.specs.declared.book.Book.{Book}
use Rattle.daig_session.specs.declared.course.Course.{Course}

-- the present program as the layers below see it
abbrev pub flow_in : Book → Plan
flow_in b = flow_of b.setting.engine b.history.now

-- the setting is that of the present program
abbrev pub IsSet : Book → Type 0
IsSet b = b.setting ≡ setting_of b.setting.engine (routines_of b.history.now)

-- the setting of a program, by how its loops are interpreted, ..
abbrev pub IsSettingOf : LoopOptions → List Procedure → Setting → Type 0
IsSettingOf engine program setting = setting ≡ setting_of engine (routines_of program)

-- .. which stays as it is in a book
abbrev pub IsSetFor : Book → List Procedure → Setting → Type 0
IsSetFor b program setting = IsSettingOf b.setting.engine program setting

-- A change leads on from the present program, ..
abbrev pub LeadsFrom : Book → Change → Type 0
LeadsFrom b change = Leads b.history.places b.history.now change

-- .. to this one.
abbrev pub program_after : Book → Change → List Procedure
program_after b change = changed_program b.history.now change

-- the numbers of a program are below the next one
abbrev pub AreBelow : (next : ℕ) → List Procedure → Type 0
AreBelow next program = All (λ (n : ℕ). n < next) (program_numbers program)

-- Each program is made by an edit of the one after it, ..
abbrev pub AreBehind : (next : ℕ) → List Procedure → List (List Procedure) → Type 0
AreBehind next now [] = Unit {0}
AreBehind next now (p ∷ ps) = IsEdited p now × AreBelow next p × AreBehind next p ps

-- .. and each one ahead by an edit of the one before it.
abbrev pub AreAhead : (next : ℕ) → List Procedure → List (List Procedure) → Type 0
AreAhead next now [] = Unit {0}
AreAhead next now (p ∷ ps) = IsEdited now p × AreBelow next p × AreAhead next p ps

-- The setting is that of the present program, which has no fault; the numbers of all programs are below the next one, and
-- none is above 1,000,000; edits lead from each program to the next; and each ticket has a number of its own.
pub record IsInOrder (b : Book) : Type 0 where
  pub set : IsSet b
  pub fine : IsFine b.history.now
  pub some : 0 < b.next
  pub low : b.next ≤ 1000001
  pub below : AreBelow b.next b.history.now
  pub behind : AreBehind b.next b.history.now b.history.past
  pub ahead : AreAhead b.next b.history.now b.history.future
  pub are_open : AreOpen b.tickets

-- what holds of the ticket at a place
abbrev pub OfTicketAt : List (OpenTicket Course) → (place : ℕ) → (OpenTicket Course → Type 0) → Type 0
OfTicketAt tickets place holds = (o : OpenTicket Course) → slice_get tickets place ≡ Some o → holds o

-- The ticket at a place is another one now, made of the one that was there; the others are as they were.
abbrev pub RemakesAt : (place : ℕ) → (OpenTicket Course → OpenTicket Course) → (old new : List (OpenTicket Course)) → Type 0
RemakesAt place made old new = OfTicketAt old place (λ o. new ≡ slice_set old place (made o))

-- a ticket that has come so far
abbrev pub come_to : Course → OpenTicket Course → OpenTicket Course
come_to going o = record o { going = Some going }

-- the machine with these kept names
abbrev pub machine_of : Book → (kept : List CellName) → Machine
machine_of b kept = record {
  program = b.history.now;
  engine = b.setting.engine;
  next = b.next;
  tickets = tickets b.tickets;
  next_ticket = b.tickets.next;
  kept = kept;
  cost = b.cost;
  past = b.history.past;
  future = b.history.future;
}

-- A book at first.
pub record IsFirst (book : Book) (program : List Procedure) (e : LoopOptions) (next : ℕ) : Type 0 where
  pub now : book.history.now ≡ program
  pub past_is : book.history.past ≡ []
  pub future_is : book.history.future ≡ []
  pub set : book.setting ≡ setting_of e (routines_of program)
  pub next_is : book.next ≡ next
  pub none : book.tickets.open_ones.items ≡ []
  pub first : book.tickets.next ≡ 1
  pub are_open : AreOpen book.tickets
  pub cost : book.cost ≡ 0

-- Another program is the present one, with these before it and after it; the tickets begin anew.
pub record IsTurned (old : Book) (program : List Procedure) (past future : List (List Procedure)) (next : ℕ) (new : Book) : Type 0 where
  pub now : new.history.now ≡ program
  pub past_is : new.history.past ≡ past
  pub future_is : new.history.future ≡ future
  pub set : new.setting ≡ setting_of old.setting.engine (routines_of program)
  pub next_is : new.next ≡ next
  pub anew_all : new.tickets.open_ones.items ≡ map anew old.tickets.open_ones.items
  pub next_ticket : new.tickets.next ≡ old.tickets.next
  pub cost : new.cost ≡ old.cost

-- The program that a change makes is the present one; the one that was is the last of 64 before it, and none is after it.
abbrev pub IsTurnedBy : (old : Book) → Change → (next : ℕ) → (new : Book) → Type 0
IsTurnedBy old change next new = IsTurned old (program_after old change) (take 64 (old.history.now ∷ old.history.past)) [] next new

-- The ticket at a place begins anew; all else is as it was.
pub record IsWithout (place : ℕ) (old new : Book) : Type 0 where
  pub history : new.history ≡ old.history
  pub setting : new.setting ≡ old.setting
  pub next_is : new.next ≡ old.next
  pub next_ticket : new.tickets.next ≡ old.tickets.next
  pub cost : new.cost ≡ old.cost
  pub left : (o : OpenTicket Course) → slice_get old.tickets.open_ones.items place ≡ Some o → new.tickets.open_ones.items ≡ slice_set old.tickets.open_ones.items place (anew o)

-- The same except which places the table has.
pub record IsSame (old new : Book) : Type 0 where
  pub now : new.history.now ≡ old.history.now
  pub past_is : new.history.past ≡ old.history.past
  pub future_is : new.history.future ≡ old.history.future
  pub setting : new.setting ≡ old.setting
  pub next_is : new.next ≡ old.next
  pub tickets_are : new.tickets ≡ old.tickets
  pub cost : new.cost ≡ old.cost

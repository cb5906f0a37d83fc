-- The machine that a session is: the present program and what has been done with it. Of what was computed it has the names
-- alone; each answer comes from interpreting the program from scratch.
use Rattle.std.specs.Prelude.{ℕ, List, [], ◌∷◌, Option, Some, None, ◌==◌, if◌then◌else◌}
use Rattle.imp_syntax.specs.Plain.{Procedure}
use Rattle.batch_meaning.specs.Batch.{LoopOptions}
use Rattle.cell_names.specs.Paths.{CellName}
use Rattle.imp_check.specs.Slots.{routines_of}
use Rattle.imp_flow.specs.Plans.{Plan, plan_of}
use Rattle.daig_machine.specs.declared.question.Question.{Question}

-- A question that is answered in steps, under a number.
pub record Ticket : Type 0 where
  pub number : ℕ
  pub question : Question

-- the ticket of a number, and the tickets without it
abbrev pub ticket_of : ℕ → List Ticket → Option Ticket
ticket_of n [] = None
ticket_of n (t ∷ ts) = if t.number == n then Some t else ticket_of n ts

abbrev pub without_ticket : ℕ → List Ticket → List Ticket
without_ticket n [] = []
without_ticket n (t ∷ ts) = if t.number == n then without_ticket n ts else t ∷ without_ticket n ts

-- The present program; how its loops are interpreted; the next number of a statement; the open tickets and the number of
-- the next one; the names that are kept, in the order in which they were filled; how many the last answered query, report,
-- step or `why` filled; the programs before and after it, the nearest first.
pub record Machine : Type 0 where
  pub program : List Procedure
  pub engine : LoopOptions
  pub next : ℕ
  pub tickets : List Ticket
  pub next_ticket : ℕ
  pub kept : List CellName
  pub cost : ℕ
  pub past : List (List Procedure)
  pub future : List (List Procedure)

-- the program as the layers below see it
abbrev pub plan : Machine → Plan
plan m = plan_of (routines_of m.program) m.engine

-- a machine with other kept names and cost, with other tickets, and with another program
abbrev pub keeping : List CellName → (cost : ℕ) → Machine → Machine
keeping kept cost m =
    record { program = m.program; engine = m.engine; next = m.next; tickets = m.tickets; next_ticket = m.next_ticket; kept = kept; cost = cost; past = m.past; future = m.future }

abbrev pub with_tickets : List Ticket → (next_ticket : ℕ) → Machine → Machine
with_tickets tickets next_ticket m =
    record { program = m.program; engine = m.engine; next = m.next; tickets = tickets; next_ticket = next_ticket; kept = m.kept; cost = m.cost; past = m.past; future = m.future }

abbrev pub turned_to : List Procedure → (past future : List (List Procedure)) → (next : ℕ) → (kept : List CellName) → Machine → Machine
turned_to program past future next kept m =
    record { program = program; engine = m.engine; next = next; tickets = m.tickets; next_ticket = m.next_ticket; kept = kept; cost = m.cost; past = past; future = future }

-- a machine at first: nothing is kept, no ticket is open, and no program is before or after it
abbrev pub first_machine : List Procedure → LoopOptions → (next : ℕ) → Machine
first_machine program engine next =
    record { program = program; engine = engine; next = next; tickets = []; next_ticket = 1; kept = []; cost = 0; past = []; future = [] }

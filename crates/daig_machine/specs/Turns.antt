-- What each request makes of the machine.
use Rattle.std.specs.Prelude.{ℕ, suc, Bool, List, [], ◌∷◌, ◌++◌, map, take, filter, length, Option, Some, None}
use Rattle.imp_syntax.specs.Plain.{Procedure}
use Rattle.imp_syntax.specs.declared.edit.Location.{Location}
use Rattle.imp_syntax.specs.declared.edit.Edit.{Edit}
use Rattle.domain_laws.specs.Operations.{Operations}
use Rattle.imp_words.specs.declared.refusal.QueryRefusal.{QueryRefusal}
use Rattle.imp_slots.specs.Plain.{Routine}
use Rattle.batch_meaning.specs.Batch.{LoopOptions}
use Rattle.batch_meaning.specs.Answers.{Answer, Answers, Found, In, Misses, Refuses, answer, procedure_of}
use Rattle.daig_order.specs.InTurn.{missing_in_turn}
use Rattle.daig_order.specs.Order.{member, fill_all}
use Rattle.cell_names.specs.Paths.{CellName}
use Rattle.cell_rows.specs.Cells.{Cell}
use Rattle.cell_rows.specs.Targets.{Target, demanded, targets}
use Rattle.daig_demands.specs.Claims.{names_of, found_by, report_fills}
use Rattle.daig_demands.specs.Reports as of_reports
use Rattle.fault_verdicts.specs.Statements.{fault_places}
use Rattle.imp_check.specs.Slots.{routines_of}
use Rattle.imp_edit.specs.Edited.{edited, next_after}
use Rattle.cell_kept_set.specs.KeptTest.{stays_kept}
use Rattle.cell_graph.specs.Same.{same_name}
use Rattle.why_slice.specs.Upstream.{upstream}
use Rattle.daig_machine.specs.declared.question.Question.{Question}
use Rattle.daig_machine.specs.declared.question.Question.TheVariants as asks
use Rattle.daig_machine.specs.Machine.{Machine, Ticket, keeping, with_tickets, turned_to, without_ticket}

-- the targets of a question; none where the program refuses it
abbrev pub or_none : Option (List Target) → List Target
or_none None = []
or_none (Some ts) = ts

abbrev pub targets_in : Machine → Location → (string : List ℕ) → Found → List Target
targets_in m l string (Misses r) = []
targets_in m l string (In p) = or_none (targets (routines_of m.program) p l string)

abbrev pub targets_of : Machine → Location → (string : List ℕ) → List Target
targets_of m l string = targets_in m l string (procedure_of (routines_of m.program) l)

-- with these names kept beside the others, and so many filled
abbrev pub with_filled : List CellName → Machine → Machine
with_filled xs m = keeping (m.kept ++ xs) (length xs) m

-- with these names kept beside the others
abbrev pub with_names : List CellName → Machine → Machine
with_names xs m = keeping (m.kept ++ xs) m.cost m

-- whether a name is kept
abbrev pub is_kept : Machine → CellName → Bool
is_kept m = member same_name m.kept

-- a ticket more, and a ticket less
abbrev pub with_ticket : Question → Machine → Machine
with_ticket q m = with_tickets (m.tickets ++ record { number = m.next_ticket; question = q } ∷ []) (suc m.next_ticket) m

abbrev pub after_close : ℕ → Machine → Machine
after_close n m = with_tickets (without_ticket n m.tickets) m.next_ticket m

-- the call string of a question; a report has none
abbrev pub string_of : Question → List ℕ
string_of (asks.State l string) = string
string_of (asks.Why l string) = string
string_of asks.Report = []
string_of (asks.Faults only) = []

-- the refusal that an answer is, if it is one
abbrev pub refusal_in : {S : Type 0} → Answer S → Option QueryRefusal
refusal_in (Refuses r) = Some r
refusal_in (Answers v) = None

-- the targets of a location under all chains
abbrev pub place_targets : Machine → Location → List Target
place_targets m l = of_reports.targets_in (routines_of m.program) l (procedure_of (routines_of m.program) l)

module _ {S : Type 0} (dom : Operations S) where
  -- what the present program computes at a name
  abbrev pub cell_value : Machine → CellName → Cell S
  cell_value m = found_by dom m.engine (routines_of m.program) same_name

  -- what is missing for a question, in the order in which it is filled
  abbrev pub missing_names : List Target → Machine → List CellName
  missing_names ts m = fill_all (names_of dom m.engine (routines_of m.program) same_name) (is_kept m) [] (demanded (cell_value m) ts)

  abbrev pub missing_at : Location → (string : List ℕ) → Machine → List CellName
  missing_at l string m = missing_names (targets_of m l string) m

  -- .. and for a report
  abbrev pub missing_for_report : Machine → List CellName
  missing_for_report m = report_fills dom m.engine (routines_of m.program) same_name (is_kept m)

  -- .. for the locations of a list, over all chains to each, one after another
  abbrev pub missing_in_places : List Location → Machine → List CellName
  missing_in_places ls m = missing_in_turn (names_of dom m.engine (routines_of m.program) same_name) (is_kept m) (map (λ l. demanded (cell_value m) (place_targets m l)) ls)

  -- .. and so for a report of faults
  abbrev pub missing_for_faults : Machine → List CellName
  missing_for_faults m = missing_in_places (fault_places (routines_of m.program)) m

  -- the answer of the present program, interpreted from scratch
  abbrev pub answer_at : Location → (string : List ℕ) → Machine → Answer S
  answer_at l string m = answer dom m.engine (routines_of m.program) l string

  -- why a program refuses a question, if it does; it refuses no report
  abbrev pub refusal_by : LoopOptions → List Routine → Question → Option QueryRefusal
  refusal_by engine program (asks.State l string) = refusal_in (answer dom engine program l string)
  refusal_by engine program (asks.Why l string) = refusal_in (answer dom engine program l string)
  refusal_by engine program asks.Report = None
  refusal_by engine program (asks.Faults only) = None

  -- the statements that this answer depends on; none where the program refuses the question
  abbrev pub upstream_in : Machine → Location → (string : List ℕ) → Found → List ℕ
  upstream_in m l string (Misses r) = []
  upstream_in m l string (In p) = upstream dom m.engine (routines_of m.program) same_name l string p (or_none (targets (routines_of m.program) p l string))

  abbrev pub upstream_at : Location → (string : List ℕ) → Machine → List ℕ
  upstream_at l string m = upstream_in m l string (procedure_of (routines_of m.program) l)

  -- the machine after a question that is answered, after a report, and after a report of faults
  abbrev pub after_question : Location → (string : List ℕ) → Machine → Machine
  after_question l string m = with_filled (missing_at l string m) m

  abbrev pub after_report : Machine → Machine
  after_report m = with_filled (missing_for_report m) m

  abbrev pub after_faults : Machine → Machine
  after_faults m = with_filled (missing_for_faults m) m

  -- What is missing for any question, in the order in which it is filled: what the whole request fills; ..
  abbrev pub missing_asked : Question → Machine → List CellName
  missing_asked (asks.State l string) m = missing_at l string m
  missing_asked (asks.Why l string) m = missing_at l string m
  missing_asked asks.Report m = missing_for_report m
  missing_asked (asks.Faults only) m = missing_for_faults m

  -- .. the machine after it; ..
  abbrev pub after_asked : Question → Machine → Machine
  after_asked q m = with_filled (missing_asked q m) m

  -- .. and why the present program refuses it, if it does.
  abbrev pub refusal_asked : Question → Machine → Option QueryRefusal
  refusal_asked q m = refusal_by m.engine (routines_of m.program) q

  -- after a step of a ticket that fills the first n names, and after one that ends it
  abbrev pub after_step : Ticket → (n : ℕ) → Machine → Machine
  after_step t n m = with_filled (take n (missing_asked t.question m)) m

  abbrev pub after_last_step : Ticket → Machine → Machine
  after_last_step t m = after_close t.number (after_asked t.question m)

  -- With another program: of the kept names those are kept that the change leaves.
  abbrev pub with_program : List Procedure → (past future : List (List Procedure)) → (next : ℕ) → Machine → Machine
  with_program program past future next m =
      turned_to program past future next (filter (stays_kept dom (record { engine = m.engine; old = routines_of m.program; new = routines_of program }) same_name (is_kept m)) m.kept) m

  -- after an edit that is accepted
  abbrev pub after_edit : Edit → Machine → Machine
  after_edit e m = with_program (edited e m.program) (take 64 (m.program ∷ m.past)) [] (next_after e m.next) m

  -- back to the program before, and on to the one after it, if there is one
  abbrev pub back_to : List (List Procedure) → Machine → Machine
  back_to [] m = m
  back_to (p ∷ ps) m = with_program p ps (m.program ∷ m.future) m.next m

  abbrev pub on_to : List (List Procedure) → Machine → Machine
  on_to [] m = m
  on_to (p ∷ ps) m = with_program p (m.program ∷ m.past) ps m.next m

  abbrev pub undone : Machine → Machine
  undone m = back_to m.past m

  abbrev pub redone : Machine → Machine
  redone m = on_to m.future m

-- When memory runs out some of these names are filled, the first ones, and nothing else is changed.
pub record IsBetween (xs : List CellName) (old : Machine) (stands : Machine → Type 0) : Type 0 where
  pub count : ℕ
  pub some : stands (with_names (take count xs) old)

-- Questions that are asked, and how far they have come.
use Rattle.std.specs.Prelude.{◌≡◌, ℕ, nat_lt, ◌<◌, ◌≤◌, List, [], ◌∷◌, map, length, slice_get, Option, Some, IfSome, true, false}
use Rattle.imp_syntax.specs.declared.edit.Location.{Location}
use Rattle.imp_syntax.specs.declared.edit.Location.TheVariants.{Before}
use Rattle.imp_words.specs.declared.refusal.QueryRefusal.{QueryRefusal}
use Rattle.imp_slots.specs.Plain.{Routine}
use Rattle.domain_laws.specs.Operations.{Operations}
use Rattle.batch_meaning.specs.Answers.{Answer, Answers, Refuses, In, procedure_of}
use Rattle.batch_meaning.specs.Report.{checked_statements}
use Rattle.batch_meaning.specs.Values as plain
use Rattle.cell_names.specs.Paths.{CellName}
use Rattle.cell_rows.specs.Targets.{Target, demanded, targets}
use Rattle.daig_order.specs.Order.{member}
use Rattle.daig_demands.specs.Reports.{targets_in}
use Rattle.fault_verdicts.specs.Statements.{fault_places}
use Rattle.cell_graph.specs.Same.{same_name}
use Rattle.imp_flow.specs.Plans.{Plan}
use Rattle.imp_flow.specs.Reached.{target_of}
use Rattle.imp_flow.specs.declared.steps.Target.{Target as Reached}
use Rattle.daig_query.specs.declared.store.Store.{Store}
use Rattle.daig_query.specs.Kept.{kept}
use Rattle.daig_query.specs.Right.{found}
use Rattle.daig_query.specs.Walked.{IsGood}
use Rattle.daig_tickets.specs.declared.tickets.OpenTicket.{OpenTicket}
use Rattle.daig_machine.specs.declared.question.Question.{Question}
use Rattle.daig_machine.specs.declared.question.Question.TheVariants as asks
use Rattle.daig_session.specs.declared.course.Course.{Course}
use Rattle.daig_session.specs.declared.course.Course.TheVariants.{Place, Along}
use Rattle.daig_session.specs.declared.course.Going.{Going}
use Rattle.daig_session.specs.declared.course.Kind.{Kind}
use Rattle.daig_session.specs.declared.course.Kind.TheVariants as kind
use Rattle.daig_session.specs.declared.course.Tour.{Tour}
use Rattle.daig_session.specs.declared.error.QueryError.{QueryError}
use Rattle.daig_session.specs.declared.error.QueryError.TheVariants.{Refused, Memory}

-- A question has these targets in a program, one or more, and its call string is not too long.
pub record IsAsked (program : List Routine) (l : Location) (string : List ℕ) (ts : List Target) : Type 0 where
  pub place : ℕ
  pub there : procedure_of program l ≡ In place
  pub are : targets program place l string ≡ Some ts
  pub some : ts ≡ [] → ⊥
  pub short : nat_lt 2 (length string) ≡ false

-- these are the targets of a question, as they are computed
abbrev pub AreAsked : List Routine → Location → (string : List ℕ) → List Reached → Type 0
AreAsked program l string ts = IsAsked program l string (map target_of ts)

-- an answer that is no refusal, and the refusal that an error tells
abbrev pub IsAnswered : {S : Type 0} → Answer S → Type 0
IsAnswered {S} a = (v : plain.Value S) × (a ≡ Answers v)

abbrev pub IsRefused : {S : Type 0} → Answer S → QueryError → Type 0
IsRefused a (Refused r) = a ≡ Refuses r
IsRefused a Memory = Unit {0}

-- what an error tells of a question that the program refuses so, if it does
abbrev pub TellsRefusal : Option QueryRefusal → QueryError → Type 0
TellsRefusal refusal (Refused r) = refusal ≡ Some r
TellsRefusal refusal Memory = Unit {0}

-- the places of a report: before the statements that have checks, or where those evaluate that have fault points
abbrev pub kind_places : Kind → List Routine → List Location
kind_places kind.Checks program = map (λ c. Before c.number) (checked_statements program)
kind_places kind.Faults program = fault_places program

-- A question is for a report of this kind, ..
abbrev pub IsOfKind : Question → Kind → Type 0
IsOfKind (asks.State l string) k = ⊥
IsOfKind (asks.Why l string) k = ⊥
IsOfKind asks.Report kind.Checks = Unit {0}
IsOfKind asks.Report kind.Faults = ⊥
IsOfKind (asks.Faults only) kind.Checks = ⊥
IsOfKind (asks.Faults only) kind.Faults = Unit {0}

-- .. or for one place, of which this holds.
abbrev pub IsAtOne : Question → (Location → (string : List ℕ) → Type 0) → Type 0
IsAtOne (asks.State l string) holds = holds l string
IsAtOne (asks.Why l string) holds = holds l string
IsAtOne asks.Report holds = ⊥
IsAtOne (asks.Faults only) holds = ⊥

module _ {S : Type 0} (dom : Operations S) (plan : Plan) (store : Store S) where
  -- the targets are those of the question, and the walk is good for them
  pub record IsGoing (l : Location) (string : List ℕ) (g : Going) : Type 0 where
    pub asked : IsAsked plan.program l string (map target_of g.targets)
    pub good : IsGood dom plan (map target_of g.targets) store g.walk

  -- Nothing is missing at a location, under any chain: all that is demanded there has cells.
  abbrev pub IsFull : Location → Type 0
  IsFull l = (x : CellName) → member same_name (demanded (found dom plan) (targets_in plan.program l (procedure_of plan.program l))) x ≡ true → kept store x ≡ true

  -- A tour has these places; nothing is missing at the first so many; and how far the next one has come is good.
  pub record IsAlong (places : List Location) (t : Tour) : Type 0 where
    pub are : t.places ≡ places
    pub within : t.full ≤ length places
    pub full : (i : ℕ) (l : Location) → i < t.full → slice_get places i ≡ Some l → IsFull l
    pub next : IfSome t.going (λ g. (l : Location) → slice_get places t.full ≡ Some l → IsGoing l [] g)

  -- they are those of its kind
  abbrev pub IsTour : Tour → Type 0
  IsTour t = IsAlong (kind_places t.kind plan.program) t

  -- How far a ticket has come is good for its question.
  abbrev pub HasComeFar : Question → Course → Type 0
  HasComeFar q (Place g) = IsAtOne q (λ l string. IsGoing l string g)
  HasComeFar q (Along t) = IsOfKind q t.kind × IsTour t

  -- tickets that wait to be stepped
  abbrev pub IsWaiting : OpenTicket Course → Type 0
  IsWaiting o = IfSome o.going (HasComeFar o.question)

  abbrev pub AreWaiting : List (OpenTicket Course) → Type 0
  AreWaiting [] = Unit {0}
  AreWaiting (o ∷ os) = IsWaiting o × AreWaiting os

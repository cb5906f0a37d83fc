-- What is claimed of demands, answers, reports and indices.
use Rattle.std.specs.Prelude.{◌≡◌, ◌↔◌, ◌≤◌, ℕ, Bool, true, false, List, [], ◌∷◌, ◌++◌, fold, length, map, take, Some, None, slice_get, reverse}
use Rattle.imp_syntax.specs.declared.edit.Location.{Location}
use Rattle.imp_syntax.specs.declared.edit.Location.TheVariants.{Before}
use Rattle.imp_slots.specs.Plain.{Routine}
use Rattle.imp_slots.specs.Fits.{IsChecked}
use Rattle.domain_laws.specs.Operations.{Operations}
use Rattle.batch_meaning.specs.Values.{Value, State, Over}
use Rattle.batch_meaning.specs.Batch.{LoopOptions}
use Rattle.batch_meaning.specs.Answers.{In, Answers, procedure_of, answer_in, summed}
use Rattle.domain_laws.specs.Checks.{kind_of}
use Rattle.batch_meaning.specs.Report.{CheckedStatement, verdict_on, finding}
use Rattle.daig_order.specs.Order.{System, member, fill_all}
use Rattle.daig_order.specs.OrderLaws.{IsDistinct, Needed, IsClosed}
use Rattle.daig_order.specs.Asking.{value_of, inputs_of, system_of}
use Rattle.daig_order.specs.InTurn.{missing_in_turn, all_demanded}
use Rattle.daig_order.specs.Machine.{Demand}
use Rattle.cell_names.specs.declared.frame.NameFrame.{NameFrame}
use Rattle.cell_names.specs.declared.frame.Point.TheVariants.{Fix}
use Rattle.cell_names.specs.Paths.{CellName}
use Rattle.cell_rows.specs.Names.{IsSame, name}
use Rattle.cell_rows.specs.Rows.{Row}
use Rattle.cell_rows.specs.Cells.{Cell, wants_first, ends_first, asks_row, operation_row}
use Rattle.cell_rows.specs.Flat.{flat_row}
use Rattle.cell_rows.specs.Targets.{Target, next_demanded, demanded, targets, value_of_target}
use Rattle.cell_rows.specs.Claims.{HasName, rows_of}
use Rattle.daig_demands.specs.Indices.{carries_index}
use Rattle.daig_demands.specs.Stops.{last_state, goes_on, stops_with}
use Rattle.daig_demands.specs.Walks.{Walk, start, asks, goes, found, names_left, values_left}
use Rattle.daig_demands.specs.Reports.{report_demands}

-- The values of the first k demanded names ask for the next.
abbrev pub DemandIsNext : Type 0 → Type 0
DemandIsNext S = (f : CellName → Cell S) (ts : List Target) (k : ℕ) → k ≤ length (demanded f ts) → next_demanded ts (map f (take k (demanded f ts))) ≡ slice_get (demanded f ts) k

-- A walk begins with all demanded names to come, and asks for the first to come.
abbrev pub WalkStarts : Type 0 → Type 0
WalkStarts S = (f : CellName → Cell S) (ts : List Target) → names_left f (start ts) ≡ demanded f ts

abbrev pub WalkAsks : Type 0 → Type 0
WalkAsks S = (f : CellName → Cell S) (k : Walk) → asks k ≡ slice_get (names_left f k) 0

-- With that name's cell it goes on to the rest.
abbrev pub WalkGoes : Type 0 → Type 0
WalkGoes S = (f : CellName → Cell S) (k : Walk) (y : CellName) → asks k ≡ Some y → names_left f k ≡ y ∷ names_left f (goes (f y) k)

-- It begins with the values of all targets to come, and each cell that is the last of a target gives the next.
abbrev pub WalkHasAll : Type 0 → Type 0
WalkHasAll S = (f : CellName → Cell S) (ts : List Target) → values_left f (start ts) ≡ map (value_of_target f) ts

abbrev pub WalkFinds : Type 0 → Type 0
WalkFinds S = (f : CellName → Cell S) (k : Walk) (y : CellName) → asks k ≡ Some y → values_left f k ≡ found (f y) k ++ values_left f (goes (f y) k)

-- The values of the rows by number.
abbrev pub found_by : {S : Type 0} → Operations S → LoopOptions → List Routine → (CellName → CellName → Bool) → CellName → Cell S
found_by dom engine program same = value_of (rows_of dom engine program same)

-- The names with their inputs.
abbrev pub names_of : {S : Type 0} → Operations S → LoopOptions → List Routine → (CellName → CellName → Bool) → System CellName
names_of dom engine program same = system_of (rows_of dom engine program same)

-- What a report fills over a kept set, and the names that it demands.
abbrev pub report_fills : {S : Type 0} → Operations S → LoopOptions → List Routine → (CellName → CellName → Bool) → (CellName → Bool) → List CellName
report_fills dom engine program same kept = missing_in_turn (names_of dom engine program same) kept (report_demands (found_by dom engine program same) program)

abbrev pub report_names : {S : Type 0} → Operations S → LoopOptions → List Routine → (CellName → CellName → Bool) → List CellName
report_names dom engine program same = all_demanded (report_demands (found_by dom engine program same) program)

-- Of a checked program, for any domain.
abbrev pub OfPrograms : {S : Type 0} → Operations S → (LoopOptions → List Routine → (CellName → CellName → Bool) → Type 0) → Type 0
OfPrograms dom claim = (engine : LoopOptions) (program : List Routine) (same : CellName → CellName → Bool) → IsSame same → IsChecked program → claim engine program same

-- The answer at a location is made of the values at its targets.
abbrev pub AnswersAreTargets : {S : Type 0} → Operations S → Type 0
AnswersAreTargets dom =
    OfPrograms dom (λ engine program same. (l : Location) (string : List ℕ) (p : ℕ) (ts : List Target) → targets program p l string ≡ Some ts →
    answer_in dom engine program l string (In p) ≡ summed dom engine (map (value_of_target (found_by dom engine program same)) ts))

-- Where all of these are states, it is their join from left to right, each shed.
abbrev pub AnswersAreJoined : {S : Type 0} → Operations S → Type 0
AnswersAreJoined {S} dom = (engine : LoopOptions) (s : S) (ss : List S) → summed dom engine (State s ∷ map (λ s. State s) ss) ≡ Answers (State (fold dom.join (dom.shed s) (map dom.shed ss)))

-- Else it is the first Over.
abbrev pub FirstOverAnswers : {S : Type 0} → Operations S → Type 0
FirstOverAnswers {S} dom = (engine : LoopOptions) (ss : List S) (n : ℕ) (z : List ℕ) (vs : List (Value S)) → summed dom engine (map (λ s. State s) ss ++ Over n z ∷ vs) ≡ Answers (Over n z)

-- For a name with the row r: the values of its first k inputs ask for the next, and those of all give its own.
pub record Answered {S : Type 0} (dom : Operations S) (engine : LoopOptions) (program : List Routine) (same : CellName → CellName → Bool) (x : CellName) (r : Row) : Type 0 where
  pub next : (k : ℕ) → k ≤ length (inputs_of (rows_of dom engine program same) x) →
      asks_row dom engine r (map (found_by dom engine program same) (take k (inputs_of (rows_of dom engine program same) x))) ≡ slice_get (inputs_of (rows_of dom engine program same) x) k
  pub value : found_by dom engine program same x ≡ operation_row dom engine r (map (found_by dom engine program same) (inputs_of (rows_of dom engine program same) x))

abbrev pub RowsAnswer : {S : Type 0} → Operations S → Type 0
RowsAnswer dom = OfPrograms dom (λ engine program same. (x : CellName) (r : Row) → flat_row engine (reverse program) x.path x.point ≡ Some r → Answered dom engine program same x r)

-- What targets demand is a demand that the machine runs for.
abbrev pub MachineRuns : {S : Type 0} → Operations S → Type 0
MachineRuns {S} dom =
    OfPrograms dom (λ engine program same. (ts : List Target) →
    (d : Demand CellName (Cell S)) × (d.system ≡ names_of dom engine program same) × (d.value ≡ found_by dom engine program same) × (d.names ≡ demanded (found_by dom engine program same) ts))

-- The names that a location's targets demand are names of the program, ..
abbrev pub DemandedAreNames : {S : Type 0} → Operations S → Type 0
DemandedAreNames dom =
    OfPrograms dom (λ engine program same. (l : Location) (string : List ℕ) (p : ℕ) (ts : List Target) (x : CellName) → targets program p l string ≡ Some ts →
    member same (demanded (found_by dom engine program same) ts) x ≡ true → HasName engine program x)

-- .. and so are all that these need.
abbrev pub NeededAreNames : {S : Type 0} → Operations S → Type 0
NeededAreNames dom =
    OfPrograms dom (λ engine program same. (l : Location) (string : List ℕ) (p : ℕ) (ts : List Target) (x : CellName) → targets program p l string ≡ Some ts →
    Needed (names_of dom engine program same) (demanded (found_by dom engine program same) ts) x → HasName engine program x)

-- A report's demands in turn fill what one demand for all their names fills, in the same order, ..
abbrev pub ReportIsOneDemand : {S : Type 0} → Operations S → Type 0
ReportIsOneDemand dom =
    OfPrograms dom (λ engine program same. (kept : CellName → Bool) → report_fills dom engine program same kept ≡ fill_all (names_of dom engine program same) kept [] (report_names dom engine program same))

-- .. each name once, ..
abbrev pub ReportFillsOnce : {S : Type 0} → Operations S → Type 0
ReportFillsOnce dom =
    OfPrograms dom (λ engine program same. (kept : CellName → Bool) → IsClosed (names_of dom engine program same) kept → IsDistinct same (report_fills dom engine program same kept))

-- .. and exactly those that some of them needs and that were not kept.
abbrev pub ReportFillsUnion : {S : Type 0} → Operations S → Type 0
ReportFillsUnion dom =
    OfPrograms dom (λ engine program same. (kept : CellName → Bool) (x : CellName) → IsClosed (names_of dom engine program same) kept →
    (member same (report_fills dom engine program same kept) x ≡ true) ↔ (Needed (names_of dom engine program same) (report_names dom engine program same) x × (kept x ≡ false)))

-- The verdict on a checked statement is made of the values at its targets.
abbrev pub VerdictsAreRead : {S : Type 0} → Operations S → Type 0
VerdictsAreRead dom =
    OfPrograms dom (λ engine program same. (c : CheckedStatement) (p : ℕ) (ts : List Target) → procedure_of program (Before c.number) ≡ In p → targets program p (Before c.number) [] ≡ Some ts →
    finding dom engine program c ≡ record { id = c.number; check = kind_of c.check; verdict = verdict_on dom engine c.effect (summed dom engine (map (value_of_target (found_by dom engine program same)) ts)) })

-- The cell of a point that carries no index has the index 0, ..
abbrev pub IndexIsZero : {S : Type 0} → Operations S → Type 0
IndexIsZero dom = OfPrograms dom (λ engine program same. (x : CellName) → carries_index x.point ≡ false → (found_by dom engine program same x).index ≡ 0)

-- .. and so has each input of a fixed point.
abbrev pub IteratesHaveNone : {S : Type 0} → Operations S → Type 0
IteratesHaveNone dom =
    OfPrograms dom (λ engine program same. (w : List NameFrame) (n : ℕ) (y : CellName) → member same (inputs_of (rows_of dom engine program same) (name w (Fix n))) y ≡ true →
    (found_by dom engine program same y).index ≡ 0)

-- Such cells are the same exactly where their values are.
abbrev pub CellsCompareStates : Type 0 → Type 0
CellsCompareStates S = (a b : Cell S) → a.index ≡ 0 → b.index ≡ 0 → (a ≡ b) ↔ (a.value ≡ b.value)

-- Where the iterates so far want another, that one wants the next by itself and the one before it, ..
abbrev pub LastTwoGoOn : {S : Type 0} → Operations S → Type 0
LastTwoGoOn {S} dom =
    (engine : LoopOptions) (vs : List (Cell S)) (v : Cell S) → wants_first dom engine vs ≡ true → wants_first dom engine (vs ++ v ∷ []) ≡ goes_on dom engine.budget (length vs) (last_state None vs) v.value

-- .. and if it wants none, the fixed point is what these two say.
abbrev pub LastTwoStop : {S : Type 0} → Operations S → Type 0
LastTwoStop {S} dom =
    (engine : LoopOptions) (over : Value S) (vs : List (Cell S)) (v : Cell S) → wants_first dom engine vs ≡ true → wants_first dom engine (vs ++ v ∷ []) ≡ false →
    ends_first dom engine over (vs ++ v ∷ []) ≡ stops_with dom over (length vs) (last_state None vs) v.value

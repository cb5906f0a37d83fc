-- What is claimed of rows, of the values that are found by them, and of answers that are read from these.
use Rattle.std.specs.Prelude.{◌≡◌, ℕ, List, [], map, reverse, Some, Bool, true}
use Rattle.imp_syntax.specs.declared.edit.Location.{Location}
use Rattle.imp_slots.specs.Plain.{Routine}
use Rattle.imp_slots.specs.Fits.{IsChecked}
use Rattle.domain_laws.specs.Operations.{Operations}
use Rattle.batch_meaning.specs.Batch.{LoopOptions}
use Rattle.batch_meaning.specs.Answers.{In, procedure_of, answer_in, summed}
use Rattle.daig_order.specs.Order.{member}
use Rattle.daig_order.specs.Asking.{Rows, AreRows, gather, value_of, inputs_of}
use Rattle.cell_names.specs.Paths.{CellName}
use Rattle.cell_rows.specs.Names.{Mark, bare, mark_of, IsSame}
use Rattle.cell_rows.specs.Rows.{Row, row, op_of}
use Rattle.cell_rows.specs.Cells.{Cell, value_of_name}
use Rattle.cell_rows.specs.Flat.{flat_row}
use Rattle.cell_rows.specs.TotalTable.{total_table}
use Rattle.cell_rows.specs.Targets.{Target, next_demanded, most_demanded, read_all, targets}

-- The program has the name: its path follows calls and loops from main, in rounds within the budget, and its point
-- is one there.
abbrev pub HasName : LoopOptions → List Routine → CellName → Type 0
HasName engine program x = (m : Mark (Unit {0})) × (mark_of engine bare (reverse program) x ≡ Some m)

-- A name's row along its path is the one that is looked up by a statement number alone.
abbrev pub RowsAreByNumber : Type 0
RowsAreByNumber =
    (engine : LoopOptions) (program : List Routine) (x : CellName) (r : Row) → IsChecked program →
    row engine bare (reverse program) x ≡ Some r → flat_row engine (reverse program) x.path x.point ≡ Some r

-- The name has a row by number.
abbrev pub HasRow : LoopOptions → List Routine → CellName → Type 0
HasRow engine program x = (r : Row) × (flat_row engine (reverse program) x.path x.point ≡ Some r)

-- Each name of the program has one.
abbrev pub NamesHaveRows : Type 0
NamesHaveRows = (engine : LoopOptions) (program : List Routine) (x : CellName) → IsChecked program → HasName engine program x → HasRow engine program x

-- the rows by number, with the values of a domain
abbrev pub rows_of : {S : Type 0} → Operations S → LoopOptions → List Routine → (CellName → CellName → Bool) → Rows CellName (Cell S)
rows_of dom engine program same = total_table dom engine (reverse program) same

-- For each name, whether the program has it or not, inputs rank lower, and the asking for them ends.
abbrev pub RanksFall : {S : Type 0} → Operations S → Type 0
RanksFall {S} dom = (engine : LoopOptions) (program : List Routine) (same : CellName → CellName → Bool) → IsSame same → IsChecked program → AreRows (rows_of dom engine program same)

-- At the names that the program has, what is found by the rows is what batch interpretation gives there.
abbrev pub ValuesAreBatch : {S : Type 0} → Operations S → Type 0
ValuesAreBatch {S} dom =
    (engine : LoopOptions) (program : List Routine) (same : CellName → CellName → Bool) (x : CellName) → IsSame same → IsChecked program → HasName engine program x →
    value_of (rows_of dom engine program same) x ≡ value_of_name dom engine (reverse program) x

-- The inputs of a name that the program has are names that it has.
abbrev pub InputsAreNames : {S : Type 0} → Operations S → Type 0
InputsAreNames {S} dom =
    (engine : LoopOptions) (program : List Routine) (same : CellName → CellName → Bool) (x y : CellName) → IsSame same → IsChecked program → HasName engine program x →
    member same (inputs_of (rows_of dom engine program same) x) y ≡ true → HasName engine program y

-- Both programs have the name, with the same operation and the same inputs.
pub record IsUntouched {S : Type 0} (dom : Operations S) (engine : LoopOptions) (old new : List Routine) (same : CellName → CellName → Bool) (x : CellName) : Type 0 where
  pub old_row : Row
  pub new_row : Row
  pub in_old : HasName engine old x
  pub in_new : HasName engine new x
  pub old_is : flat_row engine (reverse old) x.path x.point ≡ Some old_row
  pub new_is : flat_row engine (reverse new) x.path x.point ≡ Some new_row
  pub operation : op_of old_row ≡ op_of new_row
  pub inputs : inputs_of (rows_of dom engine old same) x ≡ inputs_of (rows_of dom engine new same) x

-- A set of names that is closed under inputs and untouched has the same values in both programs.
abbrev pub KeptValuesAreRight : {S : Type 0} → Operations S → Type 0
KeptValuesAreRight {S} dom =
    (engine : LoopOptions) (old new : List Routine) (same : CellName → CellName → Bool) (kept : CellName → Bool) (x : CellName) →
    IsSame same → IsChecked old → IsChecked new →
    ((y : CellName) → kept y ≡ true → IsUntouched dom engine old new same y) →
    ((y z : CellName) → kept y ≡ true → member same (inputs_of (rows_of dom engine old same) y) z ≡ true → kept z ≡ true) →
    kept x ≡ true → value_of_name dom engine (reverse old) x ≡ value_of_name dom engine (reverse new) x

-- A location of a checked program has its targets, one for each chain that the call string selects.
abbrev pub TargetsAreThere : Type 0
TargetsAreThere = (program : List Routine) (l : Location) (string : List ℕ) (p : ℕ) → IsChecked program → procedure_of program l ≡ In p → (ts : List Target) × (targets program p l string ≡ Some ts)

-- the names that targets ask for one by one
abbrev pub demands_of : {S : Type 0} → Rows CellName (Cell S) → List Target → List CellName
demands_of rows ts = gather (value_of rows) (next_demanded ts) (most_demanded ts) []

-- The answer at a location is read from the values of the demanded names.
abbrev pub AnswersAgree : {S : Type 0} → Operations S → Type 0
AnswersAgree {S} dom =
    (engine : LoopOptions) (program : List Routine) (same : CellName → CellName → Bool) (l : Location) (string : List ℕ) (p : ℕ) (ts : List Target) →
    IsSame same → IsChecked program → targets program p l string ≡ Some ts →
    answer_in dom engine program l string (In p) ≡ summed dom engine (read_all ts (map (value_of (rows_of dom engine program same)) (demands_of (rows_of dom engine program same) ts)))

-- What the machine's turns do to the kept names.
use Rattle.std.specs.Prelude.{◌≡◌, ◌↔◌, ℕ, true, List, ◌++◌, take, Some}
use Rattle.imp_syntax.specs.Plain.{Procedure}
use Rattle.imp_syntax.specs.declared.edit.Location.{Location}
use Rattle.imp_slots.specs.Fits.{IsChecked}
use Rattle.imp_slots.specs.Plain.{Routine}
use Rattle.domain_laws.specs.Operations.{Operations}
use Rattle.batch_meaning.specs.Batch.{LoopOptions}
use Rattle.cell_names.specs.Paths.{CellName}
use Rattle.cell_rows.specs.Targets.{Target, targets}
use Rattle.daig_order.specs.Order.{member}
use Rattle.daig_order.specs.OrderLaws.{IsDistinct}
use Rattle.imp_check.specs.Slots.{routines_of}
use Rattle.cell_kept_set.specs.Touched.{AreCells, IsKept}
use Rattle.cell_graph.specs.Same.{same_name}
use Rattle.daig_machine.specs.Machine.{Machine}
use Rattle.imp_syntax.specs.declared.edit.Edit.{Edit}
use Rattle.imp_edit.specs.Edited.{edited}
use Rattle.daig_machine.specs.Turns.{after_edit, is_kept, missing_names, missing_for_report, missing_in_places, with_program, redone, undone}

-- These names are cells of a program, closed under its inputs, each once.
pub record AreKept {S : Type 0} (dom : Operations S) (engine : LoopOptions) (program : List Routine) (kept : List CellName) : Type 0 where
  pub cells : AreCells dom engine program same_name (member same_name kept)
  pub once : IsDistinct same_name kept

-- the machine's are
abbrev pub KeepsCells : {S : Type 0} → Operations S → Machine → Type 0
KeepsCells dom m = AreKept dom m.engine (routines_of m.program) m.kept

-- With the first of the names that are missing for the targets of a question they are again.
abbrev pub FillingKeeps : {S : Type 0} → Operations S → Type 0
FillingKeeps dom =
    (m : Machine) (place : ℕ) (l : Location) (string : List ℕ) (ts : List Target) (n : ℕ) → IsChecked (routines_of m.program) → targets (routines_of m.program) place l string ≡ Some ts →
    KeepsCells dom m → AreKept dom m.engine (routines_of m.program) (m.kept ++ take n (missing_names dom ts m))

-- So they are with the first of those that are missing for a report.
abbrev pub ReportingKeeps : {S : Type 0} → Operations S → Type 0
ReportingKeeps dom = (m : Machine) (n : ℕ) → IsChecked (routines_of m.program) → KeepsCells dom m → AreKept dom m.engine (routines_of m.program) (m.kept ++ take n (missing_for_report dom m))

-- .. and with the first of those that are missing for locations, one after another.
abbrev pub PlacesKeep : {S : Type 0} → Operations S → Type 0
PlacesKeep dom = (m : Machine) (ls : List Location) (n : ℕ) → IsChecked (routines_of m.program) → KeepsCells dom m → AreKept dom m.engine (routines_of m.program) (m.kept ++ take n (missing_in_places dom ls m))

-- With another program they are cells of that one.
abbrev pub MovingKeeps : {S : Type 0} → Operations S → Type 0
MovingKeeps dom =
    (m : Machine) (program : List Procedure) (past future : List (List Procedure)) (next : ℕ) → IsChecked (routines_of m.program) → IsChecked (routines_of program) →
    KeepsCells dom m → KeepsCells dom (with_program dom program past future next m)

-- They are those that the change leaves.
abbrev pub MovingLeaves : {S : Type 0} → Operations S → Type 0
MovingLeaves dom =
    (m : Machine) (program : List Procedure) (past future : List (List Procedure)) (next : ℕ) (x : CellName) → IsChecked (routines_of m.program) → IsChecked (routines_of program) →
    KeepsCells dom m →
    (is_kept (with_program dom program past future next m) x ≡ true) ↔ IsKept dom (record { engine = m.engine; old = routines_of m.program; new = routines_of program }) same_name (is_kept m) x

-- An edit that is undone leads back to the program before it, and one that is done again to the program after it.
abbrev pub UndoGoesBack : {S : Type 0} → Operations S → Type 0
UndoGoesBack dom = (m : Machine) (e : Edit) → (undone dom (after_edit dom e m)).program ≡ m.program

abbrev pub RedoGoesOn : {S : Type 0} → Operations S → Type 0
RedoGoesOn dom = (m : Machine) (e : Edit) → (redone dom (undone dom (after_edit dom e m))).program ≡ edited e m.program

-- Straight after the edit its undoing takes no further name out of those that are kept.
abbrev pub UndoKeepsAll : {S : Type 0} → Operations S → Type 0
UndoKeepsAll dom =
    (m : Machine) (e : Edit) (x : CellName) → IsChecked (routines_of m.program) → IsChecked (routines_of (edited e m.program)) → KeepsCells dom m →
    is_kept (after_edit dom e m) x ≡ true → is_kept (undone dom (after_edit dom e m)) x ≡ true

-- What a plan leaves.
use Rattle.std.specs.Prelude.{◌≡◌, ◌↔◌, ℕ, List, length, map, slice_get, true, Some, IsSome}
use Rattle.std.specs.FinMap.{get}
use Rattle.imp_slots.specs.Fits.{IsChecked}
use Rattle.domain_laws.specs.Operations.{Operations}
use Rattle.daig_order.specs.Asking.{value_of}
use Rattle.daig_traces.specs.Traces.{IsTrace}
use Rattle.cell_names.specs.Owners.{owner}
use Rattle.cell_names.specs.Paths.{CellName}
use Rattle.cell_rows.specs.Cells.{Cell}
use Rattle.cell_rows.specs.Claims.{HasRow, rows_of}
use Rattle.cell_kept_set.specs.Places.{KeepPlaces}
use Rattle.cell_kept_set.specs.Touched.{Edit, IsKept}
use Rattle.daig_graph.specs.Held.{IsIn}
use Rattle.imp_flow.specs.Plans.{Plan}
use Rattle.imp_flow.specs.Changed.{AreChanged}
use Rattle.cell_graph.specs.Same.{same_name}
use Rattle.cell_removal.specs.Removal.{Cells, IsRising, Removes, without}
use Rattle.cell_graph.specs.Named.{kept}
use Rattle.edit_invalidate.specs.Touched.{AreNamed, IsTouched, KeepsCell, name_at, inputs_at}
use Rattle.cell_graph.specs.Asked.{inputs}
use Rattle.cell_graph.specs.Holds.{HoldsCells}

-- the change from one program to another
abbrev pub edit_of : Plan → Plan → Edit
edit_of old new = record { engine = old.engine; old = old.program; new = new.program }

-- Each cell of a program has a name.
abbrev pub CellsAreNamed : {S : Type 0} → Operations S → Type 0 → Type 0
CellsAreNamed dom V = (plan : Plan) (names : List CellName) (cells : Cells V) → HoldsCells dom plan names cells → AreNamed cells names

-- It has a rank above those of its inputs.
abbrev pub CellsRise : {S : Type 0} → Operations S → Type 0 → Type 0
CellsRise dom V = (plan : Plan) (names : List CellName) (cells : Cells V) → HoldsCells dom plan names cells → IsRising cells

-- What is left are exactly the kept names; they are cells of the new program, which computes at each what the old one did.
pub record LeavesKept {S V : Type 0} (dom : Operations S) (old new : Plan) (names : List CellName) (cells rest : Cells V) : Type 0 where
  pub found : (x : CellName) → kept rest names x ≡ true → value_of (rows_of dom new.engine new.program same_name) x ≡ value_of (rows_of dom old.engine old.program same_name) x
  pub kept : (x : CellName) → (kept rest names x ≡ true) ↔ IsKept dom (edit_of old new) same_name (kept cells names) x
  pub holds : HoldsCells dom new names rest

-- So where statements keep their places, a plan of removal for the changed cells of the changed statements leaves the kept
-- names.
abbrev pub PlansLeaveKept : {S : Type 0} → Operations S → Type 0 → Type 0
PlansLeaveKept dom V =
    (old new : Plan) (names : List CellName) (cells : Cells V) (stmts plan : List ℕ) → old.engine ≡ new.engine → IsChecked new.program → KeepPlaces old.program new.program →
    HoldsCells dom old names cells → AreChanged old new stmts → Removes cells (IsTouched old new names cells stmts) plan →
    LeavesKept dom old new names cells (without cells plan)

-- A cell that is not touched keeps its row.
abbrev pub UntouchedKeepRows : {S : Type 0} → Operations S → Type 0 → Type 0
UntouchedKeepRows dom V =
    (old new : Plan) (names : List CellName) (cells : Cells V) (stmts : List ℕ) (n : ℕ) → old.engine ≡ new.engine → HoldsCells dom old names cells → AreChanged old new stmts →
    IsSome (get cells n) → (IsTouched old new names cells stmts n → ⊥) → KeepsCell old new (name_at names n) (inputs_at cells n)

-- So does a name of a statement that is not changed, with any inputs.
abbrev pub OthersKeepRows : Type 0
OthersKeepRows =
    (old new : Plan) (stmts : List ℕ) (x : CellName) (inputs : ℕ) → AreChanged old new stmts → (IsIn stmts (owner x.path x.point) → ⊥) →
    HasRow old.engine old.program x → KeepsCell old new x inputs

-- Where a cell with so many inputs keeps its row, a trace of the old row is one of the new.
abbrev pub TracesStay : {S : Type 0} → Operations S → Type 0
TracesStay {S} dom =
    (old new : Plan) (x : CellName) (xs : List CellName) (vs : List (Cell S)) (v : Cell S) → old.engine ≡ new.engine → KeepsCell old new x (length xs) →
    IsTrace (rows_of dom old.engine old.program same_name) x xs vs v → IsTrace (rows_of dom new.engine new.program same_name) x xs vs v

-- So the new row of an untouched cell has the old one's trace.
abbrev pub UntouchedHaveTraces : {S : Type 0} → Operations S → Type 0 → Type 0
UntouchedHaveTraces dom V =
    (old new : Plan) (names : List CellName) (cells : Cells V) (stmts : List ℕ) (n : ℕ) (x : CellName) → old.engine ≡ new.engine → HoldsCells dom old names cells → AreChanged old new stmts →
    IsSome (get cells n) → (IsTouched old new names cells stmts n → ⊥) → slice_get names n ≡ Some x →
    IsTrace (rows_of dom new.engine new.program same_name) x (inputs dom old x) (map (value_of (rows_of dom old.engine old.program same_name)) (inputs dom old x)) (value_of (rows_of dom old.engine old.program same_name) x)

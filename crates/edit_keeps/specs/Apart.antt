-- What one accepted edit leaves of the cells of a program, and what taking it back leaves.
use Rattle.std.specs.Prelude.{◌≡◌, ◌⊎◌, ℕ, ◌<◌, List}
use Rattle.std.specs.List.{All}
use Rattle.imp_syntax.specs.Plain.{Procedure, program_numbers}
use Rattle.imp_syntax.specs.declared.edit.Edit.{Edit}
use Rattle.imp_check.specs.Fine.{IsFine}
use Rattle.imp_check.specs.Slots.{routines_of}
use Rattle.imp_edit.specs.Edited.{edited, Continues}
use Rattle.domain_laws.specs.Operations.{Operations}
use Rattle.batch_meaning.specs.Batch.{LoopOptions}
use Rattle.cell_names.specs.Paths.{CellName}
use Rattle.imp_flow.specs.Plans.{Plan, plan_of}
use Rattle.imp_flow.specs.Changed.{AreChanged}
use Rattle.cell_graph.specs.Holds.{HoldsCells}
use Rattle.cell_removal.specs.Removal.{Cells, Removes, without}
use Rattle.edit_invalidate.specs.Touched.{IsTouched}
use Rattle.edit_invalidate.specs.Claims.{LeavesKept}

-- An edit of a program without faults makes another one of it. Its statements carry the numbers from the next one on, and
-- those of the program are below that one.
pub record IsEdited (old new : List Procedure) : Type 0 where
  pub edit : Edit
  pub next : ℕ
  pub fine : IsFine old
  pub after : IsFine new
  pub below : All (λ (n : ℕ). n < next) (program_numbers old)
  pub continues : Continues edit next
  pub makes : edited edit old ≡ new

-- The edit is made, or made again; or it is taken back.
abbrev pub AreOneApart : List Procedure → List Procedure → Type 0
AreOneApart old new = IsEdited old new ⊎ IsEdited new old

-- a program, and how its loops are interpreted
abbrev pub flow_of : LoopOptions → List Procedure → Plan
flow_of engine program = plan_of (routines_of program) engine

-- From the cells of one program, without those of a plan for the changed cells of the changed statements, come the kept
-- ones, which are cells of the other.
abbrev pub EditsLeaveKept : {S : Type 0} → Operations S → Type 0 → Type 0
EditsLeaveKept dom V =
    (engine : LoopOptions) (old new : List Procedure) (names : List CellName) (cells : Cells V) (stmts plan : List ℕ) → AreOneApart old new → HoldsCells dom (flow_of engine old) names cells →
    AreChanged (flow_of engine old) (flow_of engine new) stmts → Removes cells (IsTouched (flow_of engine old) (flow_of engine new) names cells stmts) plan →
    LeavesKept dom (flow_of engine old) (flow_of engine new) names cells (without cells plan)

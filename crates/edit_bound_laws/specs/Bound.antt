-- What an edit can empty, told by the control flow graph.
use Rattle.std.specs.Prelude.{◌≡◌, ◌≢◌, ℕ, List, Some, Bool, true, false, reverse}
use Rattle.imp_syntax.specs.Plain.{Procedure}
use Rattle.imp_check.specs.Slots.{routines_of}
use Rattle.domain_laws.specs.Operations.{Operations}
use Rattle.cell_names.specs.Paths.{CellName}
use Rattle.cell_kept_set.specs.Touched.{Edit}
use Rattle.edit_keeps.specs.Apart.{AreOneApart}
use Rattle.daig_machine.specs.Machine.{Machine}
use Rattle.daig_machine.specs.Turns.{is_kept, with_program}
use Rattle.daig_machine.specs.Claims.{KeepsCells}
use Rattle.edit_bound_laws.specs.Flow.{FlowPoint, statement_of, Node, node_of, Equation, equation, Flows, IsReached}

-- The edit changes the point: the old program has an equation there and the new one not the same. So its statement is gone
-- or has another text, or another point stands before it, or a block of it or the procedure that it calls ends elsewhere, or
-- the thresholds of its loop are others.
abbrev pub IsChangedAt : Edit → FlowPoint → Type 0
IsChangedAt e a = (q : Equation) × (equation e.engine (reverse e.old) a ≡ Some q) × (equation e.engine (reverse e.new) a ≢ Some q)

-- In the old program's graph a path leads to the cell's node from a node whose point is changed.
abbrev pub IsInReach : Edit → CellName → Type 0
IsInReach e x = IsReached e.engine (reverse e.old) (λ a. IsChangedAt e a.point) (node_of x)

-- from a machine's program to another
abbrev pub change_to : List Procedure → Machine → Edit
change_to program m = record { engine = m.engine; old = routines_of m.program; new = routines_of program }

-- Over each edit that a machine makes, and when it is undone or redone: of the change, and of the names that are kept
-- before it and after it.
abbrev pub OverEdits : {S : Type 0} → Operations S → (Edit → (before after : CellName → Bool) → Type 0) → Type 0
OverEdits dom claim =
    (m : Machine) (program : List Procedure) (past future : List (List Procedure)) (next : ℕ) → AreOneApart m.program program → KeepsCells dom m →
    claim (change_to program m) (is_kept m) (is_kept (with_program dom program past future next m))

-- Each emptied cell is in reach.
abbrev pub EmptiedAreReached : {S : Type 0} → Operations S → Type 0
EmptiedAreReached dom = OverEdits dom (λ e before after. (x : CellName) → before x ≡ true → after x ≡ false → IsInReach e x)

-- Only points of one statement change, and control does not leave it.
pub record IsDeadEnd (e : Edit) (n : ℕ) : Type 0 where
  pub changed : (a : FlowPoint) → IsChangedAt e a → statement_of a ≡ n
  pub last : (a b : Node) → statement_of a.point ≡ n → Flows e.engine (reverse e.old) a b → statement_of b.point ≡ n

-- Then the cells of all other statements stay.
abbrev pub DeadEndsGoAlone : {S : Type 0} → Operations S → Type 0
DeadEndsGoAlone dom = OverEdits dom (λ e before after. (n : ℕ) → IsDeadEnd e n → (x : CellName) → before x ≡ true → statement_of (node_of x).point ≢ n → after x ≡ true)

-- Statements as nodes of the flow.
use Rattle.std.specs.Prelude.{ℕ, List, Option, Some, None, Bool, true, false}
use Rattle.imp_slots.specs.Plain.{Guard, Invoke}
use Rattle.imp_slots.specs.declared.actions.SlotStmt.{SlotStmt}
use Rattle.cell_names.specs.declared.frame.Point.{Point}
use Rattle.imp_flow_rows.specs.declared.node.Leave.{Leave}

-- What a statement does to the flow: a simple one acts; an if has the last points of its blocks; a while has that of its
-- body, and the breaks that leave it, in the order of the text; a call has its callee's place, and the last point of the
-- callee's body, where such a procedure stands before.
pub data Shape : Type 0 where
  Act : SlotStmt → Shape
  If : Guard → (then els : Point) → Shape
  While : Guard → (end : Point) → List Leave → Shape
  Call : Invoke → (callee : ℕ) → (end : Option Point) → Shape

-- A statement, how many procedures stand before its own, the loops of its procedure around it, outermost first, and
-- the point before it.
pub record Node : Type 0 where
  pub stmt : ℕ
  pub place : ℕ
  pub loops : List ℕ
  pub front : Point
  pub shape : Shape

-- the callee of a call, where such a procedure stands before
abbrev pub callee_at : Shape → Option ℕ
callee_at (Act s) = None
callee_at (If g t e) = None
callee_at (While g end ls) = None
callee_at (Call i q None) = None
callee_at (Call i q (Some end)) = Some q

abbrev pub is_while : Shape → Bool
is_while (Act s) = false
is_while (If g t e) = false
is_while (While g end ls) = true
is_while (Call i q end) = false

-- no point of a statement with this shape has a row
abbrev pub is_bare : Shape → Bool
is_bare (Call i c None) = true
is_bare _ = false

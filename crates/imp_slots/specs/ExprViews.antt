-- What a node of an expression says.
use Rattle.imp_slots.specs.Plain.{Term}
use Rattle.imp_slots.specs.Plain as plain
use Rattle.imp_slots.specs.declared.expressions.SlotExprNode.{SlotExprNode}
use Rattle.imp_slots.specs.declared.expressions.SlotExprNode.TheVariants.{Literal, Slot, Length, Negative, Binary}

-- the expression whose outermost part is this node
abbrev pub term_of : SlotExprNode → Term
term_of (Literal n) = plain.Literal n
term_of (Slot x) = plain.Slot x
term_of (Length a) = plain.Length a
term_of (Negative e) = plain.Negative e
term_of (Binary o e f) = plain.Binary o e f

-- Expressions, sides and conditions as plain data.
use Rattle.imp_syntax.specs.Plain as plain
use Rattle.imp_syntax.specs.Plain.{Expression, Operand, Condition}
use Rattle.imp_syntax.specs.declared.expr.ExprNode.{ExprNode}
use Rattle.imp_syntax.specs.declared.expr.ExprNode.TheVariants.{Literal, Variable, Length, Negative, Binary}
use Rattle.imp_syntax.specs.declared.expr.Side.{Side}
use Rattle.imp_syntax.specs.declared.expr.Side.TheVariants.{Null, Expr}
use Rattle.imp_syntax.specs.declared.cond.CondNode.{CondNode}
use Rattle.imp_syntax.specs.declared.cond.CondNode.TheVariants.{Compare, Not, And, Or}

-- the expression whose outermost part is this
abbrev pub expression_of : ExprNode → Expression
expression_of (Literal n) = plain.Literal n
expression_of (Variable x) = plain.Variable x
expression_of (Length x) = plain.Length x
expression_of (Negative e) = plain.Negative e
expression_of (Binary o a b) = plain.Binary o a b

-- a side of a comparison, or an argument
abbrev pub operand_of : Side → Operand
operand_of Null = plain.Null
operand_of (Expr e) = plain.Value e

-- the condition whose outermost part is this
abbrev pub condition_of : CondNode → Condition
condition_of (Compare r a b) = plain.Compare r (operand_of a) (operand_of b)
condition_of (Not c) = plain.Not c
condition_of (And c d) = plain.And c d
condition_of (Or c d) = plain.Or c d

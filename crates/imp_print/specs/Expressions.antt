-- The texts of expressions and conditions, with parentheses only where the tree needs them.
use Rattle.std.specs.Prelude.{ℕ, ◌+◌, Bool, true, false, nat_lt, List, ◌++◌, codes}
use Rattle.std.specs.Fmt.{decimal}
use Rattle.imp_syntax.specs.Plain.{Expression, Literal, Variable, Length, Negative, Binary, Operand, Null, Value, Condition, Compare, Not, And, Or}
use Rattle.imp_syntax.specs.declared.words.Operator.{Operator}
use Rattle.imp_syntax.specs.declared.words.Operator.TheVariants as o
use Rattle.imp_syntax.specs.declared.words.Relation.{Relation}
use Rattle.imp_syntax.specs.declared.words.Relation.TheVariants as r

abbrev pub operator_text : Operator → List ℕ
operator_text o.Add = codes " + "
operator_text o.Subtract = codes " - "
operator_text o.Multiply = codes " * "
operator_text o.Divide = codes " / "
operator_text o.Remainder = codes " % "

abbrev pub relation_text : Relation → List ℕ
relation_text r.Equal = codes " == "
relation_text r.NotEqual = codes " != "
relation_text r.Less = codes " < "
relation_text r.AtMost = codes " <= "
relation_text r.Greater = codes " > "
relation_text r.AtLeast = codes " >= "

-- sums and differences bind least, a sign and what has no operator most
abbrev pub operator_rank : Operator → ℕ
operator_rank o.Add = 1
operator_rank o.Subtract = 1
operator_rank o.Multiply = 2
operator_rank o.Divide = 2
operator_rank o.Remainder = 2

abbrev pub expression_rank : Expression → ℕ
expression_rank (Literal n) = 3
expression_rank (Variable x) = 3
expression_rank (Length x) = 3
expression_rank (Negative e) = 3
expression_rank (Binary op a b) = operator_rank op

-- in parentheses where the test holds
abbrev pub enclosed : Bool → List ℕ → List ℕ
enclosed true text = codes "(" ++ text ++ codes ")"
enclosed false text = text

-- an operand stands in parentheses where it binds less than its operator, on the right also where it binds as much
abbrev pub expression_text : Expression → List ℕ
expression_text (Literal n) = decimal n
expression_text (Variable x) = x
expression_text (Length x) = codes "len " ++ x
expression_text (Negative e) = codes "-" ++ enclosed (nat_lt (expression_rank e) 3) (expression_text e)
expression_text (Binary op a b) = enclosed (nat_lt (expression_rank a) (operator_rank op)) (expression_text a) ++ operator_text op ++ enclosed (nat_lt (expression_rank b) (operator_rank op + 1)) (expression_text b)

abbrev pub side_text : Operand → List ℕ
side_text Null = codes "null"
side_text (Value e) = expression_text e

abbrev pub condition_rank : Condition → ℕ
condition_rank (Compare rel a b) = 3
condition_rank (Not c) = 3
condition_rank (And c d) = 2
condition_rank (Or c d) = 1

abbrev pub condition_text : Condition → List ℕ
condition_text (Compare rel a b) = side_text a ++ relation_text rel ++ side_text b
condition_text (Not c) = codes "!(" ++ condition_text c ++ codes ")"
condition_text (And c d) = enclosed (nat_lt (condition_rank c) 2) (condition_text c) ++ codes " && " ++ enclosed (nat_lt (condition_rank d) 3) (condition_text d)
condition_text (Or c d) = enclosed (nat_lt (condition_rank c) 1) (condition_text c) ++ codes " || " ++ enclosed (nat_lt (condition_rank d) 2) (condition_text d)

-- an operand that has to bind at least so much
abbrev pub operand_text : ℕ → Expression → List ℕ
operand_text least e = enclosed (nat_lt (expression_rank e) least) (expression_text e)

abbrev pub part_text : ℕ → Condition → List ℕ
part_text least c = enclosed (nat_lt (condition_rank c) least) (condition_text c)

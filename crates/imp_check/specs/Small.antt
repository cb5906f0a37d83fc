-- Literals are below 2^63.
use Rattle.std.specs.Prelude.{◌^◌, Bool, true, ◌&&◌, nat_lt, List, [], ◌∷◌}
use Rattle.imp_syntax.specs.Plain.{Expression, Literal, Variable, Length, Negative, Binary, Operand, Null, Value, Condition, Compare, Not, And, Or, Action, Skip, Assert, Assign, Input, MakeArray, SetNull, MakeCell, ReadElement, ReadNext, ReadItem, WriteElement, WriteNext, WriteItem, Statement, Simple, Break, Call, If, While, Statements, Ends, Starts, Procedure}

abbrev pub small_expression : Expression → Bool
small_expression (Literal n) = nat_lt n (2 ^ 63)
small_expression (Variable x) = true
small_expression (Length x) = true
small_expression (Negative e) = small_expression e
small_expression (Binary o a b) = small_expression a && small_expression b

abbrev pub small_operand : Operand → Bool
small_operand Null = true
small_operand (Value e) = small_expression e

abbrev pub small_operands : List Operand → Bool
small_operands [] = true
small_operands (a ∷ rest) = small_operand a && small_operands rest

abbrev pub small_condition : Condition → Bool
small_condition (Compare r a b) = small_operand a && small_operand b
small_condition (Not c) = small_condition c
small_condition (And c d) = small_condition c && small_condition d
small_condition (Or c d) = small_condition c && small_condition d

abbrev pub small_action : Action → Bool
small_action Skip = true
small_action (Assert c) = small_condition c
small_action (Assign x e) = small_expression e
small_action (Input x) = true
small_action (MakeArray x e) = small_expression e
small_action (SetNull x) = true
small_action (MakeCell x) = true
small_action (ReadElement x a e) = small_expression e
small_action (ReadNext x q) = true
small_action (ReadItem x q) = true
small_action (WriteElement a e f) = small_expression e && small_expression f
small_action (WriteNext p q) = true
small_action (WriteItem p e) = small_expression e

abbrev mutual
  pub small_statement : Statement → Bool
  small_statement (Simple n a) = small_action a
  small_statement (Break n) = true
  small_statement (Call n x f es) = small_operands es
  small_statement (If n c t e) = small_condition c && (small_block t && small_block e)
  small_statement (While n c b) = small_condition c && small_block b

  pub small_block : Statements → Bool
  small_block Ends = true
  small_block (Starts s ss) = small_statement s && small_block ss

abbrev pub small_program : List Procedure → Bool
small_program [] = true
small_program (p ∷ ps) = small_block p.body && small_program ps

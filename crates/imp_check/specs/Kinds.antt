-- Whether the names of expressions, conditions and simple statements are known, and whether their kinds agree.
use Rattle.std.specs.Prelude.{ℕ, List, [], ◌∷◌, Bool, true, false, ◌||◌, ◌&&◌}
use Rattle.imp_syntax.specs.Plain.{Expression, Literal, Variable, Length, Negative, Binary, Operand, Null, Value, Condition, Compare, Not, And, Or, Action, Skip, Assert, Assign, Input, MakeArray, SetNull, MakeCell, ReadElement, ReadNext, ReadItem, WriteElement, WriteNext, WriteItem}
use Rattle.imp_syntax.specs.declared.words.Declaration.{Declaration}
use Rattle.imp_syntax.specs.declared.words.Relation.{Relation}
use Rattle.imp_syntax.specs.declared.words.Relation.TheVariants.{Equal, NotEqual, Less, AtMost, Greater, AtLeast}
use Rattle.imp_check.specs.Names.{kind_of, is_known, is_int, is_array, is_link}

-- the relations that links have
abbrev pub is_equality : Relation → Bool
is_equality Equal = true
is_equality NotEqual = true
is_equality Less = false
is_equality AtMost = false
is_equality Greater = false
is_equality AtLeast = false

module _ (vs : List Declaration) where
  abbrev pub knows : List ℕ → Bool
  knows x = is_known (kind_of vs x)

  abbrev pub knows_expression : Expression → Bool
  knows_expression (Literal n) = true
  knows_expression (Variable x) = knows x
  knows_expression (Length x) = knows x
  knows_expression (Negative e) = knows_expression e
  knows_expression (Binary o a b) = knows_expression a && knows_expression b

  abbrev pub knows_operand : Operand → Bool
  knows_operand Null = true
  knows_operand (Value e) = knows_expression e

  abbrev pub knows_operands : List Operand → Bool
  knows_operands [] = true
  knows_operands (a ∷ rest) = knows_operand a && knows_operands rest

  abbrev pub knows_condition : Condition → Bool
  knows_condition (Compare r a b) = knows_operand a && knows_operand b
  knows_condition (Not c) = knows_condition c
  knows_condition (And c d) = knows_condition c && knows_condition d
  knows_condition (Or c d) = knows_condition c && knows_condition d

  abbrev pub knows_action : Action → Bool
  knows_action Skip = true
  knows_action (Assert c) = knows_condition c
  knows_action (Assign x e) = knows x && knows_expression e
  knows_action (Input x) = knows x
  knows_action (MakeArray x e) = knows x && knows_expression e
  knows_action (SetNull x) = knows x
  knows_action (MakeCell x) = knows x
  knows_action (ReadElement x a e) = knows x && (knows a && knows_expression e)
  knows_action (ReadNext x q) = knows x && knows q
  knows_action (ReadItem x q) = knows x && knows q
  knows_action (WriteElement a e f) = knows a && (knows_expression e && knows_expression f)
  knows_action (WriteNext p q) = knows p && knows q
  knows_action (WriteItem p e) = knows p && knows_expression e

  abbrev pub int : List ℕ → Bool
  int x = is_int (kind_of vs x)

  abbrev pub array : List ℕ → Bool
  array x = is_array (kind_of vs x)

  abbrev pub link : List ℕ → Bool
  link x = is_link (kind_of vs x)

  -- an expression uses ints, and arrays under `len` alone
  abbrev pub int_expression : Expression → Bool
  int_expression (Literal n) = true
  int_expression (Variable x) = int x
  int_expression (Length x) = array x
  int_expression (Negative e) = int_expression e
  int_expression (Binary o a b) = int_expression a && int_expression b

  abbrev pub int_operand : Operand → Bool
  int_operand Null = false
  int_operand (Value e) = int_expression e

  -- a variable alone
  abbrev pub array_expression : Expression → Bool
  array_expression (Literal n) = false
  array_expression (Variable x) = array x
  array_expression (Length x) = false
  array_expression (Negative e) = false
  array_expression (Binary o a b) = false

  abbrev pub link_expression : Expression → Bool
  link_expression (Literal n) = false
  link_expression (Variable x) = link x
  link_expression (Length x) = false
  link_expression (Negative e) = false
  link_expression (Binary o a b) = false

  abbrev pub array_operand : Operand → Bool
  array_operand Null = false
  array_operand (Value e) = array_expression e

  -- null, or a list variable
  abbrev pub link_operand : Operand → Bool
  link_operand Null = true
  link_operand (Value e) = link_expression e

  abbrev pub fits_condition : Condition → Bool
  fits_condition (Compare r a b) = (int_operand a && int_operand b) || (is_equality r && (link_operand a && link_operand b))
  fits_condition (Not c) = fits_condition c
  fits_condition (And c d) = fits_condition c && fits_condition d
  fits_condition (Or c d) = fits_condition c && fits_condition d

  -- an int takes an int expression; an array or a list takes a variable of its kind
  abbrev pub fits_assign : List ℕ → Expression → Bool
  fits_assign x e = (int x && int_expression e) || ((array x && array_expression e) || (link x && link_expression e))

  abbrev pub fits_action : Action → Bool
  fits_action Skip = true
  fits_action (Assert c) = fits_condition c
  fits_action (Assign x e) = fits_assign x e
  fits_action (Input x) = int x
  fits_action (MakeArray x e) = array x && int_expression e
  fits_action (SetNull x) = link x
  fits_action (MakeCell x) = link x
  fits_action (ReadElement x a e) = int x && (array a && int_expression e)
  fits_action (ReadNext x q) = link x && link q
  fits_action (ReadItem x q) = int x && link q
  fits_action (WriteElement a e f) = array a && (int_expression e && int_expression f)
  fits_action (WriteNext p q) = link p && link q
  fits_action (WriteItem p e) = link p && int_expression e

-- The literals of what is read from a text are below 2^63.
use Rattle.std.proofs.Common.{◌≡◌, ℕ, ◌^◌, ◌<◌, ◌≤◌, ◌+◌, nat_lt, true, List, [], ◌∷◌, refl, arith}
use Rattle.std.proofs.lemmas.Bool.{and_from}
use Rattle.std.proofs.lemmas.Bool.Decides.{nat_tests}
use Rattle.base_values.specs.Numbers.{greatest}
use Rattle.imp_syntax.specs.Plain as plain
use Rattle.imp_syntax.specs.Plain.{Expression, Literal, Variable, Length, Negative, Binary, Operand, Null, Value, Condition, Compare, Not, And, Or, Action, Statement, Simple, Break, Call, If, While, Statements, Ends, Starts, Procedure}
use Rattle.imp_check.specs.Small.{small_expression, small_operand, small_operands, small_condition, small_action, small_statement, small_block, small_program}
use Rattle.imp_round_trip.specs.Printable.{HasWords, HasSideWords, HasConditionWords, IsSideOfText, AreSidesOfText, IsPrintableAction, IsPrintableStatement, IsPrintableBlock, ArePrintable, IsPrintable}

literal_small : (n : ℕ) → n ≤ greatest → nat_lt n (2 ^ 63) ≡ true
literal_small n low = let below : n < 2 ^ 63 = omega arith in grind (arith, nat_tests)

expression_small : (e : Expression) → HasWords e → small_expression e ≡ true
expression_small (Literal n) h = literal_small n h
expression_small (Variable x) h = refl
expression_small (Length x) h = refl
expression_small (Negative e) h = expression_small e h
expression_small (Binary o a b) h = and_from (small_expression a) (small_expression b) (expression_small a h.0) (expression_small b h.1)

side_small : (a : Operand) → HasSideWords a → small_operand a ≡ true
side_small Null h = refl
side_small (Value e) h = expression_small e h

pub condition_small : (c : Condition) → HasConditionWords c → small_condition c ≡ true
condition_small (Compare r a b) h = and_from (small_operand a) (small_operand b) (side_small a h.0) (side_small b h.1)
condition_small (Not c) h = condition_small c h
condition_small (And c d) h = and_from (small_condition c) (small_condition d) (condition_small c h.0) (condition_small d h.1)
condition_small (Or c d) h = and_from (small_condition c) (small_condition d) (condition_small c h.0) (condition_small d h.1)

argument_small : (a : Operand) → IsSideOfText a → small_operand a ≡ true
argument_small Null h = refl
argument_small (Value e) h = expression_small e h.words

arguments_small : (es : List Operand) → AreSidesOfText es → small_operands es ≡ true
arguments_small [] h = refl
arguments_small (e ∷ es) h = and_from (small_operand e) (small_operands es) (argument_small e h.0) (arguments_small es h.1)

action_small : (a : Action) → IsPrintableAction a → small_action a ≡ true
action_small plain.Skip h = refl
action_small (plain.Assert c) h = condition_small c h.words
action_small (plain.Assign x e) h = expression_small e h.1.words
action_small (plain.Input x) h = refl
action_small (plain.MakeArray x e) h = expression_small e h.1.words
action_small (plain.SetNull x) h = refl
action_small (plain.MakeCell x) h = refl
action_small (plain.ReadElement x a e) h = expression_small e h.2.words
action_small (plain.ReadNext x q) h = refl
action_small (plain.ReadItem x q) h = refl
action_small (plain.WriteElement a e f) h = and_from (small_expression e) (small_expression f) (expression_small e h.1.words) (expression_small f h.2.words)
action_small (plain.WriteNext p q) h = refl
action_small (plain.WriteItem p e) h = expression_small e h.1.words

mutual
  pub statement_small : (depth : ℕ) (s : Statement) → IsPrintableStatement depth s → small_statement s ≡ true
  statement_small depth (Simple n a) h = action_small a h
  statement_small depth (Break n) h = refl
  statement_small depth (Call n x f es) h = arguments_small es h.2
  statement_small depth (If n c t e) h =
      and_from (small_condition c) _ (condition_small c h.0.words) (and_from (small_block t) (small_block e) (block_small (depth + 1) t h.2) (block_small (depth + 1) e h.3))
  statement_small depth (While n c b) h = and_from (small_condition c) (small_block b) (condition_small c h.0.words) (block_small (depth + 1) b h.2)

  pub block_small : (depth : ℕ) (ss : Statements) → IsPrintableBlock depth ss → small_block ss ≡ true
  block_small depth Ends h = refl
  block_small depth (Starts s ss) h = and_from (small_statement s) (small_block ss) (statement_small depth s h.0) (block_small depth ss h.1)

procedures_small : (ps : List Procedure) → ArePrintable ps → small_program ps ≡ true
procedures_small [] h = refl
procedures_small (p ∷ ps) h = and_from (small_block p.body) (small_program ps) (block_small 0 p.body h.0.body) (procedures_small ps h.1)

pub program_small : (ps : List Procedure) → IsPrintable ps → small_program ps ≡ true
program_small [] h = absurd h
program_small (p ∷ ps) h = and_from (small_block p.body) (small_program ps) (block_small 0 p.body h.0.body) (procedures_small ps h.1)

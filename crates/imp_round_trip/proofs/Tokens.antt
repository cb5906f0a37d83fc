-- The tokens of printed trees, in the grammar's order.
use Rattle.std.proofs.Common.{ℕ, ◌+◌, Bool, true, false, List, [], ◌∷◌, ◌++◌}
use Rattle.std.specs.Prelude.{Option, Some, None, nat_lt}
use Rattle.imp_lex.specs.declared.token.Mark.TheVariants as m
use Rattle.imp_lex.specs.declared.token.Word.TheVariants as w
use Rattle.imp_lex.specs.declared.token.TokenKind.{TokenKind}
use Rattle.imp_lex.specs.declared.token.TokenKind.TheVariants as k
use Rattle.imp_syntax.specs.declared.words.Operator.{Operator}
use Rattle.imp_syntax.specs.declared.words.Operator.TheVariants as o
use Rattle.imp_syntax.specs.declared.words.Relation.{Relation}
use Rattle.imp_syntax.specs.declared.words.Relation.TheVariants as r
use Rattle.imp_syntax.specs.declared.words.VariableKind as kinds
use Rattle.imp_syntax.specs.declared.words.VariableKind.TheVariants as v
use Rattle.imp_syntax.specs.declared.words.Declaration.{Declaration}
use Rattle.imp_syntax.specs.Plain as plain
use Rattle.imp_syntax.specs.Plain.{Expression, Literal, Variable, Length, Negative, Binary, Operand, Null, Value, Condition, Compare, Not, And, Or, Statement, Simple, Break, Call, If, While, Statements, Ends, Starts, Procedure}
use Rattle.imp_print.specs.Expressions.{operator_rank, expression_rank, condition_rank}
use Rattle.imp_print.specs.Statements.{is_empty}

-- ---- expressions

abbrev pub operator_mark : Operator → TokenKind
operator_mark o.Add = k.Mark m.Plus
operator_mark o.Subtract = k.Mark m.Minus
operator_mark o.Multiply = k.Mark m.Star
operator_mark o.Divide = k.Mark m.Slash
operator_mark o.Remainder = k.Mark m.Percent

abbrev pub relation_mark : Relation → TokenKind
relation_mark r.Equal = k.Mark m.EqualTo
relation_mark r.NotEqual = k.Mark m.NotEqualTo
relation_mark r.Less = k.Mark m.Less
relation_mark r.AtMost = k.Mark m.AtMost
relation_mark r.Greater = k.Mark m.Greater
relation_mark r.AtLeast = k.Mark m.AtLeast

-- in parentheses where the test holds
abbrev pub grouped : Bool → List TokenKind → List TokenKind
grouped true w = k.Mark m.OpenParenthesis ∷ (w ++ k.Mark m.CloseParenthesis ∷ [])
grouped false w = w

abbrev pub expression_tokens : Expression → List TokenKind
expression_tokens (Literal n) = k.Number n ∷ []
expression_tokens (Variable x) = k.Name x ∷ []
expression_tokens (Length x) = k.Word w.Len ∷ k.Name x ∷ []
expression_tokens (Negative e) = k.Mark m.Minus ∷ grouped (nat_lt (expression_rank e) 3) (expression_tokens e)
expression_tokens (Binary op a b) = grouped (nat_lt (expression_rank a) (operator_rank op)) (expression_tokens a) ++ operator_mark op ∷ grouped (nat_lt (expression_rank b) (operator_rank op + 1)) (expression_tokens b)

-- an operand that has to bind at least so much
abbrev pub operand_tokens : ℕ → Expression → List TokenKind
operand_tokens least e = grouped (nat_lt (expression_rank e) least) (expression_tokens e)

abbrev pub side_tokens : Operand → List TokenKind
side_tokens Null = k.Word w.Null ∷ []
side_tokens (Value e) = expression_tokens e

abbrev pub condition_tokens : Condition → List TokenKind
condition_tokens (Compare rel a b) = side_tokens a ++ relation_mark rel ∷ side_tokens b
condition_tokens (Not c) = k.Mark m.Not ∷ grouped true (condition_tokens c)
condition_tokens (And c d) = grouped (nat_lt (condition_rank c) 2) (condition_tokens c) ++ k.Mark m.And ∷ grouped (nat_lt (condition_rank d) 3) (condition_tokens d)
condition_tokens (Or c d) = grouped (nat_lt (condition_rank c) 1) (condition_tokens c) ++ k.Mark m.Or ∷ grouped (nat_lt (condition_rank d) 2) (condition_tokens d)

abbrev pub part_tokens : ℕ → Condition → List TokenKind
part_tokens least c = grouped (nat_lt (condition_rank c) least) (condition_tokens c)

-- ---- statements

abbrev pub action_tokens : plain.Action → List TokenKind
action_tokens plain.Skip = k.Word w.Skip ∷ []
action_tokens (plain.Assert c) = k.Word w.Assert ∷ condition_tokens c
action_tokens (plain.Assign x e) = k.Name x ∷ k.Mark m.Equals ∷ expression_tokens e
action_tokens (plain.Input x) = k.Name x ∷ k.Mark m.Equals ∷ k.Word w.Input ∷ []
action_tokens (plain.MakeArray x e) = k.Name x ∷ k.Mark m.Equals ∷ k.Word w.Array ∷ expression_tokens e
action_tokens (plain.SetNull x) = k.Name x ∷ k.Mark m.Equals ∷ k.Word w.Null ∷ []
action_tokens (plain.MakeCell x) = k.Name x ∷ k.Mark m.Equals ∷ k.Word w.New ∷ []
action_tokens (plain.ReadElement x a e) = k.Name x ∷ k.Mark m.Equals ∷ k.Name a ∷ k.Mark m.OpenBracket ∷ (expression_tokens e ++ k.Mark m.CloseBracket ∷ [])
action_tokens (plain.ReadNext x q) = k.Name x ∷ k.Mark m.Equals ∷ k.Name q ∷ k.Mark m.Dot ∷ k.Word w.Next ∷ []
action_tokens (plain.ReadItem x q) = k.Name x ∷ k.Mark m.Equals ∷ k.Name q ∷ k.Mark m.Dot ∷ k.Word w.Item ∷ []
action_tokens (plain.WriteElement a e f) = k.Name a ∷ k.Mark m.OpenBracket ∷ (expression_tokens e ++ k.Mark m.CloseBracket ∷ k.Mark m.Equals ∷ expression_tokens f)
action_tokens (plain.WriteNext p q) = k.Name p ∷ k.Mark m.Dot ∷ k.Word w.Next ∷ k.Mark m.Equals ∷ k.Name q ∷ []
action_tokens (plain.WriteItem p e) = k.Name p ∷ k.Mark m.Dot ∷ k.Word w.Item ∷ k.Mark m.Equals ∷ expression_tokens e

abbrev pub more_sides_tokens : List Operand → List TokenKind
more_sides_tokens [] = []
more_sides_tokens (e ∷ es) = k.Mark m.Comma ∷ (side_tokens e ++ more_sides_tokens es)

abbrev pub sides_tokens : List Operand → List TokenKind
sides_tokens [] = []
sides_tokens (e ∷ es) = side_tokens e ++ more_sides_tokens es

abbrev pub target_tokens : Option (List ℕ) → List TokenKind
target_tokens None = []
target_tokens (Some x) = k.Name x ∷ k.Mark m.Equals ∷ []

abbrev pub call_tokens : Option (List ℕ) → List ℕ → List Operand → List TokenKind
call_tokens x f es = target_tokens x ++ (k.Word w.Call ∷ k.Name f ∷ k.Mark m.OpenParenthesis ∷ (sides_tokens es ++ k.Mark m.CloseParenthesis ∷ []))

-- a statement's end
abbrev pub ended : List TokenKind → List TokenKind
ended w = w ++ k.Mark m.Semicolon ∷ []

-- a block in its braces
abbrev pub braced : List TokenKind → List TokenKind
braced w = k.Mark m.OpenBrace ∷ (w ++ k.Mark m.CloseBrace ∷ [])

-- an if whose else is empty or not
abbrev pub if_tokens : Bool → List TokenKind → List TokenKind → List TokenKind → List TokenKind
if_tokens true c t e = k.Word w.If ∷ k.Mark m.OpenParenthesis ∷ (c ++ (k.Mark m.CloseParenthesis ∷ braced t))
if_tokens false c t e = k.Word w.If ∷ k.Mark m.OpenParenthesis ∷ (c ++ (k.Mark m.CloseParenthesis ∷ (braced t ++ (k.Word w.Else ∷ braced e))))

abbrev mutual
  pub statement_tokens : Statement → List TokenKind
  statement_tokens (Simple n a) = ended (action_tokens a)
  statement_tokens (Break n) = ended (k.Word w.Break ∷ [])
  statement_tokens (Call n x f es) = ended (call_tokens x f es)
  statement_tokens (If n c t e) = if_tokens (is_empty e) (condition_tokens c) (block_tokens t) (block_tokens e)
  statement_tokens (While n c b) = k.Word w.While ∷ k.Mark m.OpenParenthesis ∷ (condition_tokens c ++ (k.Mark m.CloseParenthesis ∷ braced (block_tokens b)))

  pub block_tokens : Statements → List TokenKind
  block_tokens Ends = []
  block_tokens (Starts s ss) = statement_tokens s ++ block_tokens ss

-- ---- programs

abbrev pub kind_word : kinds.VariableKind → TokenKind
kind_word v.Int = k.Word w.Int
kind_word v.Array = k.Word w.Array
kind_word v.List = k.Word w.List

abbrev pub declaration_tokens : Declaration → List TokenKind
declaration_tokens d = k.Name d.name ∷ k.Mark m.Colon ∷ kind_word d.kind ∷ []

abbrev pub more_declarations_tokens : List Declaration → List TokenKind
more_declarations_tokens [] = []
more_declarations_tokens (d ∷ ds) = k.Mark m.Comma ∷ (declaration_tokens d ++ more_declarations_tokens ds)

abbrev pub declarations_tokens : List Declaration → List TokenKind
declarations_tokens [] = []
declarations_tokens (d ∷ ds) = declaration_tokens d ++ more_declarations_tokens ds

abbrev pub outcome_tokens : Option Declaration → List TokenKind
outcome_tokens None = []
outcome_tokens (Some d) = k.Mark m.Arrow ∷ declaration_tokens d

abbrev pub locals_tokens : List Declaration → List TokenKind
locals_tokens [] = []
locals_tokens (d ∷ ds) = k.Word w.Var ∷ (ended (declaration_tokens d) ++ locals_tokens ds)

abbrev pub signature_tokens : Procedure → List TokenKind
signature_tokens p = k.Word w.Proc ∷ k.Name p.name ∷ k.Mark m.OpenParenthesis ∷ (declarations_tokens p.parameters ++ k.Mark m.CloseParenthesis ∷ [])

abbrev pub procedure_tokens : Procedure → List TokenKind
procedure_tokens p = signature_tokens p ++ (outcome_tokens p.outcome ++ (k.Mark m.OpenBrace ∷ (locals_tokens p.locals ++ (block_tokens p.body ++ k.Mark m.CloseBrace ∷ []))))

abbrev pub program_tokens : List Procedure → List TokenKind
program_tokens [] = []
program_tokens (p ∷ ps) = procedure_tokens p ++ program_tokens ps

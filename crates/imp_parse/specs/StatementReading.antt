-- Reading statements from left to right, with one token ahead.
use Rattle.std.specs.Prelude.{ℕ, suc, ◌+◌, Bool, true, false, List, [], ◌∷◌, length, Ok, Err, Some, None}
use Rattle.imp_lex.specs.declared.token.Mark.TheVariants as m
use Rattle.imp_lex.specs.declared.token.Word.TheVariants as word
use Rattle.imp_lex.specs.declared.token.TokenKind.{TokenKind}
use Rattle.imp_lex.specs.declared.token.TokenKind.TheVariants as k
use Rattle.imp_syntax.specs.Plain as plain
use Rattle.imp_syntax.specs.Plain.{Operand, Statement, Simple, Break, Call, If, While, Statements, Ends, block_of}
use Rattle.imp_parse.specs.Reader.{Unexpected, Read, ◌>>=◌, Steps, fix}
use Rattle.imp_parse.specs.Reading.{mark_at, name_at, expression_at, product_at, sum_at, side_at, condition_at}
use Rattle.imp_parse.specs.Lists.{Lists, list_step}
use Rattle.imp_parse.specs.Commas.{listed_at}

-- ---- calls

abbrev pub arguments_at : List TokenKind → Read (List Operand)
arguments_at ts = listed_at side_at ts

-- a call after its first word
unfoldable pub invoke_at : List TokenKind → Read (List ℕ × List Operand)
invoke_at ts = do
  f ← name_at ts
  z ← mark_at m.OpenParenthesis f.1
  es ← arguments_at z.1
  Ok ((f.0, es.0), es.1)

-- ---- what is assigned to x by statement n

abbrev pub value_rhs_at : ℕ → List ℕ → List TokenKind → Read Statement
value_rhs_at n x ts = expression_at ts >>= λ e. Ok (Simple n (plain.Assign x e.0), e.1)

-- after a variable that begins an expression
abbrev pub variable_rhs_at : ℕ → List ℕ → List ℕ → List TokenKind → Read Statement
variable_rhs_at n x y ts = do
  a ← product_at (plain.Variable y) ts
  e ← sum_at a.0 a.1
  Ok (Simple n (plain.Assign x e.0), e.1)

-- after a name and a dot
abbrev pub field_rhs_at : ℕ → List ℕ → List ℕ → List TokenKind → Read Statement
field_rhs_at n x y [] = Err (Unexpected 0)
field_rhs_at n x y (k.Word word.Next ∷ rest) = Ok (Simple n (plain.ReadNext x y), rest)
field_rhs_at n x y (k.Word word.Item ∷ rest) = Ok (Simple n (plain.ReadItem x y), rest)
field_rhs_at n x y (t ∷ rest) = Err (Unexpected (suc (length rest)))

-- after a name
unfoldable pub named_rhs_at : ℕ → List ℕ → List ℕ → List TokenKind → Read Statement
named_rhs_at n x y [] = variable_rhs_at n x y []
named_rhs_at n x y (k.Mark m.Dot ∷ rest) = field_rhs_at n x y rest
named_rhs_at n x y (k.Mark m.OpenBracket ∷ rest) = expression_at rest >>= λ e. mark_at m.CloseBracket e.1 >>= λ z. Ok (Simple n (plain.ReadElement x y e.0), z.1)
named_rhs_at n x y (t ∷ rest) = variable_rhs_at n x y (t ∷ rest)

unfoldable pub rhs_at : ℕ → List ℕ → List TokenKind → Read Statement
rhs_at n x [] = value_rhs_at n x []
rhs_at n x (k.Word word.Input ∷ rest) = Ok (Simple n (plain.Input x), rest)
rhs_at n x (k.Word word.Array ∷ rest) = expression_at rest >>= λ e. Ok (Simple n (plain.MakeArray x e.0), e.1)
rhs_at n x (k.Word word.Null ∷ rest) = Ok (Simple n (plain.SetNull x), rest)
rhs_at n x (k.Word word.New ∷ rest) = Ok (Simple n (plain.MakeCell x), rest)
rhs_at n x (k.Word word.Call ∷ rest) = invoke_at rest >>= λ i. Ok (Call n (Some x) i.0.0 i.0.1, i.1)
rhs_at n x (k.Name y ∷ rest) = named_rhs_at n x y rest
rhs_at n x (t ∷ rest) = value_rhs_at n x (t ∷ rest)

-- ---- simple statements, with number n

-- after a name and a dot
abbrev pub field_at : ℕ → List ℕ → List TokenKind → Read Statement
field_at n p [] = Err (Unexpected 0)
field_at n p (k.Word word.Next ∷ rest) = mark_at m.Equals rest >>= λ a. name_at a.1 >>= λ q. mark_at m.Semicolon q.1 >>= λ z. Ok (Simple n (plain.WriteNext p q.0), z.1)
field_at n p (k.Word word.Item ∷ rest) = mark_at m.Equals rest >>= λ a. expression_at a.1 >>= λ e. mark_at m.Semicolon e.1 >>= λ z. Ok (Simple n (plain.WriteItem p e.0), z.1)
field_at n p (t ∷ rest) = Err (Unexpected (suc (length rest)))

-- after a[
abbrev pub element_at : ℕ → List ℕ → List TokenKind → Read Statement
element_at n a ts = do
  e ← expression_at ts
  b ← mark_at m.CloseBracket e.1
  q ← mark_at m.Equals b.1
  f ← expression_at q.1
  z ← mark_at m.Semicolon f.1
  Ok (Simple n (plain.WriteElement a e.0 f.0), z.1)

-- after a name
unfoldable pub named_at : ℕ → List ℕ → List TokenKind → Read Statement
named_at n x [] = Err (Unexpected 0)
named_at n x (k.Mark m.Equals ∷ rest) = rhs_at n x rest >>= λ s. mark_at m.Semicolon s.1 >>= λ z. Ok (s.0, z.1)
named_at n x (k.Mark m.OpenBracket ∷ rest) = element_at n x rest
named_at n x (k.Mark m.Dot ∷ rest) = field_at n x rest
named_at n x (t ∷ rest) = Err (Unexpected (suc (length rest)))

unfoldable pub simple_at : ℕ → List TokenKind → Read Statement
simple_at n [] = Err (Unexpected 0)
simple_at n (k.Word word.Skip ∷ rest) = mark_at m.Semicolon rest >>= λ z. Ok (Simple n plain.Skip, z.1)
simple_at n (k.Word word.Break ∷ rest) = mark_at m.Semicolon rest >>= λ z. Ok (Break n, z.1)
simple_at n (k.Word word.Assert ∷ rest) = condition_at rest >>= λ c. mark_at m.Semicolon c.1 >>= λ z. Ok (Simple n (plain.Assert c.0), z.1)
simple_at n (k.Word word.Call ∷ rest) = invoke_at rest >>= λ i. mark_at m.Semicolon i.1 >>= λ z. Ok (Call n None i.0.0 i.0.1, z.1)
simple_at n (k.Name x ∷ rest) = named_at n x rest
simple_at n (t ∷ rest) = Err (Unexpected (suc (length rest)))

-- ---- statements from number n

-- a statement begins so
abbrev pub begins_statement : TokenKind → Bool
begins_statement (k.Word word.Skip) = true
begins_statement (k.Word word.Break) = true
begins_statement (k.Word word.Assert) = true
begins_statement (k.Word word.Call) = true
begins_statement (k.Word word.If) = true
begins_statement (k.Word word.While) = true
begins_statement (k.Name x) = true
begins_statement t = false

abbrev pub Blocks : Type 0
Blocks = Lists Statement ℕ

abbrev pub block_by : Blocks → ℕ → List TokenKind → Read (Statements × ℕ)
block_by lists n ts = do
  a ← mark_at m.OpenBrace ts
  ss ← lists n a.1
  z ← mark_at m.CloseBrace ss.1
  Ok ((block_of ss.0.0, ss.0.1), z.1)

abbrev pub else_by : Blocks → ℕ → List TokenKind → Read (Statements × ℕ)
else_by lists n [] = Ok ((Ends, n), [])
else_by lists n (k.Word word.Else ∷ rest) = block_by lists n rest
else_by lists n (t ∷ rest) = Ok ((Ends, n), t ∷ rest)

abbrev pub if_by : Blocks → ℕ → List TokenKind → Read (Statement × ℕ)
if_by lists n ts = do
  a ← mark_at m.OpenParenthesis ts
  c ← condition_at a.1
  z ← mark_at m.CloseParenthesis c.1
  t ← block_by lists (n + 1) z.1
  e ← else_by lists t.0.1 t.1
  Ok ((If n c.0 t.0.0 e.0.0, e.0.1), e.1)

abbrev pub while_by : Blocks → ℕ → List TokenKind → Read (Statement × ℕ)
while_by lists n ts = do
  a ← mark_at m.OpenParenthesis ts
  c ← condition_at a.1
  z ← mark_at m.CloseParenthesis c.1
  b ← block_by lists (n + 1) z.1
  Ok ((While n c.0 b.0.0, b.0.1), b.1)

abbrev pub numbered_at : ℕ → List TokenKind → Read (Statement × ℕ)
numbered_at n ts = simple_at n ts >>= λ s. Ok ((s.0, n + 1), s.1)

unfoldable pub statement_by : Blocks → ℕ → List TokenKind → Read (Statement × ℕ)
statement_by lists n [] = numbered_at n []
statement_by lists n (k.Word word.If ∷ rest) = if_by lists n rest
statement_by lists n (k.Word word.While ∷ rest) = while_by lists n rest
statement_by lists n (t ∷ rest) = numbered_at n (t ∷ rest)

unfoldable pub statements_step : Steps ℕ (List Statement × ℕ)
statements_step = list_step begins_statement statement_by

abbrev pub statements_at : ℕ → List TokenKind → Read (List Statement × ℕ)
statements_at n ts = fix statements_step n ts

-- statements as a block
abbrev pub body_at : ℕ → List TokenKind → Read (Statements × ℕ)
body_at n ts = statements_at n ts >>= λ ss. Ok ((block_of ss.0.0, ss.0.1), ss.1)

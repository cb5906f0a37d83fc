-- Reading expressions and conditions from left to right, with one token ahead.
use Rattle.std.specs.Prelude.{ℕ, suc, List, [], ◌∷◌, length, Ok, Err, Option, Some, None}
use Rattle.imp_lex.specs.declared.token.Mark.{Mark}
use Rattle.imp_lex.specs.declared.token.Mark.TheVariants as m
use Rattle.imp_lex.specs.declared.token.Word.TheVariants as w
use Rattle.imp_lex.specs.declared.token.TokenKind.{TokenKind}
use Rattle.imp_lex.specs.declared.token.TokenKind.TheVariants as k
use Rattle.imp_syntax.specs.declared.words.Relation.{Relation}
use Rattle.imp_syntax.specs.Plain.{Expression, Literal, Variable, Length, Negative, Binary, Operand, Null, Value, Condition, Compare, Not, And, Or}
use Rattle.imp_parse.specs.Reader.{Unexpected, Read, ◌>>=◌, pick_at, Steps, fix}
use Rattle.imp_parse.specs.Tables.{is_mark, name_of, additive, multiplicative, relation_of, and_of, or_of}

abbrev pub mark_at : Mark → List TokenKind → Read (Unit {0})
mark_at wanted ts = pick_at (is_mark wanted) ts

abbrev pub name_at : List TokenKind → Read (List ℕ)
name_at ts = pick_at name_of ts

abbrev pub relation_at : List TokenKind → Read Relation
relation_at ts = pick_at relation_of ts

-- ---- chains of two ranks over units: what is read with calls of the same

-- a whole chain; a unit; what stands after a in a chain of the high rank, or of the low one
pub data Part (A : Type 0) : Type 0 where
  Whole : Part A
  Inner : Part A
  High : A → Part A
  Low : A → Part A

abbrev pub Parts : Type 0 → Type 0
Parts A = Part A → List TokenKind → Read A

abbrev pub tail_by : {A Op : Type 0} → Option Op → (Op → Read A) → A → List TokenKind → Read A
tail_by None more a ts = Ok (a, ts)
tail_by (Some op) more a ts = more op

-- no more, or an operator and what stands after it
abbrev pub chain_by : {A Op : Type 0} → (TokenKind → Option Op) → (Op → List TokenKind → Read A) → A → List TokenKind → Read A
chain_by ops more a [] = Ok (a, [])
chain_by ops more a (t ∷ rest) = tail_by (ops t) (λ op. more op rest) a (t ∷ rest)

-- a chain of the high rank
abbrev pub part_by : {A : Type 0} → (Parts A → List TokenKind → Read A) → Parts A → List TokenKind → Read A
part_by unit parts ts = unit parts ts >>= λ x. parts (High x.0) x.1

abbrev pub high_by : {A Op : Type 0} → (TokenKind → Option Op) → (Op → A → A → A) → (Parts A → List TokenKind → Read A) → Parts A → A → List TokenKind → Read A
high_by ops made unit parts a ts = chain_by ops (λ op rest. unit parts rest >>= λ x. parts (High (made op a x.0)) x.1) a ts

abbrev pub low_by : {A Op : Type 0} → (TokenKind → Option Op) → (Op → A → A → A) → (Parts A → List TokenKind → Read A) → Parts A → A → List TokenKind → Read A
low_by ops made unit parts a ts = chain_by ops (λ op rest. part_by unit parts rest >>= λ x. parts (Low (made op a x.0)) x.1) a ts

abbrev pub chain_step : {A Op : Type 0} → (high low : TokenKind → Option Op) → (made_high made_low : Op → A → A → A) → (Parts A → List TokenKind → Read A) → Steps (Part A) A
chain_step high low made_high made_low unit parts Whole ts = part_by unit parts ts >>= λ x. parts (Low x.0) x.1
chain_step high low made_high made_low unit parts Inner ts = unit parts ts
chain_step high low made_high made_low unit parts (High a) ts = high_by high made_high unit parts a ts
chain_step high low made_high made_low unit parts (Low a) ts = low_by low made_low unit parts a ts

-- ---- expressions

abbrev pub factor_by : Parts Expression → List TokenKind → Read Expression
factor_by parts [] = Err (Unexpected 0)
factor_by parts (k.Number n ∷ rest) = Ok (Literal n, rest)
factor_by parts (k.Name x ∷ rest) = Ok (Variable x, rest)
factor_by parts (k.Word w.Len ∷ rest) = name_at rest >>= λ x. Ok (Length x.0, x.1)
factor_by parts (k.Mark m.Minus ∷ rest) = parts Inner rest >>= λ x. Ok (Negative x.0, x.1)
factor_by parts (k.Mark m.OpenParenthesis ∷ rest) = parts Whole rest >>= λ x. mark_at m.CloseParenthesis x.1 >>= λ z. Ok (x.0, z.1)
factor_by parts (t ∷ rest) = Err (Unexpected (suc (length rest)))

unfoldable pub expression_step : Steps (Part Expression) Expression
expression_step = chain_step multiplicative additive Binary Binary factor_by

abbrev pub expression_at : List TokenKind → Read Expression
expression_at ts = fix expression_step Whole ts

abbrev pub factor_at : List TokenKind → Read Expression
factor_at ts = fix expression_step Inner ts

abbrev pub product_at : Expression → List TokenKind → Read Expression
product_at a ts = fix expression_step (High a) ts

abbrev pub sum_at : Expression → List TokenKind → Read Expression
sum_at a ts = fix expression_step (Low a) ts

abbrev pub term_at : List TokenKind → Read Expression
term_at ts = factor_at ts >>= λ x. product_at x.0 x.1

-- what stands after a left side, by its first token
abbrev pub product_by : Expression → List TokenKind → Read Expression
product_by a ts = chain_by multiplicative (λ op rest. factor_at rest >>= λ x. product_at (Binary op a x.0) x.1) a ts

abbrev pub sum_by : Expression → List TokenKind → Read Expression
sum_by a ts = chain_by additive (λ op rest. term_at rest >>= λ x. sum_at (Binary op a x.0) x.1) a ts

-- ---- conditions

abbrev pub value_at : List TokenKind → Read Operand
value_at ts = expression_at ts >>= λ x. Ok (Value x.0, x.1)

abbrev pub side_at : List TokenKind → Read Operand
side_at [] = value_at []
side_at (k.Word w.Null ∷ rest) = Ok (Null, rest)
side_at (t ∷ rest) = value_at (t ∷ rest)

abbrev pub compare_at : List TokenKind → Read Condition
compare_at ts = do
  a ← side_at ts
  r ← relation_at a.1
  b ← side_at r.1
  Ok (Compare r.0 a.0 b.0, b.1)

-- a condition and the parenthesis after it
abbrev pub grouped_by : Parts Condition → (Condition → Condition) → List TokenKind → Read Condition
grouped_by parts made ts = do
  c ← parts Whole ts
  z ← mark_at m.CloseParenthesis c.1
  Ok (made c.0, z.1)

abbrev pub unit_by : Parts Condition → List TokenKind → Read Condition
unit_by parts [] = compare_at []
unit_by parts (k.Mark m.Not ∷ rest) = mark_at m.OpenParenthesis rest >>= λ z. grouped_by parts (λ c. Not c) z.1
unit_by parts (k.Mark m.OpenParenthesis ∷ rest) = grouped_by parts (λ c. c) rest
unit_by parts (t ∷ rest) = compare_at (t ∷ rest)

unfoldable pub condition_step : Steps (Part Condition) Condition
condition_step = chain_step and_of or_of (λ u. And) (λ u. Or) unit_by

abbrev pub condition_at : List TokenKind → Read Condition
condition_at ts = fix condition_step Whole ts

abbrev pub unit_at : List TokenKind → Read Condition
unit_at ts = fix condition_step Inner ts

abbrev pub and_at : Condition → List TokenKind → Read Condition
and_at a ts = fix condition_step (High a) ts

abbrev pub or_at : Condition → List TokenKind → Read Condition
or_at a ts = fix condition_step (Low a) ts

abbrev pub conjunction_at : List TokenKind → Read Condition
conjunction_at ts = unit_at ts >>= λ x. and_at x.0 x.1

-- what stands after a left side, by its first token
abbrev pub and_by : Condition → List TokenKind → Read Condition
and_by a ts = chain_by and_of (λ op rest. unit_at rest >>= λ x. and_at (And a x.0) x.1) a ts

abbrev pub or_by : Condition → List TokenKind → Read Condition
or_by a ts = chain_by or_of (λ op rest. conjunction_at rest >>= λ x. or_at (Or a x.0) x.1) a ts

-- Parts of what is read, after what is read of it already.
use Rattle.std.specs.Prelude.{ℕ, List, Ok, Option, Some, None}
use Rattle.imp_lex.specs.declared.token.Mark.{Mark}
use Rattle.imp_lex.specs.declared.token.Mark.TheVariants as m
use Rattle.imp_lex.specs.declared.token.TokenKind.{TokenKind}
use Rattle.imp_syntax.specs.declared.words.Declaration.{Declaration}
use Rattle.imp_syntax.specs.Plain as plain
use Rattle.imp_syntax.specs.Plain.{Expression, Statement, Statements, Simple, Call, Procedure, block_of}
use Rattle.imp_parse.specs.Reader.{Read, ◌>>=◌}
use Rattle.imp_parse.specs.Reading.{mark_at, name_at, expression_at, condition_at}
use Rattle.imp_parse.specs.StatementReading.{invoke_at, rhs_at, statements_at}
use Rattle.imp_parse.specs.ProgramReading.{parameters_at, outcome_at, locals_at}

-- all is read
abbrev pub made_at : {A : Type 0} → A → List TokenKind → Read A
made_at a ts = Ok (a, ts)

-- the mark that closes
abbrev pub closed_at : {A : Type 0} → Mark → A → List TokenKind → Read A
closed_at wanted a ts = mark_at wanted ts >>= λ z. Ok (a, z.1)

-- ---- expressions that begin with a name, or with `len` before it

abbrev pub variable_at : List TokenKind → Read Expression
variable_at ts = name_at ts >>= λ x. Ok (plain.Variable x.0, x.1)

abbrev pub length_at : List TokenKind → Read Expression
length_at ts = name_at ts >>= λ x. Ok (plain.Length x.0, x.1)

-- ---- simple statements, with number n

abbrev pub element_rhs_at : ℕ → List ℕ → List ℕ → List TokenKind → Read Statement
element_rhs_at n x a ts = expression_at ts >>= λ e. mark_at m.CloseBracket e.1 >>= λ z. Ok (Simple n (plain.ReadElement x a e.0), z.1)

abbrev pub array_rhs_at : ℕ → List ℕ → List TokenKind → Read Statement
array_rhs_at n x ts = expression_at ts >>= λ e. Ok (Simple n (plain.MakeArray x e.0), e.1)

abbrev pub call_rhs_at : ℕ → List ℕ → List TokenKind → Read Statement
call_rhs_at n x ts = invoke_at ts >>= λ i. Ok (Call n (Some x) i.0.0 i.0.1, i.1)

abbrev pub write_next_at : ℕ → List ℕ → List TokenKind → Read Statement
write_next_at n p ts = mark_at m.Equals ts >>= λ a. name_at a.1 >>= λ q. mark_at m.Semicolon q.1 >>= λ z. Ok (Simple n (plain.WriteNext p q.0), z.1)

abbrev pub write_item_at : ℕ → List ℕ → List TokenKind → Read Statement
write_item_at n p ts = mark_at m.Equals ts >>= λ a. expression_at a.1 >>= λ e. mark_at m.Semicolon e.1 >>= λ z. Ok (Simple n (plain.WriteItem p e.0), z.1)

-- after a[e]
abbrev pub write_element_at : ℕ → List ℕ → Expression → List TokenKind → Read Statement
write_element_at n a e ts = mark_at m.Equals ts >>= λ q. expression_at q.1 >>= λ f. mark_at m.Semicolon f.1 >>= λ z. Ok (Simple n (plain.WriteElement a e f.0), z.1)

abbrev pub assignment_at : ℕ → List ℕ → List TokenKind → Read Statement
assignment_at n x ts = rhs_at n x ts >>= λ s. mark_at m.Semicolon s.1 >>= λ z. Ok (s.0, z.1)

abbrev pub assertion_at : ℕ → List TokenKind → Read Statement
assertion_at n ts = condition_at ts >>= λ c. mark_at m.Semicolon c.1 >>= λ z. Ok (Simple n (plain.Assert c.0), z.1)

abbrev pub plain_call_at : ℕ → List TokenKind → Read Statement
plain_call_at n ts = invoke_at ts >>= λ i. mark_at m.Semicolon i.1 >>= λ z. Ok (Call n None i.0.0 i.0.1, z.1)

-- ---- statements whose blocks are read, and the number after them

abbrev pub composed_at : Statement → ℕ → List TokenKind → Read (Statement × ℕ)
composed_at s next ts = Ok ((s, next), ts)

-- the brace after the statements of a block
abbrev pub closed_block_at : List Statement → ℕ → List TokenKind → Read (Statements × ℕ)
closed_block_at ss next ts = mark_at m.CloseBrace ts >>= λ z. Ok ((block_of ss, next), z.1)

-- ---- procedures, whose statements are numbered from n

-- after the locals
abbrev pub behind_locals_at : ℕ → List ℕ → List Declaration → Option Declaration → List Declaration → List TokenKind → Read (Procedure × ℕ)
behind_locals_at n x ps o ls ts = do
  ss ← statements_at n ts
  z ← mark_at m.CloseBrace ss.1
  Ok ((record { name = x; parameters = ps; outcome = o; locals = ls; body = block_of ss.0.0 }, ss.0.1), z.1)

-- after the outcome
abbrev pub behind_head_at : ℕ → List ℕ → List Declaration → Option Declaration → List TokenKind → Read (Procedure × ℕ)
behind_head_at n x ps o ts = do
  b ← mark_at m.OpenBrace ts
  ls ← locals_at b.1
  behind_locals_at n x ps o ls.0.0 ls.1

-- after the name and a parenthesis
abbrev pub behind_parenthesis_at : ℕ → List ℕ → List TokenKind → Read (Procedure × ℕ)
behind_parenthesis_at n x ts = do
  ps ← parameters_at ts
  o ← outcome_at ps.1
  behind_head_at n x ps.0 o.0 o.1

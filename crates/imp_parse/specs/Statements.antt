-- The grammar of statements: which tokens spell which statements, one case for each production. A statement's number stands before its tokens, the next number last.
use Rattle.std.specs.Prelude.{ℕ, ◌+◌, List, [], ◌∷◌, ◌++◌, Some, None}
use Rattle.imp_lex.specs.declared.token.Mark.TheVariants as m
use Rattle.imp_lex.specs.declared.token.Word.TheVariants as word
use Rattle.imp_lex.specs.declared.token.TokenKind.{TokenKind}
use Rattle.imp_lex.specs.declared.token.TokenKind.TheVariants as k
use Rattle.imp_syntax.specs.Plain as plain
use Rattle.imp_syntax.specs.Plain.{Expression, Operand, Condition, Statement, Simple, Break, Call, If, While, Statements, Ends, block_of}
use Rattle.imp_parse.specs.Grammar.{IsExpression, IsSide, IsCondition}

-- { "," side }
pub data IsSides : List TokenKind → List Operand → Type 0 where
  sides_end : IsSides [] []
  sides_more : {v w : List TokenKind} {e : Operand} {es : List Operand} → IsSide v e → IsSides w es → IsSides (k.Mark m.Comma ∷ (v ++ w)) (e ∷ es)

-- [ side { "," side } ] ")"
pub data IsArguments : List TokenKind → List Operand → Type 0 where
  no_arguments : IsArguments (k.Mark m.CloseParenthesis ∷ []) []
  arguments : {v w : List TokenKind} {e : Operand} {es : List Operand} → IsSide v e → IsSides w es → IsArguments (v ++ (w ++ k.Mark m.CloseParenthesis ∷ [])) (e ∷ es)

-- invoke = "call" name "(" [ side { "," side } ] ")", after its first word
pub data IsInvoke : List TokenKind → List ℕ × List Operand → Type 0 where
  invoke : {f : List ℕ} {w : List TokenKind} {es : List Operand} → IsArguments w es → IsInvoke (k.Name f ∷ k.Mark m.OpenParenthesis ∷ w) (f, es)

-- rhs = "input" | "array" expr | "null" | "new" | invoke | name "." "next" | name "." "item" | name "[" expr "]" | expr, as what is assigned to x
pub data IsAssigned (n : ℕ) (x : List ℕ) : List TokenKind → Statement → Type 0 where
  input : IsAssigned n x (k.Word word.Input ∷ []) (Simple n (plain.Input x))
  array : {w : List TokenKind} {e : Expression} → IsExpression w e → IsAssigned n x (k.Word word.Array ∷ w) (Simple n (plain.MakeArray x e))
  null : IsAssigned n x (k.Word word.Null ∷ []) (Simple n (plain.SetNull x))
  new : IsAssigned n x (k.Word word.New ∷ []) (Simple n (plain.MakeCell x))
  outcome : {w : List TokenKind} {f : List ℕ} {es : List Operand} → IsInvoke w (f, es) → IsAssigned n x (k.Word word.Call ∷ w) (Call n (Some x) f es)
  next : {q : List ℕ} → IsAssigned n x (k.Name q ∷ k.Mark m.Dot ∷ k.Word word.Next ∷ []) (Simple n (plain.ReadNext x q))
  item : {q : List ℕ} → IsAssigned n x (k.Name q ∷ k.Mark m.Dot ∷ k.Word word.Item ∷ []) (Simple n (plain.ReadItem x q))
  element : {a : List ℕ} {w : List TokenKind} {e : Expression} → IsExpression w e → IsAssigned n x (k.Name a ∷ k.Mark m.OpenBracket ∷ (w ++ k.Mark m.CloseBracket ∷ [])) (Simple n (plain.ReadElement x a e))
  value : {w : List TokenKind} {e : Expression} → IsExpression w e → IsAssigned n x w (Simple n (plain.Assign x e))

-- simple = "skip" ";" | "break" ";" | "assert" cond ";" | invoke ";" | name "=" rhs ";" | name "[" expr "]" "=" expr ";" | name "." "next" "=" name ";" | name "." "item" "=" expr ";"
pub data IsSimple (n : ℕ) : List TokenKind → Statement → Type 0 where
  skip : IsSimple n (k.Word word.Skip ∷ k.Mark m.Semicolon ∷ []) (Simple n plain.Skip)
  break : IsSimple n (k.Word word.Break ∷ k.Mark m.Semicolon ∷ []) (Break n)
  assert : {w : List TokenKind} {c : Condition} → IsCondition w c → IsSimple n (k.Word word.Assert ∷ (w ++ k.Mark m.Semicolon ∷ [])) (Simple n (plain.Assert c))
  call : {w : List TokenKind} {f : List ℕ} {es : List Operand} → IsInvoke w (f, es) → IsSimple n (k.Word word.Call ∷ (w ++ k.Mark m.Semicolon ∷ [])) (Call n None f es)
  assign : {x : List ℕ} {w : List TokenKind} {s : Statement} → IsAssigned n x w s → IsSimple n (k.Name x ∷ k.Mark m.Equals ∷ (w ++ k.Mark m.Semicolon ∷ [])) s
  write_element : {a : List ℕ} {v w : List TokenKind} {e f : Expression} → IsExpression v e → IsExpression w f
      → IsSimple n (k.Name a ∷ k.Mark m.OpenBracket ∷ (v ++ (k.Mark m.CloseBracket ∷ k.Mark m.Equals ∷ (w ++ k.Mark m.Semicolon ∷ [])))) (Simple n (plain.WriteElement a e f))
  write_next : {p q : List ℕ} → IsSimple n (k.Name p ∷ k.Mark m.Dot ∷ k.Word word.Next ∷ k.Mark m.Equals ∷ k.Name q ∷ k.Mark m.Semicolon ∷ []) (Simple n (plain.WriteNext p q))
  write_item : {p : List ℕ} {w : List TokenKind} {e : Expression} → IsExpression w e → IsSimple n (k.Name p ∷ k.Mark m.Dot ∷ k.Word word.Item ∷ k.Mark m.Equals ∷ (w ++ k.Mark m.Semicolon ∷ [])) (Simple n (plain.WriteItem p e))

mutual
  -- stmt = simple | "if" "(" cond ")" block [ "else" block ] | "while" "(" cond ")" block
  pub data IsStatement : ℕ → List TokenKind → Statement → ℕ → Type 0 where
    simple : {n : ℕ} {w : List TokenKind} {s : Statement} → IsSimple n w s → IsStatement n w s (n + 1)
    if_ : {n j : ℕ} {u v : List TokenKind} {c : Condition} {t : Statements} → IsCondition u c → IsBlock (n + 1) v t j → IsStatement n (k.Word word.If ∷ k.Mark m.OpenParenthesis ∷ (u ++ (k.Mark m.CloseParenthesis ∷ v))) (If n c t Ends) j
    if_else : {n i j : ℕ} {u v w : List TokenKind} {c : Condition} {t e : Statements} → IsCondition u c → IsBlock (n + 1) v t i → IsBlock i w e j
        → IsStatement n (k.Word word.If ∷ k.Mark m.OpenParenthesis ∷ (u ++ (k.Mark m.CloseParenthesis ∷ (v ++ (k.Word word.Else ∷ w))))) (If n c t e) j
    while : {n j : ℕ} {u v : List TokenKind} {c : Condition} {b : Statements} → IsCondition u c → IsBlock (n + 1) v b j → IsStatement n (k.Word word.While ∷ k.Mark m.OpenParenthesis ∷ (u ++ (k.Mark m.CloseParenthesis ∷ v))) (While n c b) j

  -- block = "{" { stmt } "}"
  pub data IsBlock : ℕ → List TokenKind → Statements → ℕ → Type 0 where
    block : {n j : ℕ} {w : List TokenKind} {ss : List Statement} → IsStatements n w ss j → IsBlock n (k.Mark m.OpenBrace ∷ (w ++ k.Mark m.CloseBrace ∷ [])) (block_of ss) j

  -- { stmt }
  pub data IsStatements : ℕ → List TokenKind → List Statement → ℕ → Type 0 where
    none : {n : ℕ} → IsStatements n [] [] n
    onward : {n i j : ℕ} {v w : List TokenKind} {s : Statement} {ss : List Statement} → IsStatement n v s i → IsStatements i w ss j → IsStatements n (v ++ w) (s ∷ ss) j

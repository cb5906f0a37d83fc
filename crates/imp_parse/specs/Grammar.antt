-- The grammar of expressions and conditions: which tokens spell which trees, one case for each production.
use Rattle.std.specs.Prelude.{◌≡◌, ℕ, Bool, true, false, List, [], ◌∷◌, ◌++◌, Some}
use Rattle.imp_lex.specs.declared.token.Mark.TheVariants as m
use Rattle.imp_lex.specs.declared.token.Word.TheVariants as w
use Rattle.imp_lex.specs.declared.token.TokenKind.{TokenKind}
use Rattle.imp_lex.specs.declared.token.TokenKind.TheVariants as k
use Rattle.imp_syntax.specs.declared.words.Operator.{Operator}
use Rattle.imp_syntax.specs.declared.words.Relation.{Relation}
use Rattle.imp_syntax.specs.Plain.{Expression, Literal, Variable, Length, Negative, Binary, Operand, Null, Value, Condition, Compare, Not, And, Or}
use Rattle.imp_parse.specs.Tables.{additive, multiplicative, relation_of}

mutual
  -- expr = term { ("+" | "-") term }
  pub data IsExpression : List TokenKind → Expression → Type 0 where
    sum : {v w : List TokenKind} {a e : Expression} → IsTerm v a → IsSum a w e → IsExpression (v ++ w) e

  -- after what spells a: no more, or an operator and one more term
  pub data IsSum : Expression → List TokenKind → Expression → Type 0 where
    sum_ends : {a : Expression} → IsSum a [] a
    sum_more : {a b e : Expression} {o : Operator} {t : TokenKind} {v w : List TokenKind} → additive t ≡ Some o → IsTerm v b → IsSum (Binary o a b) w e → IsSum a (t ∷ (v ++ w)) e

  -- term = factor { ("*" | "/" | "%") factor }
  pub data IsTerm : List TokenKind → Expression → Type 0 where
    product : {v w : List TokenKind} {a e : Expression} → IsFactor v a → IsProduct a w e → IsTerm (v ++ w) e

  pub data IsProduct : Expression → List TokenKind → Expression → Type 0 where
    product_ends : {a : Expression} → IsProduct a [] a
    product_more : {a b e : Expression} {o : Operator} {t : TokenKind} {v w : List TokenKind} → multiplicative t ≡ Some o → IsFactor v b → IsProduct (Binary o a b) w e → IsProduct a (t ∷ (v ++ w)) e

  -- factor = "-" factor | number | name | "len" name | "(" expr ")"
  pub data IsFactor : List TokenKind → Expression → Type 0 where
    negative : {u : List TokenKind} {a : Expression} → IsFactor u a → IsFactor (k.Mark m.Minus ∷ u) (Negative a)
    number : {n : ℕ} → IsFactor (k.Number n ∷ []) (Literal n)
    name : {x : List ℕ} → IsFactor (k.Name x ∷ []) (Variable x)
    length_of : {x : List ℕ} → IsFactor (k.Word w.Len ∷ k.Name x ∷ []) (Length x)
    group : {u : List TokenKind} {a : Expression} → IsExpression u a → IsFactor (k.Mark m.OpenParenthesis ∷ (u ++ k.Mark m.CloseParenthesis ∷ [])) a

-- side = "null" | expr
pub data IsSide : List TokenKind → Operand → Type 0 where
  null : IsSide (k.Word w.Null ∷ []) Null
  value : {u : List TokenKind} {e : Expression} → IsExpression u e → IsSide u (Value e)

-- the first token is (
abbrev pub begins_group : List TokenKind → Bool
begins_group [] = false
begins_group (k.Mark m.OpenParenthesis ∷ rest) = true
begins_group (t ∷ rest) = false

mutual
  -- cond = conj { "||" conj }
  pub data IsCondition : List TokenKind → Condition → Type 0 where
    disjunction : {v w : List TokenKind} {a c : Condition} → IsConjunction v a → IsOr a w c → IsCondition (v ++ w) c

  -- after what spells a: no more, or || and one more conjunction
  pub data IsOr : Condition → List TokenKind → Condition → Type 0 where
    or_ends : {a : Condition} → IsOr a [] a
    or_more : {a b c : Condition} {v w : List TokenKind} → IsConjunction v b → IsOr (Or a b) w c → IsOr a (k.Mark m.Or ∷ (v ++ w)) c

  -- conj = unit { "&&" unit }
  pub data IsConjunction : List TokenKind → Condition → Type 0 where
    conjunction : {v w : List TokenKind} {a c : Condition} → IsUnit v a → IsAnd a w c → IsConjunction (v ++ w) c

  pub data IsAnd : Condition → List TokenKind → Condition → Type 0 where
    and_ends : {a : Condition} → IsAnd a [] a
    and_more : {a b c : Condition} {v w : List TokenKind} → IsUnit v b → IsAnd (And a b) w c → IsAnd a (k.Mark m.And ∷ (v ++ w)) c

  -- unit = "!" "(" cond ")" | "(" cond ")" | side rel side, where the left side does not begin with (
  pub data IsUnit : List TokenKind → Condition → Type 0 where
    opposite : {u : List TokenKind} {c : Condition} → IsCondition u c → IsUnit (k.Mark m.Not ∷ k.Mark m.OpenParenthesis ∷ (u ++ k.Mark m.CloseParenthesis ∷ [])) (Not c)
    grouped : {u : List TokenKind} {c : Condition} → IsCondition u c → IsUnit (k.Mark m.OpenParenthesis ∷ (u ++ k.Mark m.CloseParenthesis ∷ [])) c
    compare : {v w : List TokenKind} (t : TokenKind) {a b : Operand} {r : Relation} → IsSide v a → begins_group v ≡ false → relation_of t ≡ Some r → IsSide w b → IsUnit (v ++ t ∷ w) (Compare r a b)

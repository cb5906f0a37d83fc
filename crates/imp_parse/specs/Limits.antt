-- How deep a token stands: nested blocks, and operators in one outermost expression or condition.
use Rattle.std.specs.Prelude.{ℕ, suc, ◌+◌, ◌-◌, ◌≤◌, Bool, true, false, nat_lt, not, List, [], ◌∷◌, Option, Some, None, option_map, if◌then◌else◌}
use Rattle.imp_lex.specs.declared.token.Mark.TheVariants as m
use Rattle.imp_lex.specs.declared.token.Word.TheVariants as word
use Rattle.imp_lex.specs.declared.token.TokenKind.{TokenKind}
use Rattle.imp_lex.specs.declared.token.TokenKind.TheVariants as k
use Rattle.imp_parse.specs.declared.limits.Nesting.{Nesting}
use Rattle.imp_parse.specs.declared.limits.Role.{Role}
use Rattle.imp_parse.specs.declared.limits.Role.TheVariants as r

-- how deep blocks nest, and how many operators an outermost expression or condition has, at most
abbrev pub most : ℕ
most = 32

-- what a token is to the budgets
unfoldable pub role_of : TokenKind → Role
role_of (k.Mark m.OpenParenthesis) = r.Parenthesis
role_of (k.Mark m.OpenBrace) = r.Opening
role_of (k.Mark m.CloseBrace) = r.Closing
role_of (k.Mark m.Plus) = r.Operator
role_of (k.Mark m.Minus) = r.Operator
role_of (k.Mark m.Star) = r.Operator
role_of (k.Mark m.Slash) = r.Operator
role_of (k.Mark m.Percent) = r.Operator
role_of (k.Mark m.Not) = r.Operator
role_of (k.Mark m.And) = r.Operator
role_of (k.Mark m.Or) = r.Operator
role_of (k.Mark m.EqualTo) = r.Operator
role_of (k.Mark m.NotEqualTo) = r.Operator
role_of (k.Mark m.Less) = r.Operator
role_of (k.Mark m.AtMost) = r.Operator
role_of (k.Mark m.Greater) = r.Operator
role_of (k.Mark m.AtLeast) = r.Operator
role_of (k.Mark m.Semicolon) = r.Separator
role_of (k.Mark m.Comma) = r.Separator
role_of (k.Mark m.Equals) = r.Separator
role_of (k.Mark m.OpenBracket) = r.Separator
role_of (k.Mark m.CloseBracket) = r.Separator
role_of (k.Word word.If) = r.Head
role_of (k.Word word.While) = r.Head
role_of (k.Word word.Call) = r.Head
role_of (k.Word word.Proc) = r.Head
role_of t = r.Plain

-- depth: how many braces are open; used: the operators so far; heads: the next ( belongs to an if, while, call or proc, and is no operator
abbrev pub place : ℕ → ℕ → Bool → Nesting
place depth used heads = record { depth = depth; used = used; heads = heads }

-- where one stands after a token
abbrev pub next : Nesting → Role → Nesting
next p r.Parenthesis = place p.depth (if p.heads then 0 else p.used + 1) false
next p r.Opening = place (p.depth + 1) 0 false
next p r.Closing = place (p.depth - 1) 0 false
next p r.Operator = place p.depth (p.used + 1) false
next p r.Separator = place p.depth 0 false
next p r.Head = place p.depth 0 true
next p r.Plain = p

-- the { of a block nested too deep, or one operator too many
abbrev pub exceeds : Nesting → Role → Bool
exceeds p r.Parenthesis = if p.heads then false else not (nat_lt p.used most)
exceeds p r.Opening = nat_lt most p.depth
exceeds p r.Closing = false
exceeds p r.Operator = not (nat_lt p.used most)
exceeds p r.Separator = false
exceeds p r.Head = false
exceeds p r.Plain = false

-- the first token that is too deep, counted from 0
abbrev pub too_deep : Nesting → List TokenKind → Option ℕ
too_deep p [] = None
too_deep p (t ∷ ts) = if exceeds p (role_of t) then Some 0 else option_map suc (too_deep (next p (role_of t)) ts)

-- no more braces are open, and no more operators counted, than the budgets and one brace more
pub record IsRoom (p : Nesting) : Type 0 where
  pub depth : p.depth ≤ most + 1
  pub used : p.used ≤ most

-- where a program or a procedure begins, and where statements or a condition do
abbrev pub outside : Nesting
outside = place 0 0 false

abbrev pub inside : Nesting
inside = place 1 0 false

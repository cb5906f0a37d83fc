-- What single tokens are.
use Rattle.std.specs.Prelude.{ℕ, Bool, List, Option, Some, None, if◌then◌else◌}
use denote.Enum.Bare.{sameb}
use Rattle.imp_lex.specs.contracts.token.Mark.{the_type}
use Rattle.imp_lex.specs.declared.token.Mark.{Mark}
use Rattle.imp_lex.specs.declared.token.Mark.TheVariants as m
use Rattle.imp_lex.specs.declared.token.Word.TheVariants as w
use Rattle.imp_lex.specs.declared.token.TokenKind.{TokenKind}
use Rattle.imp_lex.specs.declared.token.TokenKind.TheVariants as k
use Rattle.imp_syntax.specs.declared.words.Operator.{Operator}
use Rattle.imp_syntax.specs.declared.words.Operator.TheVariants as o
use Rattle.imp_syntax.specs.declared.words.Relation.{Relation}
use Rattle.imp_syntax.specs.declared.words.Relation.TheVariants as r
use Rattle.imp_syntax.specs.declared.words.VariableKind as kinds
use Rattle.imp_syntax.specs.declared.words.VariableKind.TheVariants as v

-- == on marks
unfoldable pub same_mark : Mark → Mark → Bool
same_mark = sameb the_type

abbrev pub is_mark : Mark → TokenKind → Option (Unit {0})
is_mark wanted (k.Mark found) = if same_mark found wanted then Some tt else None
is_mark wanted (k.Word found) = None
is_mark wanted (k.Name x) = None
is_mark wanted (k.Number n) = None

abbrev pub name_of : TokenKind → Option (List ℕ)
name_of (k.Name x) = Some x
name_of (k.Mark found) = None
name_of (k.Word found) = None
name_of (k.Number n) = None

-- "int" | "array" | "list"
abbrev pub kind_of : TokenKind → Option kinds.VariableKind
kind_of (k.Word w.Int) = Some v.Int
kind_of (k.Word w.Array) = Some v.Array
kind_of (k.Word w.List) = Some v.List
kind_of t = None

-- "+" | "-"
abbrev pub additive : TokenKind → Option Operator
additive (k.Mark m.Plus) = Some o.Add
additive (k.Mark m.Minus) = Some o.Subtract
additive t = None

-- "*" | "/" | "%"
abbrev pub multiplicative : TokenKind → Option Operator
multiplicative (k.Mark m.Star) = Some o.Multiply
multiplicative (k.Mark m.Slash) = Some o.Divide
multiplicative (k.Mark m.Percent) = Some o.Remainder
multiplicative t = None

-- "==" | "!=" | "<" | "<=" | ">" | ">="
abbrev pub relation_of : TokenKind → Option Relation
relation_of (k.Mark m.EqualTo) = Some r.Equal
relation_of (k.Mark m.NotEqualTo) = Some r.NotEqual
relation_of (k.Mark m.Less) = Some r.Less
relation_of (k.Mark m.AtMost) = Some r.AtMost
relation_of (k.Mark m.Greater) = Some r.Greater
relation_of (k.Mark m.AtLeast) = Some r.AtLeast
relation_of t = None

-- "&&"
abbrev pub and_of : TokenKind → Option (Unit {0})
and_of (k.Mark m.And) = Some tt
and_of t = None

-- "||"
abbrev pub or_of : TokenKind → Option (Unit {0})
or_of (k.Mark m.Or) = Some tt
or_of t = None

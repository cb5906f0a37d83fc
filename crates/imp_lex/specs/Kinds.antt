-- The token that a whole text is: a reserved word, a name, a number or a mark.
use Rattle.std.specs.Prelude.{ℕ, nat_le, ◌==◌, List, [], ◌∷◌, length, Option, Some, None, codes, if◌then◌else◌}
use Rattle.std.specs.Str.{bytes_eq}
use Rattle.imp_lex.specs.declared.token.Word.{Word}
use Rattle.imp_lex.specs.declared.token.Word.TheVariants as w
use Rattle.imp_lex.specs.declared.token.Mark.{Mark}
use Rattle.imp_lex.specs.declared.token.Mark.TheVariants as m
use Rattle.imp_lex.specs.declared.token.TokenKind.{TokenKind}
use Rattle.imp_lex.specs.declared.token.TokenKind.TheVariants as k
use Rattle.base_values.specs.Numbers.{greatest}
use Rattle.imp_lex.specs.Numbers.{value_on}

-- what stands beside a text in a table
abbrev pub look_up : {A : Type 0} → List ℕ → List (List ℕ × A) → Option A
look_up text [] = None
look_up text (entry ∷ entries) = if bytes_eq text entry.0 then Some entry.1 else look_up text entries

-- the entries of a table whose texts have this length
abbrev pub of_length : {A : Type 0} → ℕ → List (List ℕ × A) → List (List ℕ × A)
of_length n [] = []
of_length n (entry ∷ entries) = if length entry.0 == n then entry ∷ of_length n entries else of_length n entries

-- the reserved words
abbrev pub reserved_words : List (List ℕ × Word)
reserved_words =
    (codes "proc", w.Proc) ∷ (codes "var", w.Var) ∷ (codes "int", w.Int) ∷ (codes "array", w.Array) ∷ (codes "list", w.List) ∷
    (codes "skip", w.Skip) ∷ (codes "input", w.Input) ∷ (codes "null", w.Null) ∷ (codes "new", w.New) ∷ (codes "next", w.Next) ∷
    (codes "item", w.Item) ∷ (codes "assert", w.Assert) ∷ (codes "if", w.If) ∷ (codes "else", w.Else) ∷ (codes "while", w.While) ∷
    (codes "call", w.Call) ∷ (codes "len", w.Len) ∷ (codes "break", w.Break) ∷ []

unfoldable pub reserved_word : List ℕ → Option Word
reserved_word word = look_up word reserved_words

-- the most bytes of a name
abbrev pub most_name_bytes : ℕ
most_name_bytes = 32

-- a name, or nothing where the text is too long
abbrev pub name_kind : List ℕ → Option TokenKind
name_kind word = if nat_le (length word) most_name_bytes then Some (k.Name word) else None

abbrev pub word_or_name : Option Word → List ℕ → Option TokenKind
word_or_name (Some reserved) word = Some (k.Word reserved)
word_or_name None word = name_kind word

-- a reserved word, and else a name
unfoldable pub word_kind : List ℕ → Option TokenKind
word_kind word = word_or_name (reserved_word word) word

-- the number of these digits, or nothing where it is too big
unfoldable pub number_kind : List ℕ → Option TokenKind
number_kind digits = if nat_le (value_on 0 digits) greatest then Some (k.Number (value_on 0 digits)) else None

-- the marks of two bytes
abbrev pub long_marks : List (List ℕ × Mark)
long_marks =
    (codes "->", m.Arrow) ∷ (codes "==", m.EqualTo) ∷ (codes "!=", m.NotEqualTo) ∷ (codes "<=", m.AtMost) ∷ (codes ">=", m.AtLeast) ∷
    (codes "&&", m.And) ∷ (codes "||", m.Or) ∷ []

-- the marks of one byte
abbrev pub short_marks : List (List ℕ × Mark)
short_marks =
    (codes "(", m.OpenParenthesis) ∷ (codes ")", m.CloseParenthesis) ∷ (codes "{", m.OpenBrace) ∷ (codes "}", m.CloseBrace) ∷
    (codes "[", m.OpenBracket) ∷ (codes "]", m.CloseBracket) ∷ (codes ":", m.Colon) ∷ (codes ";", m.Semicolon) ∷ (codes ",", m.Comma) ∷
    (codes ".", m.Dot) ∷ (codes "=", m.Equals) ∷ (codes "<", m.Less) ∷ (codes ">", m.Greater) ∷ (codes "+", m.Plus) ∷ (codes "-", m.Minus) ∷
    (codes "*", m.Star) ∷ (codes "/", m.Slash) ∷ (codes "%", m.Percent) ∷ (codes "!", m.Not) ∷ []

unfoldable pub mark_of : List ℕ → Option Mark
mark_of [] = None
mark_of (b ∷ []) = look_up (b ∷ []) short_marks
mark_of (b ∷ c ∷ rest) = look_up (b ∷ c ∷ rest) long_marks

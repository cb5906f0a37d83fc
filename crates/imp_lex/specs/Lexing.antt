-- The tokens of a text, or its first fault.
use Rattle.std.specs.Prelude.{◌≡◌, ℕ, ◌+◌, ◌-◌, ◌≤◌, ◌<◌, Result, Ok, Err, List, [], ◌∷◌, length, take, drop, true, Some, None, ◌⊎◌}
use Rattle.std.specs.List.{list_all}
use Rattle.imp_lex.specs.declared.token.TokenKind.{TokenKind}
use Rattle.imp_lex.specs.declared.token.TokenKind.TheVariants as k
use Rattle.imp_lex.specs.declared.token.Token.{Token}
use Rattle.imp_lex.specs.declared.error.Fault.{Fault}
use Rattle.imp_lex.specs.declared.error.Fault.TheVariants as f
use Rattle.imp_lex.specs.declared.error.LexError.{LexError}
use Rattle.imp_lex.specs.declared.error.LexError.TheVariants as e
use Rattle.imp_lex.specs.declared.front.Front.TheVariants as p
use Rattle.imp_lex.specs.Numbers.{value_on}
use Rattle.imp_lex.specs.Kinds.{reserved_word, mark_of, most_name_bytes}
use Rattle.imp_lex.specs.Front.{front_of, is_letter, is_digit, is_word}

-- a token of n bytes that begins here
abbrev pub token_at : ℕ → ℕ → TokenKind → Token
token_at at n kind = record { kind = kind; span = record { start = at; end = at + n } }

-- the text, which stands from this place on, has these tokens
pub data IsLexed : ℕ → List ℕ → List Token → Type 0 where
  done : {at : ℕ} {text : List ℕ} → front_of text ≡ p.End → IsLexed at text []
  skip : {at n : ℕ} {text : List ℕ} {tokens : List Token} → front_of text ≡ p.Skip n → IsLexed (at + n) (drop n text) tokens → IsLexed at text tokens
  word : {at n : ℕ} {kind : TokenKind} {text : List ℕ} {tokens : List Token} → front_of text ≡ p.Takes n kind → IsLexed (at + n) (drop n text) tokens → IsLexed at text (token_at at n kind ∷ tokens)

-- the text, which stands from this place on, has this fault at that place first
pub data IsFaulty : ℕ → List ℕ → Fault → ℕ → Type 0 where
  here : {at : ℕ} {fault : Fault} {text : List ℕ} → front_of text ≡ p.Bad fault → IsFaulty at text fault at
  pass : {at n place : ℕ} {fault : Fault} {text : List ℕ} → front_of text ≡ p.Skip n → IsFaulty (at + n) (drop n text) fault place → IsFaulty at text fault place
  past : {at n place : ℕ} {kind : TokenKind} {fault : Fault} {text : List ℕ} → front_of text ≡ p.Takes n kind → IsFaulty (at + n) (drop n text) fault place → IsFaulty at text fault place

-- a fault as an error
abbrev pub error_at : Fault → ℕ → LexError
error_at f.BadByte place = e.BadByte place
error_at f.NumberTooBig place = e.NumberTooBig place
error_at f.NameTooLong place = e.NameTooLong place

-- the error is the first fault of the text, unless it is out of memory
abbrev pub IsFault : List ℕ → LexError → Type 0
IsFault text (e.BadByte place) = IsFaulty 0 text f.BadByte place
IsFault text (e.NumberTooBig place) = IsFaulty 0 text f.NumberTooBig place
IsFault text (e.NameTooLong place) = IsFaulty 0 text f.NameTooLong place
IsFault text e.Memory = Unit {0}

-- tokens or an error
abbrev pub Answer : Type 0
Answer = Result (List Token) LexError

-- what the text has: its tokens, or its first fault
abbrev pub IsAnswer : List ℕ → Answer → Type 0
IsAnswer text (Ok tokens) = IsLexed 0 text tokens
IsAnswer text (Err e.Memory) = ⊥
IsAnswer text (Err error) = IsFault text error

-- what the text has is the answer, unless memory is wanting
abbrev pub IsOnlyAnswer : List ℕ → Answer → Type 0
IsOnlyAnswer text answer = (other : Answer) → IsAnswer text other → (answer ≡ other) ⊎ (answer ≡ Err e.Memory)

-- each text has an answer, and no other
abbrev pub HasOneAnswer : Type 0
HasOneAnswer = (text : List ℕ) → (answer : Answer) × IsAnswer text answer × ((other : Answer) → IsAnswer text other → other ≡ answer)

-- the spans are in order from this place on, none empty, and end within so many bytes
abbrev pub AreInOrder : ℕ → ℕ → List Token → Type 0
AreInOrder from most [] = Unit {0}
AreInOrder from most (token ∷ tokens) = (from ≤ token.span.start) × (token.span.start < token.span.end) × (token.span.end ≤ most) × AreInOrder token.span.end most tokens

-- a letter and bytes of a word after it, no reserved word, and not too long
abbrev pub IsName : List ℕ → Type 0
IsName [] = ⊥
IsName (b ∷ rest) = (is_letter b ≡ true) × (list_all is_word rest ≡ true) × (reserved_word (b ∷ rest) ≡ None) × (length (b ∷ rest) ≤ most_name_bytes)

-- the bytes are those of such a token
abbrev pub Spells : List ℕ → TokenKind → Type 0
Spells bytes (k.Word reserved) = reserved_word bytes ≡ Some reserved
Spells bytes (k.Mark mark) = mark_of bytes ≡ Some mark
Spells bytes (k.Name name) = (bytes ≡ name) × IsName bytes
Spells bytes (k.Number value) = (list_all is_digit bytes ≡ true) × (value_on 0 bytes ≡ value)

-- the bytes of the token's span are those of its kind
abbrev pub IsSpelled : List ℕ → Token → Type 0
IsSpelled text token = Spells (take (token.span.end - token.span.start) (drop token.span.start text)) token.kind

-- What a text of a language is: its tree, or its fault.
use Rattle.std.specs.Prelude.{◌≡◌, ◌⊎◌, ℕ, ◌+◌, List, take, Some, None, Result, Ok, Err}
use Rattle.imp_lex.specs.declared.token.Token.{Token}
use Rattle.imp_lex.specs.declared.token.TokenKind.{TokenKind}
use Rattle.imp_lex.specs.Lexing as lexing
use Rattle.imp_parse.specs.declared.error.ParseError.{ParseError}
use Rattle.imp_parse.specs.declared.error.ParseError.TheVariants as e
use Rattle.imp_parse.specs.declared.limits.Nesting.{Nesting}
use Rattle.imp_parse.specs.Kinds.{kinds}
use Rattle.imp_parse.specs.Language.{Language, Opens, IsStuck}
use Rattle.imp_parse.specs.Limits.{too_deep}

-- no token is too deep
abbrev pub Fits : Nesting → List TokenKind → Type 0
Fits start ts = too_deep start ts ≡ None

-- what the tokens are: a text of the language within the budgets; or a text up to token i, and no further; or a text so far with token i, which is the first too deep
abbrev pub IsTokenAnswer : {A : Type 0} → Language A → Nesting → List TokenKind → Result A ParseError → Type 0
IsTokenAnswer G start ts (Ok tree) = G ts tree × Fits start ts
IsTokenAnswer G start ts (Err (e.Unexpected i)) = IsStuck G ts i × Fits start (take i ts)
IsTokenAnswer G start ts (Err (e.TooDeep i)) = (too_deep start ts ≡ Some i) × Opens G (take (i + 1) ts)
IsTokenAnswer G start ts (Err (e.Lex fault)) = ⊥
IsTokenAnswer G start ts (Err e.Memory) = ⊥

abbrev pub OfTokens : {A : Type 0} → Language A → Nesting → List ℕ → Result A ParseError → Type 0
OfTokens G start text answer = (tokens : List Token) × lexing.IsLexed 0 text tokens × IsTokenAnswer G start (kinds tokens) answer

-- what the text is: its first lexical fault, and else what its tokens are
abbrev pub IsAnswer : {A : Type 0} → Language A → Nesting → List ℕ → Result A ParseError → Type 0
IsAnswer G start text (Ok tree) = OfTokens G start text (Ok tree)
IsAnswer G start text (Err (e.Lex fault)) = lexing.IsAnswer text (Err fault)
IsAnswer G start text (Err (e.Unexpected i)) = OfTokens G start text (Err (e.Unexpected i))
IsAnswer G start text (Err (e.TooDeep i)) = OfTokens G start text (Err (e.TooDeep i))
IsAnswer G start text (Err e.Memory) = ⊥

-- the text has this tree, within the budgets
abbrev pub HasTree : {A : Type 0} → Language A → Nesting → List ℕ → A → Type 0
HasTree G start text tree = IsAnswer G start text (Ok tree)

-- the error is the fault of the text, unless it is out of memory
abbrev pub IsFault : {A : Type 0} → Language A → Nesting → List ℕ → ParseError → Type 0
IsFault {A = A} G start text e.Memory = Unit {0}
IsFault {A = A} G start text (e.Lex fault) = IsAnswer {A = A} G start text (Err (e.Lex fault))
IsFault {A = A} G start text (e.Unexpected i) = IsAnswer {A = A} G start text (Err (e.Unexpected i))
IsFault {A = A} G start text (e.TooDeep i) = IsAnswer {A = A} G start text (Err (e.TooDeep i))

-- what the text is is the answer, unless memory is wanting
abbrev pub IsOnlyAnswer : {A : Type 0} → Language A → Nesting → List ℕ → Result A ParseError → Type 0
IsOnlyAnswer {A = A} G start text answer = (other : Result A ParseError) → IsAnswer G start text other → (answer ≡ other) ⊎ (answer ≡ Err e.Memory)

-- each text has an answer, and no other
abbrev pub HasOneAnswer : {A : Type 0} → Language A → Nesting → Type 0
HasOneAnswer {A = A} G start = (text : List ℕ) → (answer : Result A ParseError) × IsAnswer G start text answer × ((other : Result A ParseError) → IsAnswer G start text other → other ≡ answer)

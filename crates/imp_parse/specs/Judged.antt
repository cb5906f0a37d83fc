-- From what a reader answers to what the text is.
use Rattle.std.specs.Prelude.{◌≡◌, ℕ, zero, suc, ◌+◌, ◌-◌, List, [], ◌∷◌, length, take, Option, Some, None, Result, Ok, Err}
use Rattle.imp_lex.specs.declared.token.TokenKind.{TokenKind}
use Rattle.imp_lex.specs.declared.error.LexError.{LexError}
use Rattle.imp_lex.specs.declared.error.LexError.TheVariants as lex
use Rattle.imp_parse.specs.declared.error.Stopped.{Stopped}
use Rattle.imp_parse.specs.declared.error.Stopped.TheVariants as s
use Rattle.imp_parse.specs.declared.error.ParseError.{ParseError}
use Rattle.imp_parse.specs.declared.error.ParseError.TheVariants as e
use Rattle.imp_parse.specs.Reader.{Stop, Unexpected, Read}

-- the error is where reading stops, or out of memory
abbrev pub Fails : {A : Type 0} → Stopped → Result A Stop → Type 0
Fails s.Memory read = Unit {0}
Fails (s.Unexpected left) read = read ≡ Err (Unexpected left)

-- what a function returned, seen by view, is what reading gives, unless memory ran out
abbrev pub Gives : {X A : Type 0} → (X → A) → Result X Stopped → Result A Stop → Type 0
Gives view (Ok x) read = read ≡ Ok (view x)
Gives view (Err error) read = Fails error read

-- nothing may be left
abbrev pub finished : {A : Type 0} → Read A → Result A Stop
finished (Ok (a, [])) = Ok a
finished (Ok (a, t ∷ rest)) = Err (Unexpected (suc (length rest)))
finished (Err stop) = Err stop

-- all tokens up to the first that is too deep, with it
abbrev pub cut : Option ℕ → List TokenKind → List TokenKind
cut None ts = ts
cut (Some i) ts = take (i + 1) ts

-- the answer, where the first token too deep is known, and the tokens up to it were read
abbrev pub stuck_before : ℕ → ℕ → ParseError
stuck_before i zero = e.TooDeep i
stuck_before i (suc left) = e.Unexpected (i - left)

abbrev pub judged : {A : Type 0} → Option ℕ → ℕ → Result A Stopped → Result A ParseError
judged None total (Ok tree) = Ok tree
judged None total (Err (s.Unexpected left)) = Err (e.Unexpected (total - left))
judged (Some i) total (Ok tree) = Err (e.TooDeep i)
judged (Some i) total (Err (s.Unexpected left)) = Err (stuck_before i left)
judged deep total (Err s.Memory) = Err e.Memory

-- a lexical error as an error
abbrev pub of_lex : LexError → ParseError
of_lex lex.Memory = e.Memory
of_lex fault = e.Lex fault

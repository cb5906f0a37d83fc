-- What is known of a text whose tokens were read.
use Rattle.std.specs.Prelude.{◌≡◌, ℕ, ◌≤◌, List, length, Ok, Err}
use Rattle.imp_lex.specs.declared.error.LexError.{LexError}
use Rattle.imp_lex.specs.Lexing as lexing
use Rattle.imp_parse.specs.declared.error.ParseError.{ParseError}
use Rattle.imp_parse.specs.declared.limits.Nesting.{Nesting}
use Rattle.imp_parse.specs.declared.scanned.Scanned.{Scanned}
use Rattle.imp_parse.specs.Judged.{of_lex}
use Rattle.imp_parse.specs.Kinds.{kinds}
use Rattle.imp_parse.specs.Limits.{too_deep}

-- these are the text's tokens, and the first of them that is too deep
pub record IsScanned (start : Nesting) (text : List ℕ) (scanned : Scanned) : Type 0 where
  pub lexed : lexing.IsLexed 0 text scanned.tokens
  pub only : lexing.IsOnlyAnswer text (Ok scanned.tokens)
  pub deep : scanned.deep ≡ too_deep start (kinds scanned.tokens)
  pub few : length scanned.tokens ≤ length text

-- the text's first lexical fault, or out of memory
pub record IsLexicalFault (text : List ℕ) (error : ParseError) : Type 0 where
  pub fault : LexError
  pub is : error ≡ of_lex fault
  pub faulty : lexing.IsFault text fault
  pub only : lexing.IsOnlyAnswer text (Err fault)

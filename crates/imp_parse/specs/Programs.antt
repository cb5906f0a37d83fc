-- The grammar of procedures and programs.
use Rattle.std.specs.Prelude.{◌≡◌, ℕ, List, [], ◌∷◌, ◌++◌, Option, Some, None}
use Rattle.imp_lex.specs.declared.token.Mark.TheVariants as m
use Rattle.imp_lex.specs.declared.token.Word.TheVariants as word
use Rattle.imp_lex.specs.declared.token.TokenKind.{TokenKind}
use Rattle.imp_lex.specs.declared.token.TokenKind.TheVariants as k
use Rattle.imp_syntax.specs.declared.words.VariableKind as kinds
use Rattle.imp_syntax.specs.declared.words.Declaration.{Declaration}
use Rattle.imp_syntax.specs.Plain.{Statement, Procedure, block_of}
use Rattle.imp_parse.specs.Tables.{kind_of}
use Rattle.imp_parse.specs.Statements.{IsStatements}

-- param = name ":" ( "int" | "array" | "list" )
pub data IsDeclaration : List TokenKind → Declaration → Type 0 where
  declaration : {x : List ℕ} (t : TokenKind) {kind : kinds.VariableKind} → kind_of t ≡ Some kind → IsDeclaration (k.Name x ∷ k.Mark m.Colon ∷ t ∷ []) (record { name = x; kind = kind })

-- { "," param }
pub data IsDeclarations : List TokenKind → List Declaration → Type 0 where
  declarations_end : IsDeclarations [] []
  declarations_more : {v w : List TokenKind} {d : Declaration} {ds : List Declaration} → IsDeclaration v d → IsDeclarations w ds → IsDeclarations (k.Mark m.Comma ∷ (v ++ w)) (d ∷ ds)

-- [ param { "," param } ] ")"
pub data IsParameters : List TokenKind → List Declaration → Type 0 where
  no_parameters : IsParameters (k.Mark m.CloseParenthesis ∷ []) []
  parameters : {v w : List TokenKind} {d : Declaration} {ds : List Declaration} → IsDeclaration v d → IsDeclarations w ds → IsParameters (v ++ (w ++ k.Mark m.CloseParenthesis ∷ [])) (d ∷ ds)

-- [ "->" param ]
pub data IsOutcome : List TokenKind → Option Declaration → Type 0 where
  no_outcome : IsOutcome [] None
  outcome : {w : List TokenKind} {d : Declaration} → IsDeclaration w d → IsOutcome (k.Mark m.Arrow ∷ w) (Some d)

-- { "var" param ";" }
pub data IsLocals : List TokenKind → List Declaration → Type 0 where
  locals_end : IsLocals [] []
  locals_more : {v w : List TokenKind} {d : Declaration} {ds : List Declaration} → IsDeclaration v d → IsLocals w ds → IsLocals (k.Word word.Var ∷ ((v ++ k.Mark m.Semicolon ∷ []) ++ w)) (d ∷ ds)

-- proc = "proc" name "(" [ param { "," param } ] ")" [ "->" param ] "{" { "var" param ";" } { stmt } "}"
pub data IsProcedure : ℕ → List TokenKind → Procedure → ℕ → Type 0 where
  procedure : {n j : ℕ} {x : List ℕ} {u v w y : List TokenKind} {ps ls : List Declaration} {o : Option Declaration} {ss : List Statement} → IsParameters u ps → IsOutcome v o → IsLocals w ls → IsStatements n y ss j
      → IsProcedure n (k.Word word.Proc ∷ k.Name x ∷ k.Mark m.OpenParenthesis ∷ (u ++ (v ++ (k.Mark m.OpenBrace ∷ (w ++ (y ++ k.Mark m.CloseBrace ∷ [])))))) (record { name = x; parameters = ps; outcome = o; locals = ls; body = block_of ss }) j

-- { proc }
pub data IsProcedures : ℕ → List TokenKind → List Procedure → ℕ → Type 0 where
  procedures_end : {n : ℕ} → IsProcedures n [] [] n
  procedures_more : {n i j : ℕ} {v w : List TokenKind} {p : Procedure} {ps : List Procedure} → IsProcedure n v p i → IsProcedures i w ps j → IsProcedures n (v ++ w) (p ∷ ps) j

-- program = proc { proc }, numbered from 1
pub data IsProgram : List TokenKind → List Procedure → Type 0 where
  program : {i j : ℕ} {v w : List TokenKind} {p : Procedure} {ps : List Procedure} → IsProcedure 1 v p i → IsProcedures i w ps j → IsProgram (v ++ w) (p ∷ ps)

-- Reading procedures and programs from left to right, with one token ahead.
use Rattle.std.specs.Prelude.{ℕ, suc, Bool, true, false, List, [], ◌∷◌, length, Ok, Err, Option, Some, None}
use Rattle.imp_lex.specs.declared.token.Mark.TheVariants as m
use Rattle.imp_lex.specs.declared.token.Word.TheVariants as word
use Rattle.imp_lex.specs.declared.token.TokenKind.{TokenKind}
use Rattle.imp_lex.specs.declared.token.TokenKind.TheVariants as k
use Rattle.imp_syntax.specs.declared.words.VariableKind as kinds
use Rattle.imp_syntax.specs.declared.words.Declaration.{Declaration}
use Rattle.imp_syntax.specs.Plain.{Procedure, block_of}
use Rattle.imp_parse.specs.Reader.{Unexpected, Read, ◌>>=◌, pick_at, Steps, fix}
use Rattle.imp_parse.specs.Tables.{kind_of}
use Rattle.imp_parse.specs.Reading.{mark_at, name_at}
use Rattle.imp_parse.specs.Lists.{Lists, list_step, with_front}
use Rattle.imp_parse.specs.Commas.{listed_at}
use Rattle.imp_parse.specs.StatementReading.{statements_at}

abbrev pub kind_at : List TokenKind → Read kinds.VariableKind
kind_at ts = pick_at kind_of ts

unfoldable pub declaration_at : List TokenKind → Read Declaration
declaration_at ts = do
  x ← name_at ts
  z ← mark_at m.Colon x.1
  t ← kind_at z.1
  Ok (record { name = x.0; kind = t.0 }, t.1)

abbrev pub parameters_at : List TokenKind → Read (List Declaration)
parameters_at ts = listed_at declaration_at ts

unfoldable pub outcome_at : List TokenKind → Read (Option Declaration)
outcome_at [] = Ok (None, [])
outcome_at (k.Mark m.Arrow ∷ rest) = declaration_at rest >>= λ d. Ok (Some d.0, d.1)
outcome_at (t ∷ rest) = Ok (None, t ∷ rest)

abbrev pub begins_local : TokenKind → Bool
begins_local (k.Word word.Var) = true
begins_local t = false

abbrev pub local_by : Lists Declaration (Unit {0}) → Unit {0} → List TokenKind → Read (Declaration × Unit {0})
local_by lists s [] = Err (Unexpected 0)
local_by lists s (k.Word word.Var ∷ rest) = declaration_at rest >>= λ d. mark_at m.Semicolon d.1 >>= λ z. Ok ((d.0, tt), z.1)
local_by lists s (t ∷ rest) = Err (Unexpected (suc (length rest)))

unfoldable pub locals_step : Steps (Unit {0}) (List Declaration × Unit {0})
locals_step = list_step begins_local local_by

abbrev pub locals_at : List TokenKind → Read (List Declaration × Unit {0})
locals_at ts = fix locals_step tt ts

-- a procedure after its first word
abbrev pub procedure_behind : ℕ → List TokenKind → Read (Procedure × ℕ)
procedure_behind n ts = do
  x ← name_at ts
  a ← mark_at m.OpenParenthesis x.1
  ps ← parameters_at a.1
  o ← outcome_at ps.1
  b ← mark_at m.OpenBrace o.1
  ls ← locals_at b.1
  ss ← statements_at n ls.1
  z ← mark_at m.CloseBrace ss.1
  Ok ((record { name = x.0; parameters = ps.0; outcome = o.0; locals = ls.0.0; body = block_of ss.0.0 }, ss.0.1), z.1)

unfoldable pub procedure_at : ℕ → List TokenKind → Read (Procedure × ℕ)
procedure_at n [] = Err (Unexpected 0)
procedure_at n (k.Word word.Proc ∷ rest) = procedure_behind n rest
procedure_at n (t ∷ rest) = Err (Unexpected (suc (length rest)))

abbrev pub begins_procedure : TokenKind → Bool
begins_procedure (k.Word word.Proc) = true
begins_procedure t = false

unfoldable pub procedures_step : Steps ℕ (List Procedure × ℕ)
procedures_step = list_step begins_procedure (λ lists n ts. procedure_at n ts)

abbrev pub procedures_at : ℕ → List TokenKind → Read (List Procedure × ℕ)
procedures_at n ts = fix procedures_step n ts

unfoldable pub program_at : List TokenKind → Read (List Procedure)
program_at ts = do
  p ← procedure_at 1 ts
  ps ← with_front (p.0.0 ∷ []) (procedures_at p.0.1 p.1)
  Ok (ps.0.0, ps.1)

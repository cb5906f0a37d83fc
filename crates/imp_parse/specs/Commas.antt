-- Reading items with commas between them, up to a parenthesis.
use Rattle.std.specs.Prelude.{Bool, true, false, List, [], ◌∷◌, Ok}
use Rattle.imp_lex.specs.declared.token.Mark.TheVariants as m
use Rattle.imp_lex.specs.declared.token.TokenKind.{TokenKind}
use Rattle.imp_lex.specs.declared.token.TokenKind.TheVariants as k
use Rattle.imp_parse.specs.Reader.{Read, ◌>>=◌, Steps, fix}
use Rattle.imp_parse.specs.Reading.{mark_at}
use Rattle.imp_parse.specs.Lists.{Lists, list_step, with_front}

abbrev pub is_comma : TokenKind → Bool
is_comma (k.Mark m.Comma) = true
is_comma t = false

-- a comma and an item
abbrev pub next_by : {X : Type 0} → (List TokenKind → Read X) → Lists X (Unit {0}) → Unit {0} → List TokenKind → Read (X × Unit {0})
next_by item lists s ts = mark_at m.Comma ts >>= λ z. item z.1 >>= λ x. Ok ((x.0, tt), x.1)

-- items, each after a comma
unfoldable pub commas_step : {X : Type 0} → (List TokenKind → Read X) → Steps (Unit {0}) (List X × Unit {0})
commas_step item = list_step is_comma (next_by item)

abbrev pub commas_at : {X : Type 0} → (List TokenKind → Read X) → List TokenKind → Read (List X × Unit {0})
commas_at item ts = fix (commas_step item) tt ts

-- an item, those after commas, and the parenthesis
abbrev pub some_listed_at : {X : Type 0} → (List TokenKind → Read X) → List TokenKind → Read (List X)
some_listed_at item ts = do
  x ← item ts
  xs ← with_front (x.0 ∷ []) (commas_at item x.1)
  z ← mark_at m.CloseParenthesis xs.1
  Ok (xs.0.0, z.1)

-- the same, or the parenthesis alone
abbrev pub listed_at : {X : Type 0} → (List TokenKind → Read X) → List TokenKind → Read (List X)
listed_at item [] = some_listed_at item []
listed_at item (k.Mark m.CloseParenthesis ∷ rest) = Ok ([], rest)
listed_at item (t ∷ rest) = some_listed_at item (t ∷ rest)

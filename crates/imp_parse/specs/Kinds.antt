-- The kinds of tokens, without where they stand.
use Rattle.std.specs.Prelude.{List, [], ◌∷◌, map, Option, Some, None}
use Rattle.std.specs.Borrow.{Bor}
use Rattle.imp_lex.specs.declared.token.Token.{Token}
use Rattle.imp_lex.specs.declared.token.TokenKind.{TokenKind}

abbrev pub kinds : List Token → List TokenKind
kinds tokens = map (λ t. t.kind) tokens

-- the first kind and those after it, as one list
abbrev pub joined : Option (Bor TokenKind × Bor (List Token)) → List TokenKind
joined None = []
joined (Some x) = x.0.now ∷ kinds x.1.now

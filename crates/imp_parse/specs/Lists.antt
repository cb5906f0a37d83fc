-- Reading lists: items that are told by their first token, each with the state after it.
use Rattle.std.specs.Prelude.{Bool, false, List, [], ◌∷◌, ◌++◌, Ok, if◌then◌else◌}
use Rattle.imp_lex.specs.declared.token.TokenKind.{TokenKind}
use Rattle.imp_parse.specs.Reader.{Read, ◌>>=◌, Steps}

abbrev pub Lists : Type 0 → Type 0 → Type 0
Lists X S = S → List TokenKind → Read (List X × S)

-- an item, and the list after it
abbrev pub more_by : {X S : Type 0} → (Lists X S → S → List TokenKind → Read (X × S)) → Lists X S → S → List TokenKind → Read (List X × S)
more_by item lists s ts = item lists s ts >>= λ x. lists x.0.1 x.1 >>= λ ys. Ok ((x.0.0 ∷ ys.0.0, ys.0.1), ys.1)

-- an item begins here
abbrev pub begun : (TokenKind → Bool) → List TokenKind → Bool
begun begins [] = false
begun begins (t ∷ rest) = begins t

-- items, as long as one begins
abbrev pub list_step : {X S : Type 0} → (TokenKind → Bool) → (Lists X S → S → List TokenKind → Read (X × S)) → Steps S (List X × S)
list_step begins item lists s [] = Ok (([], s), [])
list_step begins item lists s (t ∷ rest) = if begins t then more_by item lists s (t ∷ rest) else Ok (([], s), t ∷ rest)

-- items before those that are read
abbrev pub with_front : {X S : Type 0} → List X → Read (List X × S) → Read (List X × S)
with_front front read = read >>= λ x. Ok ((front ++ x.0.0, x.0.1), x.1)

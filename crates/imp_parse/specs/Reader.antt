-- Readers of tokens: an answer is a value and the tokens after it, or how many tokens are left at the first that cannot go on.
use Rattle.std.specs.Prelude.{ℕ, zero, suc, List, [], ◌∷◌, length, Option, Some, None, Result, Ok, Err, nat_lt, if◌then◌else◌}
use Rattle.imp_lex.specs.declared.token.TokenKind.{TokenKind}

-- why reading stops; Out is never the answer of a whole reading
pub data Stop : Type 0 where
  Unexpected : (left : ℕ) → Stop
  Out : Stop

abbrev pub Read : Type 0 → Type 0
Read A = Result (A × List TokenKind) Stop

infixl 10 ◌>>=◌
abbrev pub ◌>>=◌ : {A B : Type 0} → Result A Stop → (A → Result B Stop) → Result B Stop
(Ok x) >>= f = f x
(Err e) >>= f = Err e

-- one token, which the test tells what it is
abbrev pub picked : {A : Type 0} → Option A → List TokenKind → Read A
picked (Some a) rest = Ok (a, rest)
picked None rest = Err (Unexpected (suc (length rest)))

abbrev pub pick_at : {A : Type 0} → (TokenKind → Option A) → List TokenKind → Read A
pick_at pick [] = Err (Unexpected 0)
pick_at pick (t ∷ rest) = picked (pick t) rest

-- ---- readers that call themselves: each call is at fewer tokens

abbrev pub within : {A : Type 0} → List TokenKind → (List TokenKind → Read A) → List TokenKind → Read A
within ts read rest = if nat_lt (length rest) (length ts) then read rest else Err Out

abbrev pub bounded : {I A : Type 0} → List TokenKind → (I → List TokenKind → Read A) → I → List TokenKind → Read A
bounded ts read i rest = within ts (read i) rest

abbrev pub Steps : Type 0 → Type 0 → Type 0
Steps I A = (I → List TokenKind → Read A) → I → List TokenKind → Read A

unfoldable pub turns : {I A : Type 0} → Steps I A → ℕ → I → List TokenKind → Read A
turns F zero i ts = Err Out
turns F (suc n) i ts = F (bounded ts (turns F n)) i ts

unfoldable pub fix : {I A : Type 0} → Steps I A → I → List TokenKind → Read A
fix F i ts = turns F (suc (length ts)) i ts

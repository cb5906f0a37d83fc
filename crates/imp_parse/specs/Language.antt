-- Languages: which lists of tokens spell which values, and where a list of tokens stops to begin one.
use Rattle.std.specs.Prelude.{◌≡◌, ℕ, ◌+◌, ◌≤◌, ◌<◌, List, ◌++◌, length, take}
use Rattle.imp_lex.specs.declared.token.TokenKind.{TokenKind}

-- these tokens spell this value
abbrev pub Language : Type 0 → Type 1
Language A = List TokenKind → A → Type 0

-- some text of the language begins with these tokens
abbrev pub Opens : {A : Type 0} → Language A → List TokenKind → Type 0
Opens {A = A} G begun = (more : List TokenKind) × (a : A) × G (begun ++ more) a

-- i is the least index such that no text of the language begins with tokens 0 to i, or the number of tokens where they end too early
pub record IsStuck {A : Type 0} (G : Language A) (ts : List TokenKind) (i : ℕ) : Type 0 where
  pub within : i ≤ length ts
  pub begun : Opens G (take i ts)
  pub wrong : i < length ts → Opens G (take (i + 1) ts) → ⊥
  pub short : i ≡ length ts → (a : A) → G ts a → ⊥

-- Readings of texts by the grammar.
use Rattle.std.specs.Prelude.{ℕ, List, Result}
use Rattle.imp_parse.specs.declared.error.ParseError.{ParseError}

-- The reading of texts of a language: each text's tree, or its first fault, as this relation tells it. Of each language of the
-- grammar there is one, and no other.
pub record ReadingOf {A : Type 0} (is : List ℕ → Result A ParseError → Type 0) : Type 0 where
  pub answer : List ℕ → Result A ParseError
  pub exact : (text : List ℕ) → is text (answer text)

-- What is claimed of words and texts.
use Rattle.std.specs.Prelude.{◌≡◌, ◌≤◌, ℕ, suc, ℤ, pos, negsuc, List, [], ◌∷◌, Option, Some, None}
use Rattle.cert_words.specs.Words.{limit, words_text, words_of}

-- none, or a number from -2^64 to 2^64
abbrev pub IsSmall : Option ℤ → Type 0
IsSmall None = Unit {0}
IsSmall (Some (pos n)) = n ≤ limit
IsSmall (Some (negsuc n)) = suc n ≤ limit

abbrev pub AreSmall : List (Option ℤ) → Type 0
AreSmall [] = Unit {0}
AreSmall (w ∷ ws) = IsSmall w × AreSmall ws

-- the text of one word or more is read back
abbrev pub WordsComeBack : Type 0
WordsComeBack = (w : Option ℤ) (ws : List (Option ℤ)) → IsSmall w → AreSmall ws → words_of (words_text (w ∷ ws)) ≡ Some (w ∷ ws)

-- what is read has the text
abbrev pub ReadingIsExact : Type 0
ReadingIsExact = (text : List ℕ) (ws : List (Option ℤ)) → words_of text ≡ Some ws → words_text ws ≡ text

-- The names of the language.
use Rattle.std.specs.Prelude.{ℕ, Bool, false, ◌&&◌, ◌==◌, nat_le, List, [], ◌∷◌, length, is_none}
use Rattle.imp_lex.specs.Kinds.{reserved_word, most_name_bytes}
use Rattle.imp_lex.specs.Front.{run, is_letter, is_word}

-- a letter, then letters and digits, at most 32 bytes in all, and no reserved word
unfoldable pub is_name : List ℕ → Bool
is_name [] = false
is_name (b ∷ bs) = is_letter b && (run is_word bs == length bs) && nat_le (length (b ∷ bs)) most_name_bytes && is_none (reserved_word (b ∷ bs))

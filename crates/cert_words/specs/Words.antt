-- Lists of words as texts: a word is a number in decimal, or `n` for none, and between two words stands one space.
use Rattle.std.specs.Prelude.{ℕ, ◌+◌, ◌-◌, ◌*◌, ◌==◌, nat_lt, ℤ, pos, negsuc, neg_ℤ, List, [], ◌∷◌, ◌++◌, Option, Some, None, Bool, true, false, codes, if◌then◌else◌}
use Rattle.std.specs.Fmt.{signed_decimal}
use Rattle.std.specs.Str.{bytes_eq}

abbrev pub word_text : Option ℤ → List ℕ
word_text None = codes "n"
word_text (Some z) = signed_decimal z

-- each with a space before
abbrev pub more_text : List (Option ℤ) → List ℕ
more_text [] = []
more_text (w ∷ ws) = 32 ∷ (word_text w ++ more_text ws)

abbrev pub words_text : List (Option ℤ) → List ℕ
words_text [] = []
words_text (w ∷ ws) = word_text w ++ more_text ws

-- The magnitude up to which numbers are read, 2^64.
abbrev pub limit : ℕ
limit = 18446744073709551616

abbrev pub at_most_limit : ℕ → ℕ
at_most_limit n = if nat_lt limit n then limit else n

-- a magnitude with one digit more
abbrev pub with_digit : ℕ → ℕ → ℕ
with_digit size b = at_most_limit (size * 10 + (b - 48))

-- the word whose marks and digits were read
abbrev pub word_read : (is_none is_negative : Bool) → (size : ℕ) → Option ℤ
word_read true is_negative size = None
word_read false true size = Some (neg_ℤ (pos size))
word_read false false size = Some (pos size)

-- The words of a text, where it is one of words: a space ends a word, `-` and `n` mark it, and whatever else stands there
-- is taken for a digit.
abbrev pub read : (is_none is_negative : Bool) → (size : ℕ) → List ℕ → List (Option ℤ)
read is_none is_negative size [] = word_read is_none is_negative size ∷ []
read is_none is_negative size (b ∷ bs) =
    if b == 32 then word_read is_none is_negative size ∷ read false false 0 bs
    else (if b == 45 then read is_none true size bs
    else (if b == 110 then read true is_negative size bs
    else read is_none is_negative (with_digit size b) bs))

abbrev pub if_same : List ℕ → List (Option ℤ) → Option (List (Option ℤ))
if_same text ws = if bytes_eq (words_text ws) text then Some ws else None

-- the words that have this text, if there are such
unfoldable pub words_of : List ℕ → Option (List (Option ℤ))
words_of text = if_same text (read false false 0 text)

-- whether a word is this number
abbrev pub is_number : ℕ → Option ℤ → Bool
is_number n None = false
is_number n (Some (pos m)) = n == m
is_number n (Some (negsuc m)) = false

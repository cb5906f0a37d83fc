-- The lines of a text.
use Rattle.std.specs.Prelude.{ℕ, ◌==◌, ◌++◌, nat_le, nat_lt, List, [], ◌∷◌, length, Option, Some, None, if◌then◌else◌}

-- The whole lines of a text, each without its LF, where a part of the first line came before it.
abbrev pub whole_lines : List ℕ → List ℕ → List (List ℕ)
whole_lines part [] = []
whole_lines part (byte ∷ text) =
    if byte == 10 then part ∷ whole_lines [] text else whole_lines (part ++ byte ∷ []) text

-- What stands after the last LF.
abbrev pub last_part : List ℕ → List ℕ → List ℕ
last_part part [] = part
last_part part (byte ∷ text) =
    if byte == 10 then last_part [] text else last_part (part ++ byte ∷ []) text

-- A last line without LF is a line if it has a byte.
abbrev pub last_line : List ℕ → List (List ℕ)
last_line [] = []
last_line (byte ∷ bytes) = (byte ∷ bytes) ∷ []

-- all lines of a text
abbrev pub all_lines : List ℕ → List (List ℕ)
all_lines text = whole_lines [] text ++ last_line (last_part [] text)

-- the most bytes of a line, without its LF
abbrev pub most_line : ℕ
most_line = 65536

-- what is kept of a line: the line, or none where it is too long
abbrev pub kept : List ℕ → Option (List ℕ)
kept line = if nat_le (length line) most_line then Some line else None

-- what is kept, with a byte more
abbrev pub grown : Option (List ℕ) → ℕ → Option (List ℕ)
grown None byte = None
grown (Some part) byte = if nat_lt (length part) most_line then Some (part ++ byte ∷ []) else None

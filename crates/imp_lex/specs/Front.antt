-- What stands at the front of a text: the longest token, bytes to pass, or a fault.
use Rattle.std.specs.Prelude.{◌≡◌, ℕ, suc, ◌+◌, ◌≤◌, Bool, false, not, ◌&&◌, ◌||◌, nat_le, nat_eq, List, [], ◌∷◌, take, Option, Some, None, if◌then◌else◌}
use Rattle.imp_lex.specs.declared.token.Mark.{Mark}
use Rattle.imp_lex.specs.declared.token.TokenKind.{TokenKind}
use Rattle.imp_lex.specs.declared.token.TokenKind.TheVariants as k
use Rattle.imp_lex.specs.declared.error.Fault.{Fault}
use Rattle.imp_lex.specs.declared.error.Fault.TheVariants as f
use Rattle.imp_lex.specs.declared.front.Front.{Front}
use Rattle.imp_lex.specs.declared.front.Front.TheVariants as p
use Rattle.imp_lex.specs.Kinds.{word_kind, number_kind, mark_of}

-- how many bytes at the front pass the test
abbrev pub run : (ℕ → Bool) → List ℕ → ℕ
run is [] = 0
run is (b ∷ bs) = if is b then suc (run is bs) else 0

-- 0 to 9
abbrev pub is_digit : ℕ → Bool
is_digit b = nat_le 48 b && nat_le b 57

-- A to Z, a to z and _
abbrev pub is_letter : ℕ → Bool
is_letter b = (nat_le 65 b && nat_le b 90) || (nat_le 97 b && nat_le b 122) || nat_eq b 95

-- a byte of a word after its first
abbrev pub is_word : ℕ → Bool
is_word b = is_letter b || is_digit b

-- space, tab, CR and LF
abbrev pub is_blank : ℕ → Bool
is_blank b = nat_eq b 32 || nat_eq b 9 || nat_eq b 13 || nat_eq b 10

-- a byte of a comment: all but LF
abbrev pub in_line : ℕ → Bool
in_line b = not (nat_eq b 10)

-- two slashes begin a comment
abbrev pub begins_comment : ℕ → List ℕ → Bool
begins_comment b [] = false
begins_comment b (c ∷ rest) = nat_eq b 47 && nat_eq c 47

-- a token of so many bytes, or this fault where there is none
abbrev pub taken : ℕ → Option TokenKind → Fault → Front
taken n None fault = p.Bad fault
taken n (Some kind) fault = p.Takes n kind

-- the mark of the first two bytes
abbrev pub pair_at : ℕ → List ℕ → Option Mark
pair_at b [] = None
pair_at b (c ∷ rest) = mark_of (b ∷ c ∷ [])

-- a mark of two bytes, and else one of one byte
abbrev pub longest : Option Mark → Option Mark → Front
longest (Some long) short = p.Takes 2 (k.Mark long)
longest None (Some short) = p.Takes 1 (k.Mark short)
longest None None = p.Bad f.BadByte

abbrev pub mark_front : ℕ → List ℕ → Front
mark_front b rest = longest (pair_at b rest) (mark_of (b ∷ []))

-- what stands at the front: a blank or a comment to pass, a token, or a fault
unfoldable pub front_of : List ℕ → Front
front_of [] = p.End
front_of (b ∷ rest) =
    if is_blank b then p.Skip 1
    else (if begins_comment b rest then p.Skip (1 + run in_line rest)
    else (if is_letter b then taken (1 + run is_word rest) (word_kind (take (1 + run is_word rest) (b ∷ rest))) f.NameTooLong
    else (if is_digit b then taken (1 + run is_digit rest) (number_kind (take (1 + run is_digit rest) (b ∷ rest))) f.NumberTooBig
    else mark_front b rest)))

-- it ends at the empty text alone, and takes a byte at least and no more than there are
abbrev pub IsBounded : ℕ → Front → Type 0
IsBounded most p.End = most ≡ 0
IsBounded most (p.Skip n) = (1 ≤ n) × (n ≤ most)
IsBounded most (p.Takes n kind) = (1 ≤ n) × (n ≤ most)
IsBounded most (p.Bad fault) = Unit {0}

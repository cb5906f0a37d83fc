-- Octagons as words, and their order.
use Rattle.std.specs.Prelude.{ℕ, ◌+◌, ◌*◌, ◌/◌, ◌%◌, nat_eq, ◌&&◌, ◌||◌, not, ℤ, pos, int_le, List, [], ◌∷◌, length, map, slice_index_or, Option, Some, None, option_map, Bool, true, false, if◌then◌else◌}
use Rattle.std.proofs.Common.{suc, zero}
use Rattle.std.specs.List.{range_with_len}
use Rattle.std.specs.Option.{option_eq}
use Rattle.std.specs.Ordering.{int_eq}
use Rattle.dbm_core.specs.Half.{HalfMatrix, entry, nodes}
use Rattle.dbm_core.specs.Nodes.{flip}
use Rattle.dbm_core.specs.Tables.{matrix_of}
use Rattle.dbm_close.specs.declared.closed.Closed.{Closed}
use Rattle.dbm_close.specs.declared.closed.Closed.TheVariants.{Empty, Matrix}
use Rattle.imp_slots.specs.Plain.{Layout}
use Rattle.cert_meaning.specs.Portable.{Portable}
use Rattle.cert_words.specs.States.{by_words, state_if}
use Rattle.cert_words.specs.Words.{is_number, words_of}
use Rattle.dom_octagon_meaning.specs.Covers.{in_limits}
use Rattle.dom_octagon_meaning.specs.Operations.{kinds_of}
use Rattle.dom_octagon_meaning.specs.States.{closed}

-- what f gives at the place p of a table of n rows and columns
abbrev pub at_place : {A : Type 0} → ℕ → (ℕ → ℕ → A) → ℕ → A
at_place n f p = f (p / n) (p % n)

-- f at all pairs of numbers below n, row by row
abbrev pub table_told : ℕ → (ℕ → ℕ → Option ℤ) → List (Option ℤ)
table_told n f = map (at_place n f) (range_with_len 0 (n * n))

-- 0 for Empty, else 1 and all entries
abbrev pub state_words : Closed → List (Option ℤ)
state_words Empty = Some (pos 0) ∷ []
state_words (Matrix m) = Some (pos 1) ∷ table_told (nodes m) (entry m)

-- whether p holds of each number below n
abbrev pub all_below : ℕ → (ℕ → Bool) → Bool
all_below zero p = true
all_below (suc n) p = all_below n p && p n

-- whether q holds of all pairs of numbers below n
abbrev pub all_pairs : ℕ → (ℕ → ℕ → Bool) → Bool
all_pairs n q = all_below (n * n) (at_place n q)

-- the word at row i and column j
abbrev pub word_at : List (Option ℤ) → (n i j : ℕ) → Option ℤ
word_at ws n i j = slice_index_or ws (i * n + j) None

-- whether that is an entry of a state: within the limits, that of the mirror image, and 0 on the diagonal
abbrev pub is_entry : List (Option ℤ) → (n i j : ℕ) → Bool
is_entry ws n i j =
    in_limits (word_at ws n i j) && (option_eq int_eq (word_at ws n i j) (word_at ws n (flip j) (flip i)) && (not (nat_eq i j) || option_eq int_eq (word_at ws n i j) (Some (pos 0))))

-- whether all words of n rows and columns are
abbrev pub all_entries : List (Option ℤ) → ℕ → Bool
all_entries ws n = all_pairs n (is_entry ws n)

-- whether these are the entries of a state with n nodes, row by row
abbrev pub are_entries : List (Option ℤ) → ℕ → Bool
are_entries ws n = nat_eq (length ws) (n * n) && all_entries ws n

-- the matrix of these kinds with these entries, if it is one of a state
abbrev pub matrix_with : List Bool → List (Option ℤ) → Option HalfMatrix
matrix_with kinds ws = if are_entries ws (2 * length kinds) then Some (matrix_of kinds (word_at ws (2 * length kinds))) else None

-- the state of a matrix, if there is one
abbrev pub state_in : Option HalfMatrix → Closed
state_in None = Empty
state_in (Some m) = Matrix m

abbrev pub empty_of : List (Option ℤ) → Option (Option HalfMatrix)
empty_of [] = Some None
empty_of (w ∷ ws) = None

abbrev pub bounded_of : Option (List Bool) → List (Option ℤ) → Option (Option HalfMatrix)
bounded_of None ws = None
bounded_of (Some kinds) ws = option_map Some (matrix_with kinds ws)

-- the matrix of the state that has these words, of frames the last of which has slots of these kinds
abbrev pub kept_of : Option (List Bool) → List (Option ℤ) → Option (Option HalfMatrix)
kept_of o [] = None
kept_of o (w ∷ ws) = if is_number 0 w then empty_of ws else (if is_number 1 w then bounded_of o ws else None)

-- the same, by the text
abbrev pub state_of_text : Option (List Bool) → List ℕ → Option (Option HalfMatrix)
state_of_text o text = state_if (kept_of o) (words_of text)

-- the kinds of the last frame's slots
abbrev pub last_kinds : List Layout → Option (List Bool)
last_kinds [] = None
last_kinds (l ∷ ls) = Some (kinds_of l.numbers)

-- the state of frames with these layouts, the last one's first, that has these words
abbrev pub state_of : List Layout → List (Option ℤ) → Option Closed
state_of ls ws = option_map state_in (kept_of (last_kinds ls) ws)

-- whether a bound is at most another; none is greater than all
abbrev pub bound_leq : Option ℤ → Option ℤ → Bool
bound_leq a None = true
bound_leq None (Some y) = false
bound_leq (Some x) (Some y) = int_le x y

-- whether no entry exceeds the other's
abbrev pub entries_leq : HalfMatrix → HalfMatrix → Bool
entries_leq a b = all_pairs (nodes a) (λ i j. bound_leq (entry a i j) (entry b i j))

-- and there are as many slots
abbrev pub matrix_leq : HalfMatrix → HalfMatrix → Bool
matrix_leq a b = nat_eq (length a.kinds) (length b.kinds) && entries_leq a b

-- of a closed left state
abbrev pub closed_leq : Closed → Closed → Bool
closed_leq Empty t = true
closed_leq (Matrix a) Empty = false
closed_leq (Matrix a) (Matrix b) = matrix_leq a b

-- the left one closed is Empty, or neither is and no entry of the left one closed exceeds the right one's
abbrev pub leq : Closed → Closed → Bool
leq s t = closed_leq (closed s) t

abbrev pub octagon_port : Portable Closed
octagon_port = by_words state_words state_of leq

-- What the places of recent results hold.
use Rattle.std.specs.Prelude.{◌≡◌, ℕ, zero, suc, ◌<◌, ◌+◌, ◌*◌, ◌/◌, ◌%◌, ◌^◌, bit_and, length, List, [], ◌∷◌, Option, Some, None, slice_get}
use Rattle.memo_table.specs.declared.memo.Key.{Key}
use Rattle.memo_table.specs.declared.recent.Place.{Place}

-- results that are held, and how many places there are for them
pub record Recent : Type 0 where
  pub entries : List (Key × ℕ)
  pub places : ℕ

-- the number that stands as one more than it is, where 0 is none
abbrev pub number_of : ℕ → Option ℕ
number_of zero = None
number_of (suc n) = Some n

-- the key that has these numbers, if an operation is among them
abbrev pub key_with : Option ℕ → (left right : Option ℕ) → Option Key
key_with None left right = None
key_with (Some operation) left right = Some (record { operation = operation; left = left; right = right })

-- the key of a place, unless that is empty
abbrev pub key_of : Place → Option Key
key_of p = key_with (number_of p.operation) (number_of p.left) (number_of p.right)

-- an entry before others, if there is one
abbrev pub entry_before : Option Key → (state : ℕ) → List (Key × ℕ) → List (Key × ℕ)
entry_before None state rest = rest
entry_before (Some key) state rest = (key, state) ∷ rest

-- the keys and states that stand at places
abbrev pub entries_of : List Place → List (Key × ℕ)
entries_of [] = []
entries_of (p ∷ ps) = entry_before (key_of p) p.state (entries_of ps)

-- a number that has one after it
abbrev pub IsSmall : Option ℕ → Type 0
IsSmall None = Unit {0}
IsSmall (Some n) = suc n < 2 ^ 64

abbrev pub HasSmallNumbers : Key → Type 0
HasSmallNumbers key = IsSmall (Some key.operation) × IsSmall key.left × IsSmall key.right

-- which of the places that of a key is, where the last one has this number
unfoldable pub index_of : ℕ → Place → ℕ
index_of last p = bit_and (((p.operation * 2654435769 % 2 ^ 64 + p.left * 2246822507 % 2 ^ 64) % 2 ^ 64 + p.right * 3266489909 % 2 ^ 64) % 2 ^ 64 / 8192) last

pub record HasSameNumbers (p q : Place) : Type 0 where
  pub operation : p.operation ≡ q.operation
  pub left : p.left ≡ q.left
  pub right : p.right ≡ q.right

-- the last place has this number, and each key stands at its own place
pub record ArePlaced (last : ℕ) (places : List Place) : Type 0 where
  pub count : length places ≡ suc last
  pub placed : (i : ℕ) (p : Place) (key : Key) → slice_get places i ≡ Some p → key_of p ≡ Some key → i ≡ index_of last p

-- Marks on numbers, a bit for each.
use Rattle.std.specs.Prelude.{◌≡◌, ◌≢◌, ℕ, ◌*◌, ◌/◌, ◌%◌, ◌^◌, ◌<◌, ◌↔◌, List, length, IsSome, slice_index, slice_set, bit_or}
use Rattle.std.specs.Ordering.{nat_cmp}
use Rattle.std.specs.FinMap.{FinMap, get}
use Rattle.daig_graph.specs.Cells.{Filled}
use Rattle.std.specs.Int.{bit_at}
use Rattle.daig_graph.specs.Held.{IsIn}

-- a number is marked
abbrev pub HasMark : List ℕ → ℕ → Type 0
HasMark words n = bit_at (slice_index words (n / 64)) (n % 64) ≡ 1

-- the words with one bit more
abbrev pub with_mark : List ℕ → ℕ → List ℕ
with_mark words n = slice_set words (n / 64) (bit_or (slice_index words (n / 64)) (1 * 2 ^ (n % 64) % 2 ^ 64))

-- there is a bit for a number
abbrev pub HasRoom : List ℕ → ℕ → Type 0
HasRoom words n = n / 64 < length words

-- one number more is marked
pub record Puts (old new : List ℕ) (n : ℕ) : Type 0 where
  pub here : HasMark new n
  pub others : (m : ℕ) → m ≢ n → HasMark new m ↔ HasMark old m

-- exactly these are marked
abbrev pub AreMarked : List ℕ → List ℕ → Type 0
AreMarked marks planned = (n : ℕ) → HasMark marks n ↔ IsIn planned n

-- there is a bit for each cell
abbrev pub HasRoomForAll : {V : Type 0} → FinMap nat_cmp (Filled V) → List ℕ → Type 0
HasRoomForAll cells words = (n : ℕ) → IsSome (get cells n) → HasRoom words n

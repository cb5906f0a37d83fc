-- What variables, cells and frames hold.
use Rattle.std.specs.Prelude.{ℕ, ◌^◌, nat_lt, ℤ, pos, negsuc, List, [], slice_index_or, slice_set, Option, Some, None, Bool, FitsSigned}
use Rattle.std.specs.Int.{w64}
use Rattle.imp_words.specs.declared.fault.FaultKind.{FaultKind}

-- What a numeric slot holds.
pub data Number : Type 0 where
  Int : ℤ → Number
  Array : List ℤ → Number

-- The variables of a frame, by slots: a link is null or the place of a cell.
pub record Variables : Type 0 where
  pub numbers : List Number
  pub links : List (Option ℕ)

pub record Cell : Type 0 where
  pub item : ℤ
  pub next : Option ℕ

-- The cells, and the inputs left.
pub record Heap : Type 0 where
  pub cells : List Cell
  pub inputs : List ℤ

-- What evaluating something gives: a value, a fault, or that an input was wanted where none was left.
pub data Attempt (A : Type 0) : Type 0 where
  Gives : A → Attempt A
  Faults : FaultKind → Attempt A
  LacksInput : Attempt A

-- One thing after another: the first that gives no value ends it.
abbrev pub andthen : {A B : Type 0} → Attempt A → (A → Attempt B) → Attempt B
andthen (Gives a) f = f a
andthen (Faults k) f = Faults k
andthen LacksInput f = LacksInput

-- the value that is there, or this fault
abbrev pub given_or : {A : Type 0} → FaultKind → Option A → Attempt A
given_or k None = Faults k
given_or k (Some a) = Gives a

-- from -2^63 to 2^63 - 1
abbrev pub is_word : ℤ → Bool
is_word (pos n) = nat_lt n (2 ^ 63)
is_word (negsuc n) = nat_lt n (2 ^ 63)

-- The value of a slot: 0, an array without elements, null where the slot holds no such value.
abbrev pub as_int : Number → ℤ
as_int (Int z) = z
as_int (Array zs) = pos 0

abbrev pub as_array : Number → List ℤ
as_array (Int z) = []
as_array (Array zs) = zs

abbrev pub number_at : Variables → ℕ → Number
number_at v x = slice_index_or v.numbers x (Int (pos 0))

abbrev pub int_at : Variables → ℕ → ℤ
int_at v x = as_int (number_at v x)

abbrev pub array_at : Variables → ℕ → List ℤ
array_at v a = as_array (number_at v a)

abbrev pub link_at : Variables → ℕ → Option ℕ
link_at v p = slice_index_or v.links p None

-- The variables after a slot is set.
abbrev pub with_number : Variables → ℕ → Number → Variables
with_number v x n = record v { numbers = slice_set v.numbers x n }

abbrev pub with_link : Variables → ℕ → Option ℕ → Variables
with_link v p l = record v { links = slice_set v.links p l }

-- an integer of 64 bits
abbrev pub IsWord : ℤ → Type 0
IsWord z = FitsSigned w64 z

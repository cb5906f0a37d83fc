-- Numbers, a bit for each.
use Rattle.std.specs.Prelude.{◌≡◌, ℕ, zero, suc, ◌*◌, ◌/◌, ◌%◌, ◌^◌, List, [], ◌∷◌, ◌++◌, length, Bool, if◌then◌else◌, nat_eq, slice_index, slice_set, bit_or}
use Rattle.std.specs.Int.{bit_at}

-- the bit of a number is set
abbrev pub HasBit : List ℕ → ℕ → Type 0
HasBit words n = bit_at (slice_index words (n / 64)) (n % 64) ≡ 1

abbrev pub has_bit : List ℕ → ℕ → Bool
has_bit words n = nat_eq (bit_at (slice_index words (n / 64)) (n % 64)) 1

-- the words with one bit more
abbrev pub with_bit : List ℕ → ℕ → List ℕ
with_bit words n = slice_set words (n / 64) (bit_or (slice_index words (n / 64)) (1 * 2 ^ (n % 64) % 2 ^ 64))

-- the same words, and zeros past them
abbrev pub SameWords : List ℕ → List ℕ → Type 0
SameWords old new = (k : ℕ) → slice_index new k ≡ slice_index old k

-- the numbers below a limit whose bit is set, rising
abbrev pub numbers_below : List ℕ → (limit : ℕ) → List ℕ
numbers_below words zero = []
numbers_below words (suc n) = if has_bit words n then numbers_below words n ++ n ∷ [] else numbers_below words n

-- all of them
abbrev pub numbers_in : List ℕ → List ℕ
numbers_in words = numbers_below words (64 * length words)

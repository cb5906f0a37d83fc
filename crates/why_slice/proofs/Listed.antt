-- The statements of the bits of a word.
use Rattle.std.proofs.Common.{◌≡◌, ℕ, ◌+◌, ◌*◌, ◌/◌, ◌<◌, ◌^◌, All, List, get_or, bit_and}
use Rattle.base_sets.specs.Bits.{numbers_in}
use Rattle.base_sets.proofs.Below.{number_keeps, tested_bit}

-- the number of a bit is small
pub small_bit : (words : List ℕ) (place bit : ℕ) → All (λ (n : ℕ). n < 2 ^ 32) (numbers_in words) → bit < 64 → bit_and (get_or words place 0 / 2 ^ bit) 1 ≡ 1 → 64 * place + bit < 2 ^ 32
small_bit words place bit a l t = number_keeps (λ (n : ℕ). n < 2 ^ 32) words (64 * place + bit) a (tested_bit words place bit l t)

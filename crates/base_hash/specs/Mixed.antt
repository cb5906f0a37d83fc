-- What a `NumberHasher` computes.
use Rattle.std.specs.Prelude.{ℕ, ◌*◌, ◌/◌, ◌-◌, ◌^◌, List, length, fold, if◌then◌else◌, nat_eq, bit_and, bit_xor}
use Rattle.std.specs.Int.{w64, from_le_bytes}
use Rattle.base_hash.specs.declared.hasher.NumberHasher.{NumberHasher}

abbrev pub initial : NumberHasher
initial = record { state = 0x243f_6a88_85a3_08d3 }

-- the two halves of a product of 128 bits, joined by xor
unfoldable pub folded : ℕ → ℕ
folded number =
    let product = number * 0x9e37_79b9_7f4a_7c15 in
    bit_xor (bit_and product (2 ^ 64 - 1)) (product / 2 ^ 64)

-- the state after a number
unfoldable pub mixed : ℕ → ℕ → ℕ
mixed state number = folded (bit_xor state number)

-- the state after some bytes, each as a number
abbrev pub mixed_bytes : ℕ → List ℕ → ℕ
mixed_bytes state bytes = fold mixed state bytes

-- the state after a write: of eight bytes as a number, the lowest byte first, and of others as that many numbers
unfoldable pub write : NumberHasher → List ℕ → NumberHasher
write h bytes = record { state = if nat_eq (length bytes) 8 then mixed h.state (from_le_bytes w64 bytes) else mixed_bytes h.state bytes }

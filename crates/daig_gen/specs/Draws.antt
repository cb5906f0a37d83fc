-- The generator of numbers: the linear congruential one with Knuth's constants for MMIX, read from its upper bits.
use Rattle.std.specs.Prelude.{ℕ, ◌+◌, ◌*◌, ◌/◌, ◌%◌, ◌^◌}

-- the state after a draw at the state s
unfoldable pub next : ℕ → ℕ
next s = (s * 6364136223846793005 + 1442695040888963407) % 2 ^ 64

-- the number below m that a draw at the state s gives
unfoldable pub pick : ℕ → ℕ → ℕ
pick m s = next s / 2 ^ 33 % m

-- which of the four variables, and which constant, a draw gives
abbrev pub variable : ℕ → ℕ
variable s = pick 4 s

abbrev pub constant : ℕ → ℕ
constant s = pick 100 s

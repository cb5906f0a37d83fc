-- Numbers of a program.
use Rattle.std.specs.Prelude.{ℕ}

-- the greatest of them, 2^63 - 1
abbrev pub greatest : ℕ
greatest = 9223372036854775807

-- Numbers below a bound.
use Rattle.std.specs.Prelude.{ℕ, ◌<◌, Option, Some, None}

-- a number, if there is one, is below a bound
abbrev pub IsBelow : ℕ → Option ℕ → Type 0
IsBelow b None = Unit {0}
IsBelow b (Some n) = n < b

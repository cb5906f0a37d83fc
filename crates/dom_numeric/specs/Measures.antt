-- What a numeric slot is measured by.
use Rattle.std.specs.Prelude.{ℤ, pos, length}
use Rattle.concrete_sem.specs.Values.{Number, Int, Array}

-- an int, or the length of an array
abbrev pub measure : Number → ℤ
measure (Int z) = z
measure (Array zs) = pos (length zs)

-- the greatest length of an array
abbrev pub longest : ℤ
longest = pos 1000000

-- A threshold, if there is one, that is cut by an end.
use Rattle.std.specs.Prelude.{ℤ, Option, Some, None}
use Rattle.std.specs.Int.{int_max, int_min}

abbrev pub at_least : Option ℤ → ℤ → ℤ
at_least None end = end
at_least (Some m) end = int_max m end

abbrev pub at_most : Option ℤ → ℤ → ℤ
at_most None end = end
at_most (Some m) end = int_min m end

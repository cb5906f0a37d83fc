-- The text of a slot with its range.
use Rattle.std.specs.Prelude.{ℕ, zero, suc, ℤ, pos, negsuc, nat_eq, List, [], ◌++◌, codes, if◌then◌else◌}
use Rattle.std.specs.Fmt.{signed_decimal}
use Rattle.imp_slots.specs.Plain.{Numeric}
use Rattle.num_bounds.specs.Bounds.{Bounds}

-- a number in decimal, but `max` for 2^63 - 1 and `min` for -2^63
unfoldable pub end_text : ℤ → List ℕ
end_text (pos n) = if nat_eq n 9223372036854775807 then codes "max" else signed_decimal (pos n)
end_text (negsuc n) = if nat_eq n 9223372036854775807 then codes "min" else signed_decimal (negsuc n)

-- a slot's name, that of an array with `#` before
abbrev pub name_text : Numeric → List ℕ
name_text k = (if k.is_array then codes "#" else []) ++ k.name

-- `x=[lo,hi]`
unfoldable pub range_text : Numeric → Bounds → List ℕ
range_text k r = name_text k ++ codes "=[" ++ end_text r.lo ++ codes "," ++ end_text r.hi ++ codes "]"

-- a space before each slot but the first
abbrev pub space_at : ℕ → List ℕ
space_at zero = []
space_at (suc k) = codes " "

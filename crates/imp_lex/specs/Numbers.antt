-- Numbers of a text.
use Rattle.std.specs.Prelude.{ℕ, ◌+◌, ◌-◌, ◌*◌, List, [], ◌∷◌}

-- the number that the digits write in decimal, after digits that write so much
abbrev pub value_on : ℕ → List ℕ → ℕ
value_on so_far [] = so_far
value_on so_far (d ∷ ds) = value_on (so_far * 10 + (d - 48)) ds

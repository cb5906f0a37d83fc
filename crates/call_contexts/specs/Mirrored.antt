-- Numbers above 1 with their negatives: about -1, 0 and 1 they are the thresholds of rising numbers.
use Rattle.std.specs.Prelude.{ℕ, ℤ, pos, neg_ℤ, List, [], ◌∷◌, ◌++◌, nat_lt, if◌then◌else◌}

-- those of them that are above 1
abbrev pub above_one : List ℕ → List ℤ
above_one [] = []
above_one (n ∷ ns) = if nat_lt 1 n then pos n ∷ above_one ns else above_one ns

-- their negatives, the last first
abbrev pub negatives : List ℕ → List ℤ
negatives [] = []
negatives (n ∷ ns) = if nat_lt 1 n then negatives ns ++ neg_ℤ (pos n) ∷ [] else negatives ns

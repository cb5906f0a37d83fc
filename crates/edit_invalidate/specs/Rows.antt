-- What two rows of a cell ask for.
use Rattle.std.specs.Prelude.{◌≡◌, ◌⊎◌, Bool, true}
use Rattle.cell_rows.specs.Rows.{Row, Joins}

-- Joins after loops with breaks, with the same left input, which is the only one that the cell has.
abbrev pub AskLeft : (alone : Bool) → Row → Row → Type 0
AskLeft alone (Joins s l n w p) (Joins t k m v q) = (l ≡ k) × (alone ≡ true)
AskLeft alone _ _ = ⊥

-- The same row; or only the left input of both is asked for.
abbrev pub AskSame : (alone : Bool) → Row → Row → Type 0
AskSame alone r q = (r ≡ q) ⊎ AskLeft alone r q

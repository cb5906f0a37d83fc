-- The statements of a part in which no call stands, as they are found from one to the next.
use Rattle.std.specs.Prelude.{ℕ, zero, suc, List, ◌∷◌, ◌++◌, Option, Some, None, Bool, true, false, ◌&&◌, not}
use Rattle.imp_syntax.specs.Plain.{Statement, Simple, Break, Call, If, While}
use Rattle.imp_check.specs.Walks.{walk}
use Rattle.imp_check.specs.declared.entry.Entry.{Entry}

abbrev pub is_call : Statement → Bool
is_call (Simple n a) = false
is_call (Break n) = false
is_call (Call n x g es) = true
is_call (If n c t e) = false
is_call (While n c b) = false

-- whether a statement, those of its blocks, and those after it do not call
abbrev pub quiet_on : (quiet : Option ℕ → Bool) → Option Entry → Bool
quiet_on quiet None = true
quiet_on quiet (Some e) = not (is_call e.part) && (quiet e.inner.first && (quiet e.other.first && quiet e.next))

-- The same of the block whose first statement has this number. `most` is more than there are statements.
abbrev pub quiet_from : (at : ℕ → Option Entry) → (most : ℕ) → Option ℕ → Bool
quiet_from at zero o = true
quiet_from at (suc most) None = true
quiet_from at (suc most) (Some n) = quiet_on (quiet_from at most) (at n)

-- the number of a statement and those of its blocks, and whether none of them calls
abbrev pub part_numbers : (at : ℕ → Option Entry) → (most : ℕ) → Entry → List ℕ
part_numbers at most e = e.number ∷ (walk at most e.inner.first ++ walk at most e.other.first)

abbrev pub part_quiet : (at : ℕ → Option Entry) → (most : ℕ) → Entry → Bool
part_quiet at most e = not (is_call e.part) && (quiet_from at most e.inner.first && quiet_from at most e.other.first)

-- The statements of a procedure in the order of the text, and as they are found from one to the next.
use Rattle.std.specs.Prelude.{ℕ, zero, suc, List, [], ◌∷◌, ◌++◌, Option, Some, None, slice_get}
use Rattle.imp_syntax.specs.Plain.{Procedure, numbers}
use Rattle.imp_check.specs.declared.entry.Entry.{Entry}

-- the numbers of the statements of a procedure, if it is there
abbrev pub body_numbers : Option Procedure → List ℕ
body_numbers None = []
body_numbers (Some p) = numbers p.body

-- those of the procedure at a place
abbrev pub numbers_at : List Procedure → (place : ℕ) → List ℕ
numbers_at ps k = body_numbers (slice_get ps k)

-- a statement, those of its blocks, and those after it
abbrev pub walked : (walk : Option ℕ → List ℕ) → Option Entry → List ℕ
walked walk None = []
walked walk (Some e) = e.number ∷ (walk e.inner.first ++ (walk e.other.first ++ walk e.next))

-- The block whose first statement has this number. `most` is more than there are statements.
abbrev pub walk : (at : ℕ → Option Entry) → (most : ℕ) → Option ℕ → List ℕ
walk at zero o = []
walk at (suc most) None = []
walk at (suc most) (Some n) = walked (walk at most) (at n)

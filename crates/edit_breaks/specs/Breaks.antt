-- The breaks of the loop around a place, as they are found from one statement to the next.
use Rattle.std.specs.Prelude.{ℕ, zero, suc, ◌+◌, List, [], ◌∷◌, ◌++◌, length, Option, Some, None}
use Rattle.imp_syntax.specs.Plain.{Statement, Simple, Break, Call, If, While, Statements, Procedure}
use Rattle.imp_check.specs.Entries.{entries_of, entry_of}
use Rattle.imp_check.specs.Parts.{leaving}
use Rattle.imp_check.specs.Programs.{program_count}
use Rattle.imp_check.specs.declared.entry.Around.{Around}
use Rattle.imp_check.specs.declared.entry.Entry.{Entry}
use Rattle.imp_check.specs.declared.entry.Which.{Which}
use Rattle.imp_check.specs.declared.entry.Which.TheVariants as which
use Rattle.edit_entries.specs.Spliced.{among, left_of}
use Rattle.edit_breaks.specs.declared.gap.Gap.{Gap}

-- the breaks that leave a statement, by those that leave its blocks
abbrev pub leaving_part : (leaving : Option ℕ → List ℕ) → Entry → (part : Statement) → List ℕ
leaving_part leaving e (Simple n a) = []
leaving_part leaving e (Break n) = e.number ∷ []
leaving_part leaving e (Call n x g es) = []
leaving_part leaving e (If n c t u) = leaving e.inner.first ++ leaving e.other.first
leaving_part leaving e (While n c b) = []

-- .. and those that leave what stands after it
abbrev pub leaving_on : (leaving : Option ℕ → List ℕ) → Option Entry → List ℕ
leaving_on leaving None = []
leaving_on leaving (Some e) = leaving_part leaving e e.part ++ leaving e.next

-- The same of the block whose first statement has this number. `most` is more than there are statements.
abbrev pub leaving_from : (at : ℕ → Option Entry) → (most : ℕ) → Option ℕ → List ℕ
leaving_from at zero o = []
leaving_from at (suc most) None = []
leaving_from at (suc most) (Some n) = leaving_on (leaving_from at most) (at n)

-- A place of a block is after a statement, or before the block: then in the statement that has it, if that is no loop.
abbrev pub unless_body : Which → Option Entry → Option Entry
unless_body which.Then o = o
unless_body which.Else o = o
unless_body which.Body o = None

abbrev pub above : (at : ℕ → Option Entry) → (most : ℕ) → (around : Option Around) → (front : Option ℕ) → Option Entry
above at zero w o = None
above at (suc most) w (Some n) = at n
above at (suc most) None None = None
above at (suc most) (Some w) None = unless_body w.which (at w.stmt)

-- the breaks that leave that statement before the place
abbrev pub passed_in : (leaving : Option ℕ → List ℕ) → Which → Entry → List ℕ
passed_in leaving which.Then e = []
passed_in leaving which.Else e = leaving e.inner.first
passed_in leaving which.Body e = []

abbrev pub passed : (leaving : Option ℕ → List ℕ) → (around : Option Around) → (front : Option ℕ) → Entry → List ℕ
passed leaving w (Some n) e = leaving_part leaving e e.part
passed leaving None None e = []
passed leaving (Some w) None e = passed_in leaving w.which e

abbrev pub counted : (count : Option Around → Option ℕ → ℕ) → (passed : Entry → List ℕ) → Option Entry → ℕ
counted count passed None = 0
counted count passed (Some e) = length (passed e) + count e.context.around e.front

-- How many breaks of the loop around a place stand before it.
abbrev pub front_count : (at : ℕ → Option Entry) → (most : ℕ) → (around : Option Around) → (front : Option ℕ) → ℕ
front_count at zero w o = 0
front_count at (suc most) w o = counted (front_count at most) (passed (leaving_from at most) w o) (above at (suc most) w o)

-- The breaks that the loop around a place then has.
abbrev pub breaks_with : List Procedure → Gap → Statements → Entry → List ℕ
breaks_with ps g news x = among (front_count (entry_of (entries_of ps)) (suc (program_count ps)) g.context.around g.front) (leaving news) (left_of g.gone x.breaks)

abbrev pub breaks_of : (Entry → List ℕ) → Option Entry → List ℕ
breaks_of breaks None = []
breaks_of breaks (Some x) = breaks x

abbrev pub known_at : (at : ℕ → Option Entry) → Option ℕ → Option Entry
known_at at None = None
known_at at (Some n) = at n

abbrev pub loop_breaks : List Procedure → Gap → Statements → List ℕ
loop_breaks ps g news = breaks_of (breaks_with ps g news) (known_at (entry_of (entries_of ps)) g.context.head)

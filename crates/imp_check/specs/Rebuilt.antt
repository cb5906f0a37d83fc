-- The tree of a program, from what is known of its statements by their numbers.
use Rattle.std.specs.Prelude.{ℕ, zero, suc, List, [], ◌∷◌, Option, Some, None}
use Rattle.imp_syntax.specs.Plain.{Statement, Simple, Break, Call, If, While, Statements, Ends, Starts, Procedure}
use Rattle.imp_check.specs.declared.entry.Entry.{Entry}
use Rattle.imp_check.specs.declared.entry.ProcHeader.{ProcHeader}

-- a statement with these blocks
abbrev pub statement_with : (part : Statement) → (inner other : Statements) → Statement
statement_with (Simple n a) t e = Simple n a
statement_with (Break n) t e = Break n
statement_with (Call n x g es) t e = Call n x g es
statement_with (If n c x y) t e = If n c t e
statement_with (While n c x) t e = While n c t

-- the entry that a block goes on with
abbrev pub next_in : (at : ℕ → Option Entry) → (most : ℕ) → Option ℕ → Option Entry
next_in at zero o = None
next_in at (suc most) None = None
next_in at (suc most) (Some n) = at n

abbrev pub from_entry : (block_from : Option ℕ → Statements) → Option Entry → Statements
from_entry block_from None = Ends
from_entry block_from (Some e) = Starts (statement_with e.part (block_from e.inner.first) (block_from e.other.first)) (block_from e.next)

-- The block whose first statement has this number. `most` is more than there are statements.
abbrev pub block_from : (at : ℕ → Option Entry) → (most : ℕ) → Option ℕ → Statements
block_from at zero o = Ends
block_from at (suc most) None = Ends
block_from at (suc most) (Some n) = from_entry (block_from at most) (at n)

abbrev pub procedure_from : (at : ℕ → Option Entry) → (most : ℕ) → ProcHeader → Procedure
procedure_from at most h = record { name = h.bare.name; parameters = h.bare.parameters; outcome = h.bare.outcome; locals = h.bare.locals; body = block_from at most h.body.first }

abbrev pub program_from : (at : ℕ → Option Entry) → (most : ℕ) → List ProcHeader → List Procedure
program_from at most [] = []
program_from at most (h ∷ hs) = procedure_from at most h ∷ program_from at most hs

-- the program of a table of so many statements
abbrev pub program_by : (at : ℕ → Option Entry) → (count : ℕ) → List ProcHeader → List Procedure
program_by at count heads = program_from at (suc count) heads

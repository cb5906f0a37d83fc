-- A program as it is read: a table, and what stands over its entries.
use Rattle.std.specs.Prelude.{ℕ, List, Option}
use Rattle.imp_syntax.specs.Plain.{Procedure}
use Rattle.imp_check.specs.Entries.{entries_of, entry_of}
use Rattle.imp_check.specs.Rebuilt.{program_by}
use Rattle.imp_check.specs.Tables.{AreOf}
use Rattle.imp_table.specs.Changes.{AreFalling, overlay}
use Rattle.imp_check.specs.declared.entry.Entry.{Entry}
use Rattle.imp_check.specs.declared.entry.ProcHeader.{ProcHeader}
use Rattle.imp_table.specs.declared.change.Put.{Put}

-- the entries of a program with these over them
abbrev pub over : List Procedure → List Put → ℕ → Option Entry
over ps puts = overlay puts (entry_of (entries_of ps))

-- the program that is read so
abbrev pub program_over : (under : List Procedure) → List Put → (count : ℕ) → List ProcHeader → List Procedure
program_over under puts count heads = program_by (over under puts) count heads

-- The entries, the procedures, the count and the call statements are those of this program, and the numbers of the change
-- fall.
pub record AreRead (under : List Procedure) (puts : List Put) (count : ℕ) (heads : List ProcHeader) (sites : List (List ℕ)) (program : List Procedure) : Type 0 where
  pub right : AreOf program (over under puts) count heads sites
  pub falling : AreFalling puts

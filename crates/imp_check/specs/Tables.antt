-- A program as a table of its statements by number.
use Rattle.std.specs.Prelude.{ℕ, zero, suc, ◌≡◌, List, [], ◌∷◌, Option, None}
use Rattle.imp_syntax.specs.Plain.{Procedure}
use Rattle.imp_check.specs.Programs.{program_count}
use Rattle.imp_check.specs.Entries.{entries_of, entry_of, heads_of, sites_of}
use Rattle.imp_check.specs.Fine.{IsFine}
use Rattle.imp_check.specs.declared.entry.Entry.{Entry}
use Rattle.imp_check.specs.declared.entry.ProcHeader.{ProcHeader}

-- the entry at a place
abbrev pub entry_in : List (Option Entry) → ℕ → Option Entry
entry_in [] n = None
entry_in (o ∷ os) zero = o
entry_in (o ∷ os) (suc n) = entry_in os n

-- The table, the procedures, the count and the call statements are those of this program, which has no fault.
pub record AreOf (program : List Procedure) (at : ℕ → Option Entry) (count : ℕ) (heads : List ProcHeader) (sites : List (List ℕ)) : Type 0 where
  pub fine : IsFine program
  pub entries : (n : ℕ) → at n ≡ entry_of (entries_of program) n
  pub counted : count ≡ program_count program
  pub procedures : heads ≡ heads_of program
  pub calls : sites ≡ sites_of program

-- The procedures that a change touches: those that it takes statements from or brings statements to.
use Rattle.std.specs.Prelude.{ℕ, ◌≡◌, List, [], ◌∷◌, Option, Some, None, Bool, false, ◌||◌, ◌==◌}
use Rattle.imp_syntax.specs.Plain.{Procedure}
use Rattle.imp_check.specs.Entries.{entries_of, entry_of}
use Rattle.imp_check.specs.Programs.{AreNumbered, check_fault}
use Rattle.imp_table.specs.Changes.{overlay, AreFalling}
use Rattle.imp_check.specs.declared.entry.Entry.{Entry}
use Rattle.imp_table.specs.declared.change.Put.{Put}

-- whether this is a statement of the procedure at a place
abbrev pub stands_in : Option Entry → (place : ℕ) → Bool
stands_in None k = false
stands_in (Some e) k = e.context.proc == k

-- whether one of these comes to it, or one at their numbers goes
abbrev pub touches : (at : ℕ → Option Entry) → List Put → (place : ℕ) → Bool
touches at [] k = false
touches at (p ∷ ps) k = stands_in (at p.number) k || (stands_in p.entry k || touches at ps k)

-- The second program has these entries over those of the first. Both have no faults, and each number stands once.
pub record Brings (old new : List Procedure) (puts : List Put) : Type 0 where
  pub numbered_before : AreNumbered old
  pub numbered : AreNumbered new
  pub faultless_before : check_fault old ≡ None
  pub faultless : check_fault new ≡ None
  pub falling : AreFalling puts
  pub entries : (n : ℕ) → entry_of (entries_of new) n ≡ overlay puts (entry_of (entries_of old)) n

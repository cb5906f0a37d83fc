-- What comes in a table by numbers, and the programs of which one comes from the other by it.
use Rattle.std.specs.Prelude.{ℕ, ◌≡◌, ◌<◌, List, [], ◌∷◌, Option, cond, ◌==◌, unwrap_or}
use Rattle.std.specs.List.{All, AllPairs}
use Rattle.imp_syntax.specs.Plain.{Procedure}
use Rattle.imp_check.specs.Programs.{program_count}
use Rattle.imp_check.specs.Entries.{entries_of, entry_of, heads_of, sites_of}
use Rattle.imp_check.specs.declared.entry.Entry.{Entry}
use Rattle.imp_table.specs.declared.change.Put.{Put}
use Rattle.imp_table.specs.declared.change.Change.{Change}

-- a table with these entries in place of its own
abbrev pub overlay : List Put → (at : ℕ → Option Entry) → ℕ → Option Entry
overlay [] at m = at m
overlay (p ∷ ps) at m = cond (p.number == m) p.entry (overlay ps at m)

-- each number is less than those before it
abbrev pub AreFalling : List Put → Type 0
AreFalling puts = AllPairs (λ (p q : Put). q.number < p.number) puts

-- the numbers of a change fall, and are below this one
pub record AreWithin (bound : ℕ) (puts : List Put) : Type 0 where
  pub falling : AreFalling puts
  pub below : All (λ (p : Put). p.number < bound) puts

-- The change makes the second program of the first.
pub record Makes (old : List Procedure) (change : Change) (new : List Procedure) : Type 0 where
  pub entries : (n : ℕ) → entry_of (entries_of new) n ≡ overlay change.entries.items (entry_of (entries_of old)) n
  pub heads : heads_of new ≡ unwrap_or change.heads (heads_of old)
  pub counted : change.count ≡ program_count new
  pub sites : sites_of new ≡ unwrap_or change.sites (sites_of old)

use Rattle.std.proofs.Common.{◌≡◌, ℕ, ◌<◌, Option, length}
use Rattle.std.specs.List.{All}
use Rattle.imp_table.specs.Changes.{AreFalling, AreWithin, overlay}
use Rattle.imp_check.specs.Entries.{entry_of}
use Rattle.imp_check.specs.Faults.{first}
use Rattle.imp_check.specs.declared.entry.Entry.{Entry}
use Rattle.imp_edit.proofs.neighbour_entries.put_come.Given as goal

-- the entries that are left come before those that are put
abbrev pub invariant-loop-entry : goal.invariant-loop-entry
invariant-loop-entry l = record {
  falling : AreFalling l.puts.items;
  is : (at : ℕ → Option Entry) (m : ℕ) → first (entry_of l.entries.items m) (overlay l.puts.items at m) ≡ first (entry_of l.initial.entries.items m) (overlay l.initial.puts.items at m);
  left : (b : ℕ) → All (λ (e : Entry). e.number < b) l.initial.entries.items → All (λ (e : Entry). e.number < b) l.entries.items;
  within : (b : ℕ) → All (λ (e : Entry). e.number < b) l.initial.entries.items → AreWithin b l.initial.puts.items → AreWithin b l.puts.items;
}

abbrev pub decreases-loop-entry : goal.decreases-loop-entry
decreases-loop-entry l = length l.entries.items

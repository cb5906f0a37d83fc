use Rattle.std.proofs.Common.{◌≡◌, ℕ, ◌<◌, ◌≤◌, Option, None, cond, drop, length}
use Rattle.std.specs.List.{All}
use Rattle.imp_table.specs.Changes.{AreFalling, AreWithin, overlay}
use Rattle.imp_check.specs.Programs.{has}
use Rattle.imp_check.specs.declared.entry.Entry.{Entry}
use Rattle.imp_edit.proofs.neighbour_entries.put_gone.Given as goal

-- those from here on are away
abbrev pub invariant-loop-i : goal.invariant-loop-i
invariant-loop-i l = record {
  few : l.i ≤ length l.gone;
  falling : AreFalling l.puts.items;
  is : (at : ℕ → Option Entry) (m : ℕ) → overlay l.puts.items at m ≡ cond (has (drop l.i l.gone) m) None (overlay l.initial.puts.items at m);
  within : (b : ℕ) → All (λ (n : ℕ). n < b) l.gone → AreWithin b l.initial.puts.items → AreWithin b l.puts.items;
}

use Rattle.std.proofs.Common.{ℕ, ◌≡◌, ◌<◌, ◌≤◌}
use Rattle.std.specs.List.{All}
use Rattle.imp_check.specs.Entries.{entries_of, entry_of}
use Rattle.imp_table.specs.Changes.{overlay, AreWithin}
use Rattle.imp_table.specs.Pages.{entry_at}
use Rattle.imp_table.specs.declared.change.Put.{Put}
use Rattle.imp_table.proofs.table.changed_places.Given as goal

-- what stood at the numbers taken so far comes, and the others are still there
abbrev pub invariant-loop-number : goal.invariant-loop-number
invariant-loop-number l = record {
  order : l.number ≤ l.below;
  kept : (m : ℕ) → m < l.number → entry_at l.pages.items m ≡ entry_at l.initial.pages.items m;
  comes : (m : ℕ) → l.number ≤ m → m < l.below → overlay l.puts.items (entry_of (entries_of l.from.program)) m ≡ entry_at l.initial.pages.items m;
  high : All (λ (p : Put). l.number ≤ p.number) l.puts.items;
  within : AreWithin l.below l.puts.items;
}

abbrev pub decreases-loop-number : goal.decreases-loop-number
decreases-loop-number l = l.number

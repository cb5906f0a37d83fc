use Rattle.std.proofs.Common.{◌≡◌, ◌-◌, ℕ, length}
use Rattle.imp_table.specs.Pages.{entry_at, lengths, HasPlace}
use Rattle.imp_table.proofs.pages.add_pages.Given as goal

abbrev pub invariant-loop-alloc : goal.invariant-loop-alloc
invariant-loop-alloc l = record {
  kept : (n : ℕ) → entry_at l.pages.items n ≡ entry_at l.initial.pages.items n;
  no_less : (n : ℕ) → HasPlace (lengths l.initial.pages.items) n → HasPlace (lengths l.pages.items) n;
}

abbrev pub decreases-loop-alloc : goal.decreases-loop-alloc
decreases-loop-alloc l = l.count - length l.pages.items

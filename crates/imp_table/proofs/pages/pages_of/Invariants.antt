use Rattle.std.proofs.Common.{◌≡◌, ◌<◌, ◌≤◌, ℕ, None, length}
use Rattle.imp_check.specs.Tables.{entry_in}
use Rattle.imp_table.specs.Pages.{entry_at}
use Rattle.imp_table.proofs.pages.pages_of.Given as goal

-- what stood at the places taken so far is in the pages, and the others are still there
abbrev pub invariant-loop-entry : goal.invariant-loop-entry
invariant-loop-entry l = record {
  kept : (m : ℕ) → m < length l.places.items → entry_in l.places.items m ≡ entry_in l.initial.places.items m;
  moved : (m : ℕ) → length l.places.items ≤ m → entry_at l.pages.items m ≡ entry_in l.initial.places.items m;
  free : (m : ℕ) → m < length l.places.items → entry_at l.pages.items m ≡ None;
}

abbrev pub decreases-loop-entry : goal.decreases-loop-entry
decreases-loop-entry l = length l.places.items

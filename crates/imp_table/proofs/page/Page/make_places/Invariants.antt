use Rattle.std.proofs.Common.{◌≡◌, ◌≤◌, ◌-◌, ℕ, length}
use Rattle.imp_check.specs.Tables.{entry_in}
use Rattle.imp_table.proofs.page.Page.make_places.Given as goal

abbrev pub invariant-loop-self : goal.invariant-loop-self
invariant-loop-self l = record {
  kept : (n : ℕ) → entry_in l.self-inside.places.items n ≡ entry_in l.initial.self-inside.places.items n;
  no_less : length l.initial.self-inside.places.items ≤ length l.self-inside.places.items;
}

abbrev pub decreases-loop-self : goal.decreases-loop-self
decreases-loop-self l = 64 - length l.self-inside.places.items

use Rattle.std.proofs.Common.{◌≡◌, ℕ}
use Rattle.imp_table.specs.Pages.{entry_at, lengths, HasPlace, IsNeeded}
use Rattle.imp_table.proofs.pages.drop_in.Given as goal

abbrev pub invariant-loop-page : goal.invariant-loop-page
invariant-loop-page l = record {
  kept : (n : ℕ) → entry_at l.pages n ≡ entry_at l.initial.pages n;
  still : (n : ℕ) → IsNeeded l.needed n → HasPlace (lengths l.initial.pages) n → HasPlace (lengths l.pages) n;
}

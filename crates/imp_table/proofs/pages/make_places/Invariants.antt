use Rattle.std.proofs.Common.{◌≡◌, ◌<◌, ℕ, slice_index_or}
use Rattle.imp_table.specs.Pages.{entry_at, lengths, HasPlace}
use Rattle.imp_table.specs.declared.change.Put.{Put}
use Rattle.imp_table.proofs.pages.make_places.Given as goal

abbrev pub invariant-loop-put : goal.invariant-loop-put
invariant-loop-put l = record {
  made : (k : ℕ) (d : Put) → k < l.put-index → HasPlace (lengths l.pages.items) (slice_index_or l.puts k d).number;
  kept : (n : ℕ) → entry_at l.pages.items n ≡ entry_at l.initial.pages.items n;
  no_less : (n : ℕ) → HasPlace (lengths l.initial.pages.items) n → HasPlace (lengths l.pages.items) n;
}

use Rattle.std.proofs.Common.{ℕ, ◌≡◌, length, take, drop}
use Rattle.imp_table.specs.Changes.{overlay}
use Rattle.imp_table.specs.Pages.{entry_at, lengths}
use Rattle.imp_table.proofs.OverlayLemmas.{back_of}
use Rattle.imp_table.proofs.places.put_in.Given as goal

-- the first i are put in and turned back, the others are still to come
abbrev pub invariant-loop-i : goal.invariant-loop-i
invariant-loop-i l = record {
  places : lengths l.pages ≡ lengths l.initial.pages;
  as_many : length l.puts ≡ length l.initial.puts;
  rest : drop l.i l.puts ≡ drop l.i l.initial.puts;
  back : take l.i l.puts ≡ back_of (entry_at l.initial.pages) (take l.i l.initial.puts);
  put : (m : ℕ) → entry_at l.pages m ≡ overlay (take l.i l.initial.puts) (entry_at l.initial.pages) m;
}

use Rattle.std.proofs.Common.{ℕ, ◌<◌, slice_index_or}
use Rattle.imp_table.specs.Pages.{IsNeeded}
use Rattle.imp_table.specs.declared.change.Put.{Put}
use Rattle.imp_table.proofs.needed.NeededPages.add.Given as goal

abbrev pub invariant-loop-put : goal.invariant-loop-put
invariant-loop-put l = record {
  added : (k : ℕ) (d : Put) → k < l.put-index → IsNeeded l.self-inside.flags.items (slice_index_or l.change.entries.items k d).number;
  still : (n : ℕ) → IsNeeded l.initial.self-inside.flags.items n → IsNeeded l.self-inside.flags.items n;
}

use Rattle.std.proofs.Common.{ℕ, ◌<◌, ◌≤◌, ◌-◌, length, slice_index_or}
use Rattle.imp_table.specs.Pages.{AreNeeded, IsNeeded}
use Rattle.imp_table.specs.declared.change.Change.{Change}
use Rattle.edit_history.proofs.history.add_all.Given as goal

-- the pages of the changes so far are needed
abbrev pub invariant-loop-change : goal.invariant-loop-change
invariant-loop-change l = record {
  order : l.place ≤ length l.changes.items;
  added : (i : ℕ) (d : Change) → i < l.place → AreNeeded l.needed (slice_index_or l.changes.items i d).entries.items;
  still : (n : ℕ) → IsNeeded l.initial.needed n → IsNeeded l.needed n;
}

abbrev pub decreases-loop-change : goal.decreases-loop-change
decreases-loop-change l = length l.changes.items - l.place

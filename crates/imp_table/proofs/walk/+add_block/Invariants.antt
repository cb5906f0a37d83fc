use Rattle.std.proofs.Common.{◌≡◌, ◌++◌, ◌≤◌}
use Rattle.imp_check.specs.Entries.{entries_of, entry_of}
use Rattle.imp_check.specs.Walks.{walk}
use Rattle.imp_table.proofs.walk.+add_block.Given as goal

abbrev pub decreases-add_block : goal.decreases-add_block
decreases-add_block l = l.most

-- the numbers so far, and those to come
abbrev pub invariant-loop-entry : goal.invariant-loop-entry
invariant-loop-entry l = record {
  few : l.left ≤ l.most;
  told : l.found ++ walk (entry_of (entries_of l.view)) l.left l.at ≡ l.initial.found ++ walk (entry_of (entries_of l.view)) l.most l.fn.first;
}

abbrev pub decreases-loop-entry : goal.decreases-loop-entry
decreases-loop-entry l = l.left

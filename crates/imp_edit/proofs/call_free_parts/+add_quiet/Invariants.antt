use Rattle.std.proofs.Common.{◌≡◌, ◌++◌, ◌≤◌}
use Rattle.imp_check.specs.Entries.{entries_of, entry_of}
use Rattle.imp_check.specs.Walks.{walk}
use Rattle.imp_edit.specs.CallFreeParts.{quiet_from}
use Rattle.imp_edit.proofs.call_free_parts.+add_quiet.Given as goal

abbrev pub decreases-add_quiet : goal.decreases-add_quiet
decreases-add_quiet l = l.most

-- the numbers so far, and those to come, which decide
abbrev pub invariant-loop-entry : goal.invariant-loop-entry
invariant-loop-entry l = record {
  few : l.left ≤ l.most;
  told : l.found ++ walk (entry_of (entries_of l.table.program)) l.left l.at ≡ l.initial.found ++ walk (entry_of (entries_of l.table.program)) l.most l.fn.first;
  quiet : quiet_from (entry_of (entries_of l.table.program)) l.left l.at ≡ quiet_from (entry_of (entries_of l.table.program)) l.most l.fn.first;
}

abbrev pub decreases-loop-entry : goal.decreases-loop-entry
decreases-loop-entry l = l.left

use Rattle.std.proofs.Common.{◌≡◌, ◌+◌, suc, ◌++◌, ◌≤◌}
use Rattle.imp_check.specs.Entries.{entries_of, entry_of}
use Rattle.edit_breaks.specs.Breaks.{leaving_from}
use Rattle.edit_breaks.proofs.leaving.+leaving.Given as goal

abbrev pub decreases-add_leaving_from : goal.decreases-add_leaving_from
decreases-add_leaving_from l = l.most + l.most

abbrev pub decreases-add_leaving_part : goal.decreases-add_leaving_part
decreases-add_leaving_part l = suc (l.most + l.most)

-- the breaks so far, and those to come
abbrev pub invariant-add_leaving_from-loop-entry : goal.invariant-add_leaving_from-loop-entry
invariant-add_leaving_from-loop-entry l = record {
  few : l.left ≤ l.most;
  told : l.found ++ leaving_from (entry_of (entries_of l.table.program)) l.left l.at ≡ l.initial.found ++ leaving_from (entry_of (entries_of l.table.program)) l.most l.fn.first;
}

abbrev pub decreases-add_leaving_from-loop-entry : goal.decreases-add_leaving_from-loop-entry
decreases-add_leaving_from-loop-entry l = l.left

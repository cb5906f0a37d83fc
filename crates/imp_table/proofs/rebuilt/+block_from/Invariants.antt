use Rattle.std.proofs.Common.{◌≡◌, ◌++◌, ◌≤◌}
use Rattle.imp_syntax.specs.Plain.{statements_of}
use Rattle.imp_table.specs.Pages.{entry_at}
use Rattle.imp_check.specs.Rebuilt.{block_from}
use Rattle.imp_table.proofs.rebuilt.+block_from.Given as goal

abbrev pub decreases-block_from : goal.decreases-block_from
decreases-block_from l = l.most

-- the statements so far, and those to come
abbrev pub invariant-loop-entry : goal.invariant-loop-entry
invariant-loop-entry l = record {
  few : l.left ≤ l.most;
  told : l.stmts ++ statements_of (block_from (entry_at l.pages) l.left l.at) ≡ statements_of (block_from (entry_at l.pages) l.most l.fn.first);
}

abbrev pub decreases-loop-entry : goal.decreases-loop-entry
decreases-loop-entry l = l.left

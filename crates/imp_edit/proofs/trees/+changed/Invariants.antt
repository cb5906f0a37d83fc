use Rattle.std.proofs.Common.{◌≡◌, ◌++◌}
use Rattle.imp_syntax.specs.Plain.{block_of, statements_of}
use Rattle.imp_edit.specs.Changes.{in_block}
use Rattle.imp_edit.specs.Made.{made}
use Rattle.imp_edit.proofs.TreeLemmas.{to_come}
use Rattle.imp_edit.proofs.trees.+changed.Given as goal

abbrev pub decreases-in_block : goal.decreases-in_block
decreases-in_block l = goal.size-in_block l

abbrev pub decreases-in_statement : goal.decreases-in_statement
decreases-in_statement l = goal.size-in_statement l

-- the block so far and what is still to come make the new block
abbrev pub invariant-in_block-loop-i : goal.invariant-in_block-loop-i
invariant-in_block-loop-i l = record {
  is : block_of l.stmts ≡ l.block;
  made : l.all ++ to_come l.id (made l.edit) l.stmts l.i ≡ statements_of (in_block l.id (made l.edit) l.block);
}

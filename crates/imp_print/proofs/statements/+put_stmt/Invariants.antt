use Rattle.std.proofs.Common.{◌≡◌, ◌++◌, ◌+◌, ◌*◌, drop}
use Rattle.imp_syntax.specs.Plain.{block_of, statement_size, block_size}
use Rattle.imp_print.specs.Statements.{block_text}
use Rattle.imp_print.proofs.statements.+put_stmt.Given as goal

abbrev pub decreases-put_stmt : goal.decreases-put_stmt
decreases-put_stmt l = 2 * statement_size l.stmt.now

abbrev pub decreases-put_block : goal.decreases-put_block
decreases-put_block l = 2 * block_size l.block.now

abbrev pub decreases-put_else : goal.decreases-put_else
decreases-put_else l = 2 * block_size l.otherwise.now + 2

abbrev pub decreases-put_inner : goal.decreases-put_inner
decreases-put_inner l = 2 * block_size l.block.now + 1

abbrev pub invariant-put_block-each : goal.invariant-put_block-each
invariant-put_block-each l = record {
  whole : block_of l.stmts ≡ l.block;
  so_far : l.text ++ block_text l.listing l.right (block_of (drop l.i l.stmts)) ≡ l.fn.text ++ block_text l.listing l.right l.block;
}

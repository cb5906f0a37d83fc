use Rattle.std.proofs.Common.{◌≡◌, drop}
use Rattle.imp_syntax.specs.Plain.{block_of}
use Rattle.imp_check.specs.Small.{small_block}
use Rattle.imp_check.specs.Statements.{block_fault}
use Rattle.imp_check.proofs.statements.+faults.Given as goal

abbrev pub decreases-block_fault : goal.decreases-block_fault
decreases-block_fault l = goal.size-block_fault l

abbrev pub decreases-statement_fault : goal.decreases-statement_fault
decreases-statement_fault l = goal.size-statement_fault l

-- what is left has the answer
abbrev pub invariant-block_fault-loop-stmt : goal.invariant-block_fault-loop-stmt
invariant-block_fault-loop-stmt l = record {
  is : block_of l.stmt-items ≡ l.block;
  left : block_fault l.scope l.inside (block_of (drop l.stmt-index l.stmt-items)) ≡ block_fault l.scope l.inside l.block;
  small : small_block (block_of (drop l.stmt-index l.stmt-items)) ≡ small_block l.block;
}

use Rattle.std.proofs.Common.{◌≡◌, ◌+◌, ◌-◌, ◌^◌, ◌≤◌, min, drop}
use Rattle.imp_syntax.specs.Plain.{block_of}
use Rattle.imp_check.specs.Programs.{block_count}
use Rattle.imp_check.proofs.counts.+counts.Given as goal

abbrev pub decreases-block_count : goal.decreases-block_count
decreases-block_count l = goal.size-block_count l

abbrev pub decreases-statement_count : goal.decreases-statement_count
decreases-statement_count l = goal.size-statement_count l

abbrev pub invariant-block_count-loop-stmt : goal.invariant-block_count-loop-stmt
invariant-block_count-loop-stmt l = record {
  is : block_of l.stmt-items ≡ l.block;
  small : l.total ≤ 2 ^ 32 - 1;
  told : min (l.total + block_count (block_of (drop l.stmt-index l.stmt-items))) (2 ^ 32 - 1) ≡ min (block_count l.block) (2 ^ 32 - 1);
}

use Rattle.std.proofs.Common.{◌≡◌, ◌+◌, ◌-◌, ◌^◌, ◌≤◌, min, drop, length}
use Rattle.imp_syntax.specs.Plain.{block_of}
use Rattle.imp_check.specs.Chains.{calls}
use Rattle.imp_check.proofs.chains.+calls.Given as goal

abbrev pub decreases-calls : goal.decreases-calls
decreases-calls l = goal.size-calls l

abbrev pub decreases-calls_in : goal.decreases-calls_in
decreases-calls_in l = goal.size-calls_in l

abbrev pub invariant-calls-loop-stmt : goal.invariant-calls-loop-stmt
invariant-calls-loop-stmt l = record {
  is : block_of l.stmt-items ≡ l.block;
  small : l.total ≤ 2 ^ 32 - 1;
  told : min (l.total + length (calls l.name (block_of (drop l.stmt-index l.stmt-items)))) (2 ^ 32 - 1) ≡ min (length (calls l.name l.block)) (2 ^ 32 - 1);
}

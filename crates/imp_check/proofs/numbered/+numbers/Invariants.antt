use Rattle.std.proofs.Common.{◌≡◌, ◌++◌, drop}
use Rattle.imp_syntax.specs.Plain.{block_of, numbers}
use Rattle.imp_check.proofs.numbered.+numbers.Given as goal

abbrev pub decreases-numbers : goal.decreases-numbers
decreases-numbers l = goal.size-numbers l

abbrev pub decreases-numbers_in : goal.decreases-numbers_in
decreases-numbers_in l = goal.size-numbers_in l

abbrev pub invariant-numbers-loop-stmt : goal.invariant-numbers-loop-stmt
invariant-numbers-loop-stmt l = record {
  is : block_of l.stmt-items ≡ l.block;
  told : l.all ++ numbers (block_of (drop l.stmt-index l.stmt-items)) ≡ l.initial.all ++ numbers l.block;
}

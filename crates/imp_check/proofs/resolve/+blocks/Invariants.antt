use Rattle.std.proofs.Common.{◌≡◌, drop}
use Rattle.imp_syntax.specs.Plain.{block_of}
use Rattle.imp_check.specs.Slots.{code_in}
use Rattle.imp_check.proofs.CodeLemmas.{code_then}
use Rattle.imp_check.proofs.resolve.+blocks.Given as goal

abbrev pub decreases-code_in : goal.decreases-code_in
decreases-code_in l = goal.size-code_in l

abbrev pub decreases-statement_in : goal.decreases-statement_in
decreases-statement_in l = goal.size-statement_in l

-- the statements so far, with those to come after them
abbrev pub invariant-code_in-loop-stmt : goal.invariant-code_in-loop-stmt
invariant-code_in-loop-stmt l = record {
  is : block_of l.stmt-items ≡ l.block;
  told : code_then l.nodes.items (code_in l.resolver (block_of (drop l.stmt-index l.stmt-items))) ≡ code_in l.resolver l.block;
}

use Rattle.std.proofs.Common.{◌≡◌, ◌+◌, ◌++◌, drop}
use Rattle.imp_slots.specs.Sizes.{code_size}
use Rattle.imp_slots.specs.BlockViews.{code_of, node_size}
use Rattle.fault_verdicts.specs.Statements.{evaluated_in}
use Rattle.fault_report.proofs.collect.+statements.Given as goal

abbrev pub decreases-add_statements : goal.decreases-add_statements
decreases-add_statements l = code_size l.block.now + 1

abbrev pub decreases-add_statement : goal.decreases-add_statement
decreases-add_statement l = node_size l.node.now

abbrev pub invariant-add_statements-loop-node : goal.invariant-add_statements-loop-node
invariant-add_statements-loop-node l = record {
  is : code_of l.node-items ≡ l.block;
  told : l.found ++ evaluated_in (code_of (drop l.node-index l.node-items)) ≡ l.initial.found ++ evaluated_in l.block;
}

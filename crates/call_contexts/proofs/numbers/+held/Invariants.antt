use Rattle.std.proofs.Common.{◌≡◌, ◌+◌, drop}
use Rattle.imp_slots.specs.Plain.{code_numbers}
use Rattle.imp_slots.specs.Sizes.{code_size}
use Rattle.imp_slots.specs.BlockViews.{code_of, node_size}
use Rattle.imp_chains.specs.Chains.{has}
use Rattle.call_contexts.proofs.numbers.+held.Given as goal

abbrev pub decreases-holds : goal.decreases-holds
decreases-holds l = code_size l.block.now + 1

abbrev pub decreases-is_held : goal.decreases-is_held
decreases-is_held l = node_size l.node.now

abbrev pub invariant-holds-loop-node : goal.invariant-holds-loop-node
invariant-holds-loop-node l = record {
  is : code_of l.node-items ≡ l.block;
  told : has l.number (code_numbers (code_of (drop l.node-index l.node-items))) ≡ has l.number (code_numbers l.block);
}

use Rattle.std.proofs.Common.{◌≡◌, ◌+◌, ◌++◌, drop, map}
use Rattle.imp_slots.specs.Sizes.{code_size}
use Rattle.imp_slots.specs.BlockViews.{code_of, node_size}
use Rattle.batch_meaning.specs.Report.{checked_in}
use Rattle.batch_interp.specs.Reporting.{claim_of, claims}
use Rattle.batch_interp.proofs.befores.+claims.Given as goal

abbrev pub decreases-add_claims : goal.decreases-add_claims
decreases-add_claims l = code_size l.block.now + 1

abbrev pub decreases-add_claims_in : goal.decreases-add_claims_in
decreases-add_claims_in l = node_size l.node.now

abbrev pub invariant-add_claims-loop-node : goal.invariant-add_claims-loop-node
invariant-add_claims-loop-node l = record {
  is : code_of l.node-items ≡ l.block;
  told : map claim_of l.found ++ claims (checked_in (code_of (drop l.node-index l.node-items))) ≡ map claim_of l.initial.found ++ claims (checked_in l.block);
}

use Rattle.std.proofs.Common.{◌≡◌, ◌++◌, drop}
use Rattle.imp_syntax.specs.Plain.{block_of}
use Rattle.imp_check.specs.Parts.{leaving}
use Rattle.imp_check.proofs.parts.+leaving.Given as goal

abbrev pub decreases-add_leaving : goal.decreases-add_leaving
decreases-add_leaving l = goal.size-add_leaving l

abbrev pub decreases-add_leaving_in : goal.decreases-add_leaving_in
decreases-add_leaving_in l = goal.size-add_leaving_in l

abbrev pub invariant-add_leaving-loop-stmt : goal.invariant-add_leaving-loop-stmt
invariant-add_leaving-loop-stmt l = record {
  is : block_of l.stmt-items ≡ l.block;
  told : l.breaks ++ leaving (block_of (drop l.stmt-index l.stmt-items)) ≡ l.initial.breaks ++ leaving l.block;
}

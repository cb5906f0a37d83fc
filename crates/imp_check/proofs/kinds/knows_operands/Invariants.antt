use Rattle.std.proofs.Common.{◌≡◌, drop}
use Rattle.imp_syntax.specs.ActionViews.{operands_of}
use Rattle.imp_check.specs.Kinds.{knows_operands}
use Rattle.imp_check.specs.Small.{small_operands}
use Rattle.imp_check.proofs.kinds.knows_operands.Given as goal

-- what is left has the answer
abbrev pub invariant-loop-side : goal.invariant-loop-side
invariant-loop-side l = record {
  left : knows_operands l.variables (operands_of (drop l.side-index l.sides)) ≡ knows_operands l.variables (operands_of l.sides);
  small : small_operands (operands_of (drop l.side-index l.sides)) ≡ small_operands (operands_of l.sides);
}

use Rattle.std.proofs.Common.{◌≡◌, ◌++◌, map, drop}
use Rattle.imp_syntax.specs.ActionViews.{operands_of}
use Rattle.imp_slots.specs.CallViews.{argument_of}
use Rattle.imp_check.specs.Slots.{arguments_in}
use Rattle.imp_check.proofs.terms.arguments_in.Given as goal

abbrev pub invariant-loop-side : goal.invariant-loop-side
invariant-loop-side l = map argument_of l.all ++ arguments_in l.slots (operands_of (drop l.side-index l.sides)) ≡ arguments_in l.slots (operands_of l.sides)

use Rattle.std.proofs.Common.{◌≡◌, drop}
use Rattle.imp_syntax.specs.Plain.{block_of}
use Rattle.edit_entries.specs.Gaps.{are_closed}
use Rattle.edit_breaks.proofs.closed.+closed.Given as goal

abbrev pub decreases-are_closed : goal.decreases-are_closed
decreases-are_closed l = goal.size-are_closed l

abbrev pub decreases-is_closed : goal.decreases-is_closed
decreases-is_closed l = goal.size-is_closed l

-- those from here on decide
abbrev pub invariant-are_closed-loop-stmt : goal.invariant-are_closed-loop-stmt
invariant-are_closed-loop-stmt l = record {
  is : block_of l.stmt-items ≡ l.block;
  told : are_closed l.inside (block_of (drop l.stmt-index l.stmt-items)) ≡ are_closed l.inside l.block;
}

use Rattle.std.proofs.Common.{◌≡◌, ◌++◌, length, reverse}
use Rattle.batch_interp.proofs.pieces.append.Given as goal

-- what is moved so far, with what is left, is all
abbrev pub invariant-loop-next : goal.invariant-loop-next
invariant-loop-next g l = l.all ++ reverse l.left ≡ l.initial.all ++ l.fn.more

abbrev pub decreases-loop-next : goal.decreases-loop-next
decreases-loop-next g l = length l.left

use Rattle.std.proofs.Common.{◌≡◌, ◌++◌, length, reverse}
use Rattle.batch_interp.specs.Handing.{all_handed}
use Rattle.batch_interp.proofs.calls.all_handed.Given as goal

-- what is handed down so far, with what is left, is all
abbrev pub invariant-loop-next : goal.invariant-loop-next
invariant-loop-next g l = l.all ++ all_handed (reverse l.before) (reverse l.left) ≡ all_handed l.fn.so_far l.fn.more

abbrev pub decreases-loop-next : goal.decreases-loop-next
decreases-loop-next g l = length l.left

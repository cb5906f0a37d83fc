use Rattle.std.proofs.Common.{◌≡◌, ◌++◌, length, reverse}
use Rattle.batch_interp.specs.Handing.{in_one}
use Rattle.batch_interp.proofs.pieces.in_one.Given as goal

-- the items so far, with those of the lists to come, are all
abbrev pub invariant-loop-part : goal.invariant-loop-part
invariant-loop-part g l = l.all ++ in_one (reverse l.left) ≡ in_one (reverse l.fn.parts)

abbrev pub decreases-loop-part : goal.decreases-loop-part
decreases-loop-part g l = length l.left

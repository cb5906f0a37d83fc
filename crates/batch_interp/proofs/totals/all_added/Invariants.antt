use Rattle.std.proofs.Common.{◌≡◌, ◌++◌, length, map, reverse}
use Rattle.batch_interp.specs.Answered.{value_of}
use Rattle.batch_interp.specs.Totalling.{all_added}
use Rattle.batch_interp.proofs.totals.all_added.Given as goal

-- what is added so far, with what is left, is all
abbrev pub invariant-loop-next : goal.invariant-loop-next
invariant-loop-next g l =
    let add = all_added (g.D.Domain.operations l.dom) in
    map value_of l.all ++ add (map value_of (reverse l.before)) (map value_of (reverse l.left)) ≡ add (map value_of (reverse l.fn.so_far)) (map value_of (reverse l.fn.more))

abbrev pub decreases-loop-next : goal.decreases-loop-next
decreases-loop-next g l = length l.left

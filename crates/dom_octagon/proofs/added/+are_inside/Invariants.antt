use Rattle.std.proofs.Common.{length}
use Rattle.dom_octagon.proofs.added.+are_inside.Given as goal

abbrev pub decreases-are_inside : goal.decreases-are_inside
decreases-are_inside l = length l.bounds.now

use Rattle.std.proofs.Common.{length}
use Rattle.dom_listseg.proofs.portable.+counts.Given as goal

abbrev pub decreases-counts : goal.decreases-counts
decreases-counts l = length l.layouts.now

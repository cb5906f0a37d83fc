use Rattle.dom_numeric.proofs.Expressions.{range_by-covers, range_by-range}
use Rattle.dom_numeric.proofs.ranges_hold.Goals as goal

pub returns : goal.returns
returns c = record { hold = range_by-covers; words = range_by-range }

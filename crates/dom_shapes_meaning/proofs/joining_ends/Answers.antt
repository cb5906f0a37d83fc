use Rattle.dom_shapes_meaning.proofs.ConvergenceLaws.{joins-end, widenings-end}
use Rattle.dom_shapes_meaning.proofs.joining_ends.Goals as goal

pub returns : goal.returns
returns c = record { joins = joins-end; widens = widenings-end }

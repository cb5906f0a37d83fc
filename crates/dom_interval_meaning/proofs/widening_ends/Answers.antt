use Rattle.dom_interval_meaning.proofs.ConvergenceLaws.{widening_does_end}
use Rattle.dom_interval_meaning.proofs.widening_ends.Goals as goal

pub returns : goal.returns
returns c = record { ends = widening_does_end }

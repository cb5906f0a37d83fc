use Rattle.dom_octagon_meaning.proofs.Convergence.{widening_ends}
use Rattle.dom_octagon_meaning.proofs.widening_ends.Goals as goal

pub returns : goal.returns
returns c = record { ends = widening_ends }

use Rattle.dom_octagon_meaning.specs.Covers.{covers}
use Rattle.dom_octagon_meaning.specs.Domain.{octagons}
use Rattle.dom_octagon_meaning.specs.Convergence.{most_changes}
use Rattle.dom_octagon_meaning.proofs.Laws.{octagon_laws}
use Rattle.batch_converges.specs.Converges.{until_widening}
use Rattle.batch_converges.proofs.Whole.{converges}
use Rattle.batch_converges.proofs.OfOctagons.{octagon_ending, octagon_grows}
use Rattle.batch_converges.proofs.laws.octagons_converge.Goals as goal

pub returns : goal.returns
returns c = record { end = converges octagons covers octagon_laws c.thresholds_rise.ensures.rising until_widening most_changes octagon_ending octagon_grows }

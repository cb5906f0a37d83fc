use Rattle.dom_listseg_meaning.specs.Covers.{covers}
use Rattle.dom_listseg_meaning.specs.Domain.{segments}
use Rattle.dom_listseg_meaning.proofs.Laws.{segments_laws}
use Rattle.batch_converges.specs.Converges.{from_the_first, most_graphs}
use Rattle.batch_converges.proofs.Whole.{converges}
use Rattle.batch_converges.proofs.OfSegments.{segment_ending, segment_grows}
use Rattle.batch_converges.proofs.laws.segments_converge.Goals as goal

pub returns : goal.returns
returns c = record { end = converges segments covers segments_laws c.thresholds_rise.ensures.rising from_the_first most_graphs segment_ending segment_grows }

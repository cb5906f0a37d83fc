use Rattle.dom_listseg_meaning.specs.Covers.{covers}
use Rattle.dom_shapes_meaning.specs.Domain.{shapes}
use Rattle.dom_shapes_meaning.proofs.Laws.{shapes_laws}
use Rattle.batch_converges.specs.Converges.{from_the_first, most_shapes}
use Rattle.batch_converges.proofs.Whole.{converges}
use Rattle.batch_converges.proofs.OfShapes.{shape_ending, shape_grows}
use Rattle.batch_converges.proofs.laws.shapes_converge.Goals as goal

pub returns : goal.returns
returns c = record { end = converges shapes covers shapes_laws c.thresholds_rise.ensures.rising from_the_first most_shapes shape_ending shape_grows }

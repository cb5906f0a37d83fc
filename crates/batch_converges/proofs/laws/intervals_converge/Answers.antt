use Rattle.dom_interval_meaning.specs.Covers.{covers}
use Rattle.dom_interval_meaning.specs.Domain.{intervals}
use Rattle.dom_interval_meaning.specs.Convergence.{most_changes}
use Rattle.dom_interval_meaning.proofs.Laws.{interval_laws}
use Rattle.batch_converges.specs.Converges.{until_widening}
use Rattle.batch_converges.proofs.Whole.{converges}
use Rattle.batch_converges.proofs.OfIntervals.{interval_ending, interval_grows}
use Rattle.batch_converges.proofs.laws.intervals_converge.Goals as goal

pub returns : goal.returns
returns c = record { end = converges intervals covers interval_laws c.thresholds_rise.ensures.rising until_widening most_changes interval_ending interval_grows }

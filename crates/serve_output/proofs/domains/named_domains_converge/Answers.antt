use Rattle.serve_command.specs.declared.job.DomainName.TheVariants.{Interval, Octagon, ListSeg, IntervalListSeg, OctagonListSeg, Shapes, IntervalShapes, OctagonShapes}
use Rattle.dom_interval_meaning.specs.Convergence.{most_changes}
use Rattle.dom_octagon_meaning.specs.Convergence.{most_changes as most_rises}
use Rattle.batch_converges.specs.Converges.{from_the_first, most_graphs, most_shapes, until_widening}
use Rattle.batch_converges.proofs.OfIntervals.{interval_ending, interval_grows}
use Rattle.batch_converges.proofs.OfOctagons.{octagon_ending, octagon_grows}
use Rattle.batch_converges.proofs.OfSegments.{segment_ending, segment_grows}
use Rattle.batch_converges.proofs.OfShapes.{shape_ending, shape_grows}
use Rattle.serve_output.specs.Settles.{NamedDomainsConverge}
use Rattle.serve_output.proofs.domains.named_domains_converge.Goals as goal

pub returns : goal.returns
returns c = record { end = each }
  where
    each : NamedDomainsConverge
    each Interval = c.intervals_converge.ensures.end
    each Octagon = c.octagons_converge.ensures.end
    each ListSeg = c.segments_converge.ensures.end
    each IntervalListSeg =
        c.products_converge.ensures.end (record {}) (record {}) until_widening from_the_first most_changes most_graphs interval_ending segment_ending interval_grows segment_grows
    each OctagonListSeg =
        c.products_converge-2.ensures.end (record {}) (record {}) until_widening from_the_first most_rises most_graphs octagon_ending segment_ending octagon_grows segment_grows
    each Shapes = c.shapes_converge.ensures.end
    each IntervalShapes =
        c.products_converge-3.ensures.end (record {}) (record {}) until_widening from_the_first most_changes most_shapes interval_ending shape_ending interval_grows shape_grows
    each OctagonShapes =
        c.products_converge-4.ensures.end (record {}) (record {}) until_widening from_the_first most_rises most_shapes octagon_ending shape_ending octagon_grows shape_grows

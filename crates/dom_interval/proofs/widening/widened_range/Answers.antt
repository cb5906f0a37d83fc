use Rattle.std.proofs.Common.{◌∙◌, int_le, if◌then◌else◌}
use Rattle.dom_interval_meaning.specs.Widening.{threshold_below, threshold_above}
use Rattle.dom_interval.proofs.Thresholds.{ends_ordered}
use Rattle.dom_interval.proofs.widening.widened_range.Goals as goal

pub between-requires : goal.between-requires
between-requires c =
    let ms = c.args.thresholds.now in
    let e = c.args.extremes in
    let p = c.low_end-low.ensures.exact ∙ (λ i. if int_le (c.low_of.ensures.exact i) (c.low_of-2.ensures.exact i) then c.low_of.ensures.exact i else threshold_below ms e (c.low_of-2.ensures.exact i)) in
    let q = c.high_end-high.ensures.exact ∙ (λ i. if int_le (c.high_of-2.ensures.exact i) (c.high_of.ensures.exact i) then c.high_of.ensures.exact i else threshold_above ms e (c.high_of-2.ensures.exact i)) in
    record { ordered = ends_ordered ms e c.args.l c.args.r c.low_end-low.result c.high_end-high.result p q c.low_of-2.ensures.ordered }

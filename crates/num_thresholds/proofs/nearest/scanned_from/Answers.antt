use Rattle.std.proofs.Common.{rules, get_or, ◌∙◌, refl}
use Rattle.std.specs.Prelude.{pos, FitsSigned}
use Rattle.std.specs.Int.{w64}
use Rattle.std.proofs.lemmas.Int.{to_z-of_z}
use Rattle.num_thresholds.proofs.NearestLemmas.{least-end, least-step}
use Rattle.num_thresholds.proofs.nearest.scanned_from.Goals as goal

pub loop-number-init : goal.loop-number-init
loop-number-init c = refl

pub loop-number-preserved : goal.loop-number-preserved
loop-number-preserved c =
    let f : FitsSigned w64 (get_or c.args.numbers.now c.loop-number.number-index (pos 0)) = search rules in
    rw (to_z-of_z w64 c.args.z c.ranges.z)
    (least-step c.args.numbers.now c.args.z c.loop-number.number-index c.loop-number.least c.least_with-least.result c.loop-number-test.true (rw (to_z-of_z w64 c.args.z c.ranges.z) at (rw (to_z-of_z w64 (get_or c.args.numbers.now c.loop-number.number-index (pos 0)) f) at c.least_with-least.ensures.is))
    ∙ (rw (to_z-of_z w64 c.args.z c.ranges.z) at c.loop-number.invariant))

pub returns : goal.returns
returns c = record { least = least-end c.args.numbers.now c.args.z c.loop-number.number-index c.loop-number.least _ c.loop-number-test.false (rw (to_z-of_z w64 c.args.z c.ranges.z) at c.loop-number.invariant) }

use Rattle.std.proofs.Common.{rules, get_or, ◌∙◌, refl}
use Rattle.std.specs.Prelude.{pos, FitsSigned}
use Rattle.std.specs.Int.{w64}
use Rattle.std.proofs.lemmas.Int.{to_z-of_z}
use Rattle.num_thresholds.proofs.NearestLemmas.{greatest-end, greatest-step}
use Rattle.num_thresholds.proofs.nearest.scanned_to.Goals as goal

pub loop-number-init : goal.loop-number-init
loop-number-init c = refl

pub loop-number-preserved : goal.loop-number-preserved
loop-number-preserved c =
    let f : FitsSigned w64 (get_or c.args.numbers.now c.loop-number.number-index (pos 0)) = search rules in
    rw (to_z-of_z w64 c.args.z c.ranges.z)
    (greatest-step c.args.numbers.now c.args.z c.loop-number.number-index c.loop-number.greatest c.greatest_with-greatest.result c.loop-number-test.true (rw (to_z-of_z w64 c.args.z c.ranges.z) at (rw (to_z-of_z w64 (get_or c.args.numbers.now c.loop-number.number-index (pos 0)) f) at c.greatest_with-greatest.ensures.is))
    ∙ (rw (to_z-of_z w64 c.args.z c.ranges.z) at c.loop-number.invariant))

pub returns : goal.returns
returns c = record { greatest = greatest-end c.args.numbers.now c.args.z c.loop-number.number-index c.loop-number.greatest _ c.loop-number-test.false (rw (to_z-of_z w64 c.args.z c.ranges.z) at c.loop-number.invariant) }

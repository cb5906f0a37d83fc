use Rattle.std.proofs.Common.{rules, get_or}
use Rattle.std.specs.Prelude.{pos, FitsSigned}
use Rattle.std.specs.Int.{w64}
use Rattle.std.proofs.lemmas.Int.{to_z-of_z}
use Rattle.num_thresholds.proofs.NearestLemmas.{seen-all, seen-next, seen-none}
use Rattle.num_thresholds.proofs.thresholds.is_rising.Goals as goal

pub loop-number-init : goal.loop-number-init
loop-number-init c = seen-none c.args.numbers.now _

pub loop-number-preserved : goal.loop-number-preserved
loop-number-preserved c =
    let f : FitsSigned w64 (get_or c.args.numbers.now c.loop-number.number-index (pos 0)) = search rules in
    rw (to_z-of_z w64 (get_or c.args.numbers.now c.loop-number.number-index (pos 0)) f)
    (seen-next c.args.numbers.now c.loop-number.number-index c.loop-number.rising c.is_still-rising.result _ c.loop-number.invariant f (rw (to_z-of_z w64 (get_or c.args.numbers.now c.loop-number.number-index (pos 0)) f) at c.is_still-rising.ensures.is))

pub returns : goal.returns
returns c = record { seen = seen-all c.args.numbers.now c.loop-number.number-index c.loop-number.rising _ c.loop-number-test.false c.loop-number.invariant }

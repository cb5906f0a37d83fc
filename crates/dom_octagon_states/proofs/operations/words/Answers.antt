use Rattle.std.specs.Prelude.{ℤ, ◌^◌, pos, neg_ℤ, ◌≤ℤ◌, ◌<ℤ◌, slice_index_or, FitsSigned}
use Rattle.std.specs.Int.{w64}
use Rattle.std.proofs.Common.{arith, below_more, rules}
use Rattle.std.proofs.lemmas.Int.{ints}
use Rattle.dom_octagon_states.proofs.operations.words.Goals as goal

fits : (x : ℤ) → FitsSigned w64 x → (neg_ℤ (pos (2 ^ 63)) ≤ℤ x) × (x <ℤ pos (2 ^ 63))
fits x f = (omega (arith, ints), omega (arith, ints))

pub loop-threshold-preserved : goal.loop-threshold-preserved
loop-threshold-preserved c =
    let f : FitsSigned w64 (slice_index_or c.args.thresholds.now c.loop-threshold.threshold-index (pos 0)) = search rules in
    below_more (λ k. (neg_ℤ (pos (2 ^ 63)) ≤ℤ slice_index_or c.args.thresholds.now k (pos 0)) × (slice_index_or c.args.thresholds.now k (pos 0) <ℤ pos (2 ^ 63))) c.loop-threshold.threshold-index c.loop-threshold.invariant
    (fits (slice_index_or c.args.thresholds.now c.loop-threshold.threshold-index (pos 0)) f)

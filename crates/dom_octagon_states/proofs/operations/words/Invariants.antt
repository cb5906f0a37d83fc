use Rattle.std.specs.Prelude.{ℕ, ◌<◌, ◌^◌, pos, neg_ℤ, ◌≤ℤ◌, ◌<ℤ◌, slice_index_or}
use Rattle.dom_octagon_states.proofs.operations.words.Given as goal

abbrev pub invariant-loop-threshold : goal.invariant-loop-threshold
invariant-loop-threshold l =
    (k : ℕ) → k < l.threshold-index → (neg_ℤ (pos (2 ^ 63)) ≤ℤ slice_index_or l.thresholds k (pos 0)) × (slice_index_or l.thresholds k (pos 0) <ℤ pos (2 ^ 63))

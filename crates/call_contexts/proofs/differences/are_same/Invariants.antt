use Rattle.std.proofs.Common.{ℕ, ◌≡◌, ◌<◌, length, slice_get}
use Rattle.call_contexts.proofs.differences.are_same.Given as goal

-- the same so far, and as many
abbrev pub invariant-loop-i : goal.invariant-loop-i
invariant-loop-i l = record {
  as_many : length l.numbers ≡ length l.others;
  same : (k : ℕ) → k < l.i → slice_get l.numbers k ≡ slice_get l.others k;
}

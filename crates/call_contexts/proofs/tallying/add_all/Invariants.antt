use Rattle.std.proofs.Common.{ℕ, ◌+◌, take}
use Rattle.call_contexts.specs.Tallies.{times, Tells, capped}
use Rattle.call_contexts.proofs.tallying.add_all.Given as goal

-- one more for each so far
abbrev pub invariant-loop-numbers : goal.invariant-loop-numbers
invariant-loop-numbers l = record { more : (f : ℕ → ℕ) → Tells l.initial.counts (λ n. capped (f n)) → Tells l.counts (λ n. capped (f n + times n (take l.numbers-index l.lists))) }

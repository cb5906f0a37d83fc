use Rattle.std.proofs.Common.{ℕ, ◌+◌, take}
use Rattle.call_contexts.specs.Tallies.{occurs, Tells, capped}
use Rattle.call_contexts.proofs.counts.add_each.Given as goal

-- one more for each so far
abbrev pub invariant-loop-item : goal.invariant-loop-item
invariant-loop-item l = record { more : (f : ℕ → ℕ) → Tells l.initial.counts.entries (λ n. capped (f n)) → Tells l.counts.entries (λ n. capped (f n + occurs n (take l.item-index l.numbers))) }

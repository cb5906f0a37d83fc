use Rattle.std.proofs.Common.{ℕ, ◌-◌, take}
use Rattle.call_contexts.specs.Tallies.{times, Tells}
use Rattle.call_contexts.proofs.tallying.take_all.Given as goal

-- one less for each so far
abbrev pub invariant-loop-numbers : goal.invariant-loop-numbers
invariant-loop-numbers l = record { less : (f : ℕ → ℕ) → Tells l.initial.counts f → Tells l.counts (λ n. f n - times n (take l.numbers-index l.lists)) }

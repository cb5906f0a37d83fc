use Rattle.std.proofs.Common.{ℕ, ◌-◌, take}
use Rattle.call_contexts.specs.Tallies.{occurs, Tells}
use Rattle.call_contexts.proofs.counts.take_each.Given as goal

-- one less for each so far
abbrev pub invariant-loop-item : goal.invariant-loop-item
invariant-loop-item l = record { less : (f : ℕ → ℕ) → Tells l.initial.counts.entries f → Tells l.counts.entries (λ n. f n - occurs n (take l.item-index l.numbers)) }

use Rattle.std.proofs.Common.{ℕ, ◌+◌, take}
use Rattle.imp_check.specs.Entries.{entries_of, entry_of}
use Rattle.call_contexts.specs.Differences.{lists_by}
use Rattle.call_contexts.specs.Tallies.{times, Tells, capped}
use Rattle.call_contexts.proofs.tallying.count_statements.Given as goal

-- one more for each so far
abbrev pub invariant-loop-stmt : goal.invariant-loop-stmt
invariant-loop-stmt l = record { more : (f : ℕ → ℕ) → Tells l.initial.counts (λ n. capped (f n)) → Tells l.counts (λ n. capped (f n + times n (lists_by (entry_of (entries_of l.prog)) (take l.stmt-index l.stmts)))) }
